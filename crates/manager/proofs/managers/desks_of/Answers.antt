use Rattle.std.proofs.Common.{◌≡◌, ◌∙◌, ◌⊎◌, inl, inr, [], ◌++◌, All, map, sym, subst, ap, arith}
use Rattle.std.proofs.lemmas.List.Elements.{All-push}
use Rattle.manager.specs.declared.managers.Desk.{Desk}
use Rattle.manager.proofs.Opened.{made_more, made_first, made_second, none_of}
use Rattle.manager.proofs.managers.desks_of.Goals as goal

pub loop-asks-preserved : goal.loop-asks-preserved
loop-asks-preserved c =
    let h = c.loop-asks.invariant in
    let before = c.loop-asks.desks.items in
    let now = c.loop-asks.asks-iterator in
    let next = c.next.new.self in
    let d : Desk = record { asks = c.in-Some.asks; pending = c.new.result; posts = c.in-Some.posts } in
    let grown = sym c.in_ok-push.ensures.items in
    record {
      receivers = ap (λ ds. map (λ (desk : Desk). desk.asks) ds ++ next.a.rest.items) (sym grown) ∙ made_more (λ (desk : Desk). desk.asks) before d now.a.rest.items next.a.rest.items c.args.receivers.items h.receivers c.in-Some.ensures.steps.0.0;
      senders = ap (λ ds. map (λ (desk : Desk). desk.posts) ds ++ next.b.rest.items) (sym grown) ∙ made_more (λ (desk : Desk). desk.posts) before d now.b.rest.items next.b.rest.items c.args.senders.items h.senders c.in-Some.ensures.steps.1.0;
      pending = subst (All (λ (desk : Desk). desk.pending.items ≡ [])) grown (All-push (λ (desk : Desk). desk.pending.items ≡ []) before d h.pending c.new.ensures.items);
    }

pub returns-clause-receivers : goal.returns-clause-receivers
returns-clause-receivers c =
    let h = c.loop-asks.invariant in
    let now = c.loop-asks.asks-iterator in
    let either : (now.a.rest.items ≡ []) ⊎ (now.b.rest.items ≡ []) = elim c.in-None.ensures.steps [
      | inl w ↦ inl (none_of now.a.rest.items (let count = w.1 in let whole = now.a.rest.ok.0 in omega (arith, count, whole)))
      | inr w ↦ inr (none_of now.b.rest.items (let count = w.1 in let whole = now.b.rest.ok.0 in omega (arith, count, whole)))
    ] in
    made_first (λ (desk : Desk). desk.asks) (λ (desk : Desk). desk.posts) c.loop-asks.desks.items now.a.rest.items c.args.receivers.items now.b.rest.items c.args.senders.items h.receivers h.senders c.requires either

pub returns-clause-senders : goal.returns-clause-senders
returns-clause-senders c =
    let h = c.loop-asks.invariant in
    let now = c.loop-asks.asks-iterator in
    let either : (now.a.rest.items ≡ []) ⊎ (now.b.rest.items ≡ []) = elim c.in-None.ensures.steps [
      | inl w ↦ inl (none_of now.a.rest.items (let count = w.1 in let whole = now.a.rest.ok.0 in omega (arith, count, whole)))
      | inr w ↦ inr (none_of now.b.rest.items (let count = w.1 in let whole = now.b.rest.ok.0 in omega (arith, count, whole)))
    ] in
    made_second (λ (desk : Desk). desk.asks) (λ (desk : Desk). desk.posts) c.loop-asks.desks.items now.a.rest.items c.args.receivers.items now.b.rest.items c.args.senders.items h.receivers h.senders c.requires either
