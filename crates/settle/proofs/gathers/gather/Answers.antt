use Rattle.std.proofs.Common.{◌≡◌, ◌∙◌, inl, inr, ◌+◌, ◌≤◌, [], ◌++◌, ◌∷◌, length, drop, suc, sym, subst, ap, arith}
use Rattle.std.proofs.lemmas.List.{length-append}
use Rattle.std.proofs.lemmas.Option.{slice_get_within}
use Rattle.manager.proofs.Opened.{none_of}
use Rattle.settle.proofs.Gathering.{AreGatheredSoFar, gathered_more}
use Rattle.settle.proofs.Lists.{drop_first, drop_rest, drop_none}
use Rattle.settle.proofs.gathers.gather.Goals as goal

pub lane_of-requires : goal.lane_of-requires
lane_of-requires g c =
    let h = c.loop-desk.invariant in
    let k = length c.loop-desk.lanes.items in
    let desk_at = drop_first k c.args.desks.items c.in-Some.desk c.next.new.self.a.rest.items (sym c.in-Some.ensures.steps.0.0 ∙ h.desks) in
    let part_at = drop_first k c.args.parts.items c.in-Some.part c.next.new.self.b.rest.items (sym c.in-Some.ensures.steps.1.0 ∙ h.parts) in
    c.requires.at k c.in-Some.desk c.in-Some.part desk_at part_at

pub loop-desk-preserved : goal.loop-desk-preserved
loop-desk-preserved g c =
    let h = c.loop-desk.invariant in
    let lanes = c.loop-desk.lanes.items in
    let k = length lanes in
    let desks = c.args.desks.items in
    let parts = c.args.parts.items in
    let next = c.next.new.self in
    let lane = c.in_ok-lane_of.field-0 in
    let desk_left = sym c.in-Some.ensures.steps.0.0 ∙ h.desks in
    let part_left = sym c.in-Some.ensures.steps.1.0 ∙ h.parts in
    let desk_at = drop_first k desks c.in-Some.desk next.a.rest.items desk_left in
    let part_at = drop_first k parts c.in-Some.part next.b.rest.items part_left in
    let grown = c.in_ok-push.ensures.items in
    let one : length (lanes ++ lane ∷ []) ≡ suc k = (let e : length (lanes ++ lane ∷ []) ≡ k + 1 = length-append lanes (lane ∷ []) in omega (arith, e)) in
    let more : suc k ≡ length c.push.new.self.items = sym (ap length grown ∙ one) in
    let inside = slice_get_within parts k c.in-Some.part part_at in
    record {
      desks = subst (λ n. next.a.rest.items ≡ drop n desks) more (drop_rest k desks c.in-Some.desk next.a.rest.items desk_left);
      parts = subst (λ n. next.b.rest.items ≡ drop n parts) more (drop_rest k parts c.in-Some.part next.b.rest.items part_left);
      few = omega (arith, more, inside);
      at = subst (AreGatheredSoFar desks parts) (sym grown) (gathered_more desks parts lanes c.in-Some.desk c.in-Some.part lane h.at desk_at part_at c.in_ok-lane_of.ensures);
    }

pub returns : goal.returns
returns g c =
    let h = c.loop-desk.invariant in
    let now = c.loop-desk.desk-iterator in
    let k = length c.loop-desk.lanes.items in
    let desks = c.args.desks.items in
    let parts = c.args.parts.items in
    let count = c.requires.count in
    let few = h.few in
    let enough : length parts ≤ k = elim c.in-None.ensures.steps [
      | inl w ↦ (let none = none_of now.a.rest.items (let left = w.1 in let whole = now.a.rest.ok.0 in omega (arith, left, whole)) in let all = drop_none k desks (sym none ∙ h.desks) in omega (arith, all, count))
      | inr w ↦ (let none = none_of now.b.rest.items (let left = w.1 in let whole = now.b.rest.ok.0 in omega (arith, left, whole)) in drop_none k parts (sym none ∙ h.parts))
    ] in
    record { count = omega (arith, enough, few); at = h.at }
