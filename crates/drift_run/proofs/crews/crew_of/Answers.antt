use Rattle.std.proofs.Common.{◌≡◌, ◌⊎◌, inl, inr, [], ◌++◌, ◌∷◌, rules, arith}
use Rattle.manager.proofs.Opened.{none_of}
use Rattle.drift_run.proofs.Pushed.{crew_none, crew_whole, moved_on}
use Rattle.drift_run.proofs.crews.crew_of.Goals as goal

pub loop-core-init : goal.loop-core-init
loop-core-init g c = ([], [], search rules, search rules, crew_none _ c.new.ensures.items c.new-2.ensures c.new-3.ensures)

pub loop-core-preserved : goal.loop-core-preserved
loop-core-preserved g c =
    let h = c.loop-core.invariant in
    let now = c.loop-core.core-iterator in
    let next = c.next.new.self in (
      h.0 ++ c.in-Some.core ∷ [],
      h.1 ++ c.in-Some.pacer ∷ [],
      moved_on h.0 now.a.rest.items next.a.rest.items c.args.cores.items c.in-Some.core h.2 c.in-Some.ensures.steps.0.0,
      moved_on h.1 now.b.rest.items next.b.rest.items c.args.pacers.items c.in-Some.pacer h.3 c.in-Some.ensures.steps.1.0,
      c.in_ok-add.ensures h.0 h.1 h.4,
    )

pub returns : goal.returns
returns g c =
    let h = c.loop-core.invariant in
    let now = c.loop-core.core-iterator in
    let either : (now.a.rest.items ≡ []) ⊎ (now.b.rest.items ≡ []) = elim c.in-None.ensures.steps [
      | inl w ↦ inl (none_of now.a.rest.items (let count = w.1 in let whole = now.a.rest.ok.0 in omega (arith, count, whole)))
      | inr w ↦ inr (none_of now.b.rest.items (let count = w.1 in let whole = now.b.rest.ok.0 in omega (arith, count, whole)))
    ] in
    crew_whole h.0 now.a.rest.items c.args.cores.items h.1 now.b.rest.items c.args.pacers.items c.loop-core.crew h.2 h.3 c.requires.pacers h.4 either
