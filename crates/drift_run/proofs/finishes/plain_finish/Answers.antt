use Rattle.std.proofs.Common.{◌+◌, sym, subst, ap, refl, List}
use Rattle.manager.specs.Places.{PlacePairs}
use Rattle.settle.specs.Gathers.{AreLinked}
use Rattle.settle.specs.Parts.{IsReadyPart, AreUnderway}
use Rattle.settle.specs.Settles.{FinishesFrom}
use Rattle.settle.specs.declared.parts.Part.{Part}
use Rattle.slack_base.specs.declared.histories.Drift.{Drift}
use Rattle.target_law.specs.Drifts.{IsDrift}
use Rattle.target_law.specs.Numbered.{AllNumbered}
use Rattle.target_law.specs.Views.{state_of}
use Rattle.drive_script.specs.Scripts.{history, closed}
use Rattle.drive_script.specs.Views.{world_of}
use Rattle.drift_run.specs.Holds.{KeepsHolds}
use Rattle.drift_run.specs.Parts.{HasSeenFirst}
use Rattle.drift_run.proofs.Drifted.{whole_len, whole_seen, whole_drift, whole_proper}
use Rattle.drift_run.proofs.Holding.{keeps_of, held_order}
use Rattle.drift_run.proofs.Leaving.{parts_ready, parts_linked, underway, seen_first, seen_all}
use Rattle.drift_run.proofs.finishes.plain_finish.Goals as goal

pub settle-requires-clause-parts : goal.settle-requires-clause-parts
settle-requires-clause-parts g c κs bounds =
    let t = c.args.target.now in
    let rules = g.T.Target.rules t in
    let owns = g.T.Target.owns t in
    let values = g.T.Target.values in
    let ran = c.requires.ran in
    let left = ran.left' in
    let rig = c.args.rig in
    let end = c.args.start + c.args.len in
    subst (AllNumbered (IsReadyPart rules owns values end) 0) (sym c.in_ok-parts.ensures.parts)
    (parts_ready rules owns values ran.holds end left.manager rig.manager left.actors rig.actors.items left.ready left.led left.ran)

pub settle-requires-clause-ends : goal.settle-requires-clause-ends
settle-requires-clause-ends g c κs bounds =
    let t = c.args.target.now in
    let rules = g.T.Target.rules t in
    let owns = g.T.Target.owns t in
    let values = g.T.Target.values in
    let ran = c.requires.ran in
    let left = ran.left' in
    let rig = c.args.rig in
    let end = c.args.start + c.args.len in
    subst (PlacePairs (λ _. AreLinked) rig.manager.desks.items) (sym c.in_ok-parts.ensures.parts)
    (parts_linked rules owns values ran.holds end left.manager rig.manager left.actors rig.actors.items left.ready left.led left.ran)

pub see_rest-requires : goal.see_rest-requires
see_rest-requires g c =
    let t = c.args.target.now in
    let rules = g.T.Target.rules t in
    let owns = g.T.Target.owns t in
    let values = g.T.Target.values in
    let ran = c.requires.ran in
    let left = ran.left' in
    let rig = c.args.rig in
    let end = c.args.start + c.args.len in
    let world = c.in_ok-world.field-0.world in
    let finishes = subst (λ (ps : List (Part g.row.T-Core.Denot)). FinishesFrom rules values (c.args.start + c.args.len) c.args.rig.manager ps (world_of values world)) c.in_ok-parts.ensures.parts c.in_ok-world.ensures.finishes in
    subst (PlacePairs (HasSeenFirst end) c.as_slice.result.now) (sym c.in_ok-parts.ensures.watches)
    (seen_first rules owns values ran.holds end left.manager rig.manager left.actors rig.actors.items left.ready left.led left.ran c.as_slice.result.now world c.as_slice.ensures.value finishes)

pub returns-clause-drift : goal.returns-clause-drift
returns-clause-drift g c = λ s slack holds at left.
    let t = c.args.target.now in
    let rules = g.T.Target.rules t in
    let owns = g.T.Target.owns t in
    let values = g.T.Target.values in
    let world = c.in_ok-world.field-0.world in
    let rig = c.args.rig in
    let end = c.args.start + c.args.len in
    let drift = c.in_ok-world.ensures.drift s c.args.len (ap (λ k. k + c.args.len) (sym at)) left.proper
    (subst (AreUnderway rules values s rig.manager) (sym c.in_ok-parts.ensures.parts)
    (underway rules owns values holds end left.manager rig.manager left.actors rig.actors.items left.ready left.led left.ran s left.come)) in
    whole_drift rules c.args.start c.args.len (world_of values world) c.in_ok-end.drift (state_of values c.in_ok-end.end) c.in_ok-end.ensures.drift c.in_ok-end.ensures.end s (subst (λ k. IsDrift rules s (history k c.args.len (world_of values world)) (closed rules (world_of values world))) at drift)

pub returns-clause-len : goal.returns-clause-len
returns-clause-len g c =
    let t = c.args.target.now in
    let rules = g.T.Target.rules t in
    let owns = g.T.Target.owns t in
    let values = g.T.Target.values in
    let world = c.in_ok-world.field-0.world in
    whole_len rules c.args.start c.args.len (world_of values world) c.in_ok-end.drift (state_of values c.in_ok-end.end) c.in_ok-end.ensures.drift c.in_ok-end.ensures.end

pub returns-clause-proper : goal.returns-clause-proper
returns-clause-proper g c =
    let t = c.args.target.now in
    let rules = g.T.Target.rules t in
    let owns = g.T.Target.owns t in
    let values = g.T.Target.values in
    let world = c.in_ok-world.field-0.world in
    whole_proper rules c.args.start c.args.len (world_of values world) c.in_ok-end.drift (state_of values c.in_ok-end.end) c.in_ok-end.ensures.drift c.in_ok-end.ensures.end owns (g.met.T.Target.laws t) c.in_ok-world.ensures.open

pub returns-clause-seen : goal.returns-clause-seen
returns-clause-seen g c =
    let t = c.args.target.now in
    let rules = g.T.Target.rules t in
    let owns = g.T.Target.owns t in
    let values = g.T.Target.values in
    let world = c.in_ok-world.field-0.world in
    whole_seen rules c.args.start c.args.len (world_of values world) c.in_ok-end.drift (state_of values c.in_ok-end.end) c.in_ok-end.ensures.drift c.in_ok-end.ensures.end c.in_ok-seen.seen
    (seen_all rules values (c.args.start + c.args.len) c.args.start c.args.len c.in_ok-seen.seen c.into_found.result c.in_ok-world.field-0.watch world c.as_slice.result.now refl c.in_ok-world.ensures.watch c.into_found.ensures c.as_slice.ensures.value c.in_ok-seen.ensures)

pub returns-clause-holds : goal.returns-clause-holds
returns-clause-holds g c = λ s slack holds at left.
    let t = c.args.target.now in
    let rules = g.T.Target.rules t in
    let owns = g.T.Target.owns t in
    let values = g.T.Target.values in
    let world = c.in_ok-world.field-0.world in
    let finishes = subst (λ (ps : List (Part g.row.T-Core.Denot)). FinishesFrom rules values (c.args.start + c.args.len) c.args.rig.manager ps (world_of values world)) c.in_ok-parts.ensures.parts c.in_ok-world.ensures.finishes in
    let rig = c.args.rig in
    let end = c.args.start + c.args.len in
    let keeps = keeps_of holds rules.cores slack s.clock c.args.len world.served (λ core inside held.
    held_order rules owns values holds end left.manager rig.manager left.actors rig.actors.items left.ready left.led left.ran s slack c.args.len core (ap (λ k. k + c.args.len) (sym at)) left.come left.opening held
    (g.met.T.Target.laws t) c.requires.top inside (world_of values world) finishes) in
    subst (KeepsHolds holds rules.cores slack c.args.start c.args.len) (sym (ap (λ (d : Drift). d.served) c.in_ok-end.ensures.drift))
    (subst (λ k. KeepsHolds holds rules.cores slack k c.args.len world.served) at keeps)
