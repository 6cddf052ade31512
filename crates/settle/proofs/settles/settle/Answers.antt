use Rattle.std.proofs.Common.{◌∙◌, ◌≤◌, List, Option, length, take, sym, subst, ap, refl}
use Rattle.slack_base.specs.declared.messages.Ask.{Ask}
use Rattle.slack_base.specs.declared.stamps.Id.{Id}
use Rattle.violation_watch.specs.Watching.{SawServed}
use Rattle.drive_script.specs.Views.{world_of}
use Rattle.drive_script.proofs.Ending.{finish_drifts}
use Rattle.manager.specs.declared.managers.Desk.{Desk}
use Rattle.manager.specs.Places.{PlacePairs}
use Rattle.settle.specs.Gathers.{AreLinked}
use Rattle.settle.proofs.Growing.{all_even, first_within, first_saw, raw_saw, taken_more}
use Rattle.settle.proofs.WorldOf.{stored_open, stored_finishes, stored_underway, finishes_end}
use Rattle.settle.proofs.settles.settle.Goals as goal

pub gather-requires : goal.gather-requires
gather-requires g c = subst (λ (ds : List Desk). PlacePairs (λ _. AreLinked) ds c.args.parts.items) (sym (ap (λ v. v.items) c.into_raw-chans.ensures.1)) c.requires.ends

pub finish-requires-after_bounds : goal.finish-requires-after_bounds
finish-requires-after_bounds g c κs bounds =
    let t = c.args.target.now in
    let raw = c.into_raw-chans in
    stored_open (g.T.Target.rules t) (g.T.Target.owns t) g.T.Target.values c.args.manager c.args.parts.items c.in_ok-lanes.lanes.items c.args.end c.requires.manager c.requires.parts c.requires.ends.count
    raw.result.0.items raw.result.1.items raw.result.2 raw.result.3 (ap (λ v. v.items) raw.ensures.0) (ap (λ v. v.items) raw.ensures.1) raw.ensures.2 raw.ensures.3 c.in_ok-lanes.ensures c.requires.top

pub watch_served-requires-clause-count : goal.watch_served-requires-clause-count
watch_served-requires-clause-count g c κs bounds =
    let raw = c.into_raw-chans in
    let rules = g.T.Target.rules c.args.target.now in
    ap length c.as_slice-2.ensures
    ∙ all_even rules raw.result.2 raw.result.3 raw.result.4 (raw_saw rules c.args.manager.clashes c.args.manager.served c.args.manager.watch raw.result.2 raw.result.3 raw.result.4 c.requires.manager.watch raw.ensures.2 raw.ensures.3 raw.ensures.4)
    _ (world_of g.T.Target.values c.finish.new.world) refl refl c.in_ok-finish.ensures.world
    ∙ sym (ap length c.as_slice.ensures)

pub watch_served-requires-clause-from : goal.watch_served-requires-clause-from
watch_served-requires-clause-from g c κs bounds =
    let raw = c.into_raw-chans in
    let rules = g.T.Target.rules c.args.target.now in
    let within = first_within rules raw.result.2 raw.result.3 raw.result.4 (raw_saw rules c.args.manager.clashes c.args.manager.served c.args.manager.watch raw.result.2 raw.result.3 raw.result.4 c.requires.manager.watch raw.ensures.2 raw.ensures.3 raw.ensures.4)
    _ (world_of g.T.Target.values c.finish.new.world) refl refl c.in_ok-finish.ensures.world in
    subst (λ n. n ≤ length c.as_slice.result.now) (sym c.len-from.ensures) (subst (λ (xs : List Ask). length raw.result.2 ≤ length xs) (sym c.as_slice.ensures) within)

pub watch_served-requires-clause-saw : goal.watch_served-requires-clause-saw
watch_served-requires-clause-saw g c κs bounds =
    let raw = c.into_raw-chans in
    let rules = g.T.Target.rules c.args.target.now in
    let first = first_saw rules raw.result.2 raw.result.3 raw.result.4 (raw_saw rules c.args.manager.clashes c.args.manager.served c.args.manager.watch raw.result.2 raw.result.3 raw.result.4 c.requires.manager.watch raw.ensures.2 raw.ensures.3 raw.ensures.4)
    _ (world_of g.T.Target.values c.finish.new.world) refl refl c.in_ok-finish.ensures.world c.len-from.result c.len-from.ensures in
    subst (λ (hs : List (Option Id)). SawServed rules (take c.len-from.result hs) (take c.len-from.result c.as_slice.result.now) raw.result.4) (sym c.as_slice-2.ensures)
    (subst (λ (xs : List Ask). SawServed rules (take c.len-from.result c.finish.new.world.clashes) (take c.len-from.result xs) raw.result.4) (sym c.as_slice.ensures) first)

pub returns-clause-end : goal.returns-clause-end
returns-clause-end g c = finishes_end (g.T.Target.rules c.args.target.now) c.in_ok-finish.ensures.world

pub returns-clause-finishes : goal.returns-clause-finishes
returns-clause-finishes g c =
    let t = c.args.target.now in
    let raw = c.into_raw-chans in
    stored_finishes (g.T.Target.rules t) (g.T.Target.owns t) g.T.Target.values c.args.manager c.args.parts.items c.in_ok-lanes.lanes.items c.args.end c.requires.manager c.requires.parts c.requires.ends.count
    raw.result.0.items raw.result.1.items raw.result.2 raw.result.3 (ap (λ v. v.items) raw.ensures.0) (ap (λ v. v.items) raw.ensures.1) raw.ensures.2 raw.ensures.3 c.in_ok-lanes.ensures _ c.in_ok-finish.ensures.world

pub returns-clause-taken : goal.returns-clause-taken
returns-clause-taken g c =
    let raw = c.into_raw-chans in
    let count = c.requires.ends.count ∙ ap (λ v. length v.items) (sym raw.ensures.1) in
    taken_more (g.T.Target.rules c.args.target.now) g.T.Target.values raw.result.1.items c.args.parts.items c.in_ok-lanes.lanes.items c.finish.new.world.lanes.items _ (world_of g.T.Target.values c.finish.new.world)
    count c.in_ok-lanes.ensures refl refl c.in_ok-finish.ensures.world

pub returns-clause-drift : goal.returns-clause-drift
returns-clause-drift g c =
    let t = c.args.target.now in
    let rules = g.T.Target.rules t in
    let owns = g.T.Target.owns t in
    let values = g.T.Target.values in
    let raw = c.into_raw-chans in
    let m = c.args.manager in
    let parts = c.args.parts.items in
    let lanes = c.in_ok-lanes.lanes.items in
    λ s k end proper went.
    finish_drifts rules owns (g.met.T.Target.laws t) s k proper c.in_ok-finish.ensures.world end
    (stored_open rules owns values m parts lanes c.args.end c.requires.manager c.requires.parts c.requires.ends.count
    raw.result.0.items raw.result.1.items raw.result.2 raw.result.3 (ap (λ v. v.items) raw.ensures.0) (ap (λ v. v.items) raw.ensures.1) raw.ensures.2 raw.ensures.3 c.in_ok-lanes.ensures c.requires.top)
    (stored_underway rules owns values m parts lanes c.args.end c.requires.manager c.requires.parts c.requires.ends.count
    raw.result.0.items raw.result.1.items raw.result.2 raw.result.3 (ap (λ v. v.items) raw.ensures.0) (ap (λ v. v.items) raw.ensures.1) raw.ensures.2 raw.ensures.3 c.in_ok-lanes.ensures s went)
