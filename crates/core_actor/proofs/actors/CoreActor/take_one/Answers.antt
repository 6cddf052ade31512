use Rattle.std.proofs.Common.{◌≡◌, ◌∙◌, ◌++◌, ◌-◌, List, length, ap, ap₂, refl, ℕ}
use Rattle.std.specs.List.{slice_get}
use Rattle.slack_base.specs.declared.histories.Taken.{Taken}
use Rattle.violation_watch.specs.Scan.{take_entries}
use Rattle.target_law.specs.Alone.{taking}
use Rattle.core_actor.specs.declared.actors.CoreActor.{CoreActor}
use Rattle.core_actor.proofs.Goes.{went_took}
use Rattle.core_actor.proofs.Steps.{next_of, took_of, last_is, on_ok}
use Rattle.core_actor.proofs.actors.CoreActor.take_one.Goals as goal

pub returns-clause-went : goal.returns-clause-went
returns-clause-went g c =
    let t = c.args.target.now in
    let rules = g.T.Target.rules t in
    let values = g.T.Target.values in
    let a : CoreActor g.row.C.Denot = c.args.self.now in
    let b : CoreActor g.row.C.Denot = record a { lane = c.take.new.self; watch = c.on_take.new.self } in
    let next = next_of rules a.pacer.number a.lane.posts.items c.requires.proper in
    let x : Taken = taking rules a.lane.clock (values.core a.lane.core).inner next.post in
    let took = took_of rules values a.lane.posts.items next.post next.rest a.lane c.take.new.self next.is c.in_ok-take.ensures in
    let one : c.in-Some.one.now ≡ x = last_is a.lane.taken c.take.new.self.taken x c.in-Some.one.now took.taken (c.in-Some.ensures.value ∙ ap (λ (xs : List Taken). slice_get xs (length xs - 1)) c.as_slice.ensures) in
    let seen = ap₂ (λ (n : ℕ) (y : Taken). record a.watch { found = a.watch.found ++ take_entries n c.args.end y }) c.number.ensures one in
    on_ok c.on_take.result
    (λ saw. went_took rules (g.T.Target.owns t) values c.args.end a b next.post next.rest c.requires.ready next.is next.own took (saw ∙ seen) refl refl refl)
    c.on_take.ensures.ok
