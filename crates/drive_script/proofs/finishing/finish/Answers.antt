use Rattle.std.proofs.Common.{◌<◌, ◌∙◌, sym, ap, subst}
use Rattle.slack_base.specs.declared.steps.Step.TheVariants.{Tick}
use Rattle.drive_script.specs.Open.{IsOpen}
use Rattle.drive_script.specs.Views.{world_of}
use Rattle.drive_script.specs.Finishing.{Finishes, done, goes, ticks}
use Rattle.drive_script.specs.Loops.{ticks_left}
use Rattle.drive_script.specs.Worlds.{WorldValue}
use Rattle.drive_script.proofs.Waiting.{tick_less}
use Rattle.drive_script.proofs.Opened.{open_stepped}
use Rattle.drive_script.proofs.finishing.finish.Goals as goal

pub loop-place-init : goal.loop-place-init
loop-place-init g c = record {
  opened = c.in_ok-take_all.ensures.open;
  leads = λ e f. c.in_ok-serve_all.ensures.leads e (c.in_ok-take_all.ensures.leads e f);
  served = c.in_ok-take_all.ensures.served;
  taken = c.in_ok-take_all.ensures.taken;
}

pub serve_all-requires-in-Some-after_bounds : goal.serve_all-requires-in-Some-after_bounds
serve_all-requires-in-Some-after_bounds g c κs bounds =
    let t = c.args.target.now in
    let rules = g.T.Target.rules t in
    let owns = g.T.Target.owns t in
    subst (IsOpen rules owns) (sym c.in_ok-tick.ensures)
    (open_stepped rules owns (g.met.T.Target.laws t) (Tick c.in-Some.place) (world_of g.T.Target.values c.loop-place.world) c.loop-place.invariant.opened)

pub loop-place-smaller : goal.loop-place-smaller
loop-place-smaller g c =
    let rules = g.T.Target.rules c.args.target.now in
    let now = world_of g.T.Target.values c.loop-place.world in
    let next = c.in-Some.ensures.some in
    let same = c.in_ok-take_all-2.ensures.left ∙ c.in_ok-serve_all-2.ensures.left ∙ ap (λ (w : WorldValue g.T.Target.Inner g.T.Target.Channel). ticks_left w) c.in_ok-tick.ensures in
    subst (λ n. n < ticks_left now) (sym same) (tick_less rules c.in-Some.place next.0 now next.1.here)

pub loop-place-preserved : goal.loop-place-preserved
loop-place-preserved g c =
    let rules = g.T.Target.rules c.args.target.now in
    let h = c.loop-place.invariant in
    let next = c.in-Some.ensures.some in
    record {
      opened = c.in_ok-take_all-2.ensures.open;
      leads = λ end f.
          h.leads end
          (goes (Tick c.in-Some.place) (ticks next.0 h.served h.taken next.1)
          (subst (λ w. Finishes rules w end) c.in_ok-tick.ensures (c.in_ok-serve_all-2.ensures.leads end (c.in_ok-take_all-2.ensures.leads end f))));
      served = c.in_ok-take_all-2.ensures.served;
      taken = c.in_ok-take_all-2.ensures.taken;
    }

pub returns-clause-world : goal.returns-clause-world
returns-clause-world g c =
    let h = c.loop-place.invariant in
    h.leads (world_of g.T.Target.values c.loop-place.world) (done (record { served = h.served; taken = h.taken; ended = c.in_default.ensures.none }))
