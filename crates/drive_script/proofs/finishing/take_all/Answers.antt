use Rattle.std.proofs.Common.{◌<◌, ◌∙◌, refl, sym, ap, subst}
use Rattle.slack_base.specs.declared.steps.Step.TheVariants.{Take}
use Rattle.drive_script.specs.Open.{IsOpen}
use Rattle.drive_script.specs.Views.{world_of}
use Rattle.drive_script.specs.Finishing.{Finishes, goes, takes, NoKey, oldest_id}
use Rattle.drive_script.specs.Loops.{ticks_left}
use Rattle.drive_script.specs.Worlds.{WorldValue}
use Rattle.drive_script.proofs.Waiting.{posts_waiting, take_less, take_left, take_served}
use Rattle.drive_script.proofs.Opened.{open_stepped}
use Rattle.drive_script.proofs.finishing.take_all.Goals as goal

pub loop-place-init : goal.loop-place-init
loop-place-init g c = record { opened = c.requires.open; leads = λ e f. f; served = c.requires.served; left = refl }

pub loop-place-smaller : goal.loop-place-smaller
loop-place-smaller g c =
    let rules = g.T.Target.rules c.args.target.now in
    let now = world_of g.T.Target.values c.loop-place.world in
    let next = c.in-Some.ensures.some in
    subst (λ (w : WorldValue g.T.Target.Inner g.T.Target.Channel). posts_waiting w.lanes < posts_waiting now.lanes) (sym c.in_ok-take.ensures)
    (take_less rules c.in-Some.place next.0 now next.1.here)

pub loop-place-preserved : goal.loop-place-preserved
loop-place-preserved g c =
    let t = c.args.target.now in
    let rules = g.T.Target.rules t in
    let owns = g.T.Target.owns t in
    let now = world_of g.T.Target.values c.loop-place.world in
    let h = c.loop-place.invariant in
    let next = c.in-Some.ensures.some in
    let e = c.in_ok-take.ensures in
    record {
      opened = subst (IsOpen rules owns) (sym e) (open_stepped rules owns (g.met.T.Target.laws t) (Take c.in-Some.place) now h.opened);
      leads = λ end f. h.leads end (goes (Take c.in-Some.place) (takes next.0 h.served next.1) (subst (λ w. Finishes rules w end) e f));
      served = subst (λ (w : WorldValue g.T.Target.Inner g.T.Target.Channel). NoKey (oldest_id w.lanes)) (sym e) (take_served rules c.in-Some.place now h.served);
      left = ap (λ (w : WorldValue g.T.Target.Inner g.T.Target.Channel). ticks_left w) e ∙ take_left rules c.in-Some.place now ∙ h.left;
    }
