use Rattle.std.proofs.Common.{◌<◌, ◌∙◌, refl, sym, ap, subst}
use Rattle.slack_base.specs.declared.steps.Step.TheVariants.{Serve}
use Rattle.drive_script.specs.Open.{IsOpen}
use Rattle.drive_script.specs.Views.{world_of}
use Rattle.drive_script.specs.Finishing.{Finishes, goes, serves}
use Rattle.drive_script.specs.Loops.{ticks_left}
use Rattle.drive_script.specs.Worlds.{WorldValue}
use Rattle.drive_script.proofs.Waiting.{asks_waiting, serve_less, serve_left}
use Rattle.drive_script.proofs.Opened.{open_stepped}
use Rattle.drive_script.proofs.Rising.{oldest_of_all}
use Rattle.drive_script.proofs.finishing.serve_all.Goals as goal

pub loop-place-init : goal.loop-place-init
loop-place-init g c = record { opened = c.requires; leads = λ e f. f; left = refl }

pub loop-place-smaller : goal.loop-place-smaller
loop-place-smaller g c =
    let rules = g.T.Target.rules c.args.target.now in
    let now = world_of g.T.Target.values c.loop-place.world in
    let next = c.in-Some.ensures.some in
    subst (λ (w : WorldValue g.T.Target.Inner g.T.Target.Channel). asks_waiting w.lanes < asks_waiting now.lanes) (sym c.in_ok-serve.ensures)
    (serve_less rules c.in-Some.place next.0 now next.1.here)

pub loop-place-preserved : goal.loop-place-preserved
loop-place-preserved g c =
    let t = c.args.target.now in
    let rules = g.T.Target.rules t in
    let owns = g.T.Target.owns t in
    let now = world_of g.T.Target.values c.loop-place.world in
    let h = c.loop-place.invariant in
    let next = c.in-Some.ensures.some in
    let e = c.in_ok-serve.ensures in
    record {
      opened = subst (IsOpen rules owns) (sym e) (open_stepped rules owns (g.met.T.Target.laws t) (Serve c.in-Some.place) now h.opened);
      leads = λ end f. h.leads end (goes (Serve c.in-Some.place) (serves next.0 (oldest_of_all rules owns now.end now.lanes c.in-Some.place next.0 h.opened.lanes next.1)) (subst (λ w. Finishes rules w end) e f));
      left = ap (λ (w : WorldValue g.T.Target.Inner g.T.Target.Channel). ticks_left w) e ∙ serve_left rules c.in-Some.place now ∙ h.left;
    }
