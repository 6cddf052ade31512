use Rattle.std.proofs.Common.{◌≡◌, drop}
use Rattle.drive_script.specs.Open.{IsOpen}
use Rattle.drive_script.specs.Views.{world_of}
use Rattle.drive_script.specs.Worlds.{stepped_all}
use Rattle.drive_script.proofs.drives.step_all.Given as goal

-- the steps that are left lead from here to where all of them led from the first
abbrev pub invariant-loop-step : goal.invariant-loop-step
invariant-loop-step g l =
    let rules = g.T.Target.rules l.target in
    let now = world_of g.T.Target.values l.world in
    record {
      opened : IsOpen rules (g.T.Target.owns l.target) now;
      world : stepped_all rules (drop l.step-index l.steps) now ≡ stepped_all rules l.steps (world_of g.T.Target.values l.fn.world);
    }
