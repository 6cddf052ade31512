use Rattle.std.proofs.Common.{ℕ, nat_lt}
use Rattle.drive_script.specs.Views.{world_of}
use Rattle.drive_script.specs.Finishing.{open_clock}
use Rattle.drive_script.proofs.Picks.{IsBest}
use Rattle.drive_script.proofs.finishing.slowest.Given as goal

-- of the places so far the best is the first with the least clock
abbrev pub invariant-loop-place : goal.invariant-loop-place
invariant-loop-place g l = IsBest ℕ nat_lt (open_clock l.world.end (world_of g.T.Target.values l.world).lanes) l.place l.best
