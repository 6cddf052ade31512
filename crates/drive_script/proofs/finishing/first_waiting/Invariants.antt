use Rattle.std.proofs.Common.{◌≡◌, ◌<◌, ℕ, None}
use Rattle.drive_script.specs.Views.{world_of}
use Rattle.drive_script.specs.Finishing.{oldest_post}
use Rattle.drive_script.proofs.finishing.first_waiting.Given as goal

-- no post waits for the cores so far
abbrev pub invariant-loop-place : goal.invariant-loop-place
invariant-loop-place g l = (j : ℕ) → j < l.place → oldest_post (world_of g.T.Target.values l.world).lanes j ≡ None
