use Rattle.std.proofs.Common.{◌≡◌, drop, map}
use Rattle.slack_base.specs.Checks.{first_fault}
use Rattle.image_load.specs.LoadChecks.{overlap_check}
use Rattle.image_load.proofs.load_checks.overlap.Given as goal

-- the pieces before this one are apart
abbrev pub invariant-loop-other : goal.invariant-loop-other
invariant-loop-other l = first_fault (map (overlap_check l.load) (drop l.other-index l.earlier)) ≡ first_fault (map (overlap_check l.load) l.earlier)
