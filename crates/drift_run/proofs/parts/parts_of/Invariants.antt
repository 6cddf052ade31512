use Rattle.std.proofs.Common.{◌≡◌, map}
use Rattle.drift_run.specs.Parts.{part_of, watch_of}
use Rattle.drift_run.proofs.parts.parts_of.Given as goal

-- of the actors so far
abbrev pub invariant-loop-actor : goal.invariant-loop-actor
invariant-loop-actor g l = record { parts : l.parts.items ≡ map part_of l.yielded; watches : l.watches.items ≡ map watch_of l.yielded }
