use Rattle.std.proofs.Common.{◌≡◌, ◌+◌, drop, sum_by}
use Rattle.target_law.specs.Ticks.{replayed_of}
use Rattle.target_law.proofs.ticks.replayed_in.Given as goal

-- with what is left the sum comes to that of all
abbrev pub invariant-loop-note : goal.invariant-loop-note
invariant-loop-note l = l.sum + sum_by replayed_of (drop l.note-index l.notes) ≡ sum_by replayed_of l.notes
