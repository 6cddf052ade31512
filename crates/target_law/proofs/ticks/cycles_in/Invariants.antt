use Rattle.std.proofs.Common.{◌≡◌, ◌+◌, drop, sum_by}
use Rattle.target_law.specs.Ticks.{cycles_of}
use Rattle.target_law.proofs.ticks.cycles_in.Given as goal

-- with what is left the sum comes to that of all
abbrev pub invariant-loop-note : goal.invariant-loop-note
invariant-loop-note l = l.sum + sum_by cycles_of (drop l.note-index l.notes) ≡ sum_by cycles_of l.notes
