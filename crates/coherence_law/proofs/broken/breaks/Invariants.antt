use Rattle.std.proofs.Common.{◌≡◌, ◌++◌}
use Rattle.lockstep_model.specs.Views.{machine_of, values_of}
use Rattle.coherence_law.specs.Breaks.{breaks_of, is_coherent, lines_in}
use Rattle.coherence_law.proofs.Testing.{broken_from}
use Rattle.coherence_law.proofs.broken.breaks.Given as goal

-- with the broken lines that are left, these are all
abbrev pub invariant-loop-line : goal.invariant-loop-line
invariant-loop-line l = l.broken ++ broken_from (is_coherent (machine_of l.machine)) (lines_in (values_of l.machine.chans)) l.line ≡ breaks_of (machine_of l.machine)
