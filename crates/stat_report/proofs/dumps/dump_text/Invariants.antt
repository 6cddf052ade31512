use Rattle.std.proofs.Common.{◌≡◌, ◌++◌}
use Rattle.lockstep_model.specs.Views.{machine_of, values_of}
use Rattle.stat_report.specs.Dump.{dump_at, dump_of, lines_in}
use Rattle.stat_report.proofs.Places.{from}
use Rattle.stat_report.proofs.dumps.dump_text.Given as goal

-- with the lines that are left, the text is whole
abbrev pub invariant-loop-line : goal.invariant-loop-line
invariant-loop-line l = l.text ++ from (dump_at l.base (machine_of l.machine)) (lines_in (values_of l.machine.chans)) l.line ≡ dump_of l.base (machine_of l.machine)
