use Rattle.std.proofs.Common.{[]}
use Rattle.workload_gen.specs.Choices.{step}
use Rattle.workload_gen.proofs.Drawing.{IsDrawing}
use Rattle.workload_gen.proofs.interleavings.steps.Given as goal

abbrev pub invariant-loop : goal.invariant-loop
invariant-loop l = IsDrawing (step l.cores) l.seed l.count [] l.counter l.draws l.steps
