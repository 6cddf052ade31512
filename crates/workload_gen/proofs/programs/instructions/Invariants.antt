use Rattle.std.proofs.Common.{All}
use Rattle.rv_decode.specs.Ranges.{IsInRange}
use Rattle.workload_gen.specs.Choices.{instruction}
use Rattle.workload_gen.specs.Programs.{head}
use Rattle.workload_gen.proofs.Drawing.{IsDrawing}
use Rattle.workload_gen.proofs.programs.instructions.Given as goal

abbrev pub invariant-loop : goal.invariant-loop
invariant-loop l = record {
  drawing : IsDrawing instruction l.seed 1000 (head l.base) l.counter l.draws l.instrs.items;
  range : All IsInRange l.instrs.items;
}
