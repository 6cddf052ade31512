use Rattle.std.proofs.Common.{◌++◌, ◌∙◌, ap, map, append_assoc, All, sym, subst, rules}
use Rattle.std.proofs.lemmas.List.Elements.{All-append, All-push}
use Rattle.rv_decode.specs.Ranges.{IsInRange}
use Rattle.workload_gen.specs.Choices.{instruction}
use Rattle.workload_gen.specs.Draws.{draws}
use Rattle.workload_gen.specs.Programs.{head, tail, program}
use Rattle.workload_gen.proofs.Drawing.{drawing_start, drawing_more, drawing_end}
use Rattle.workload_gen.proofs.programs.instructions.Goals as goal

pub loop-init : goal.loop-init
loop-init c = record {
  drawing =
      drawing_start instruction c.args.seed 1000 (head c.args.base) _ _ c.new-draws.ensures
      (c.in_ok-extend_from_slice.ensures.items ∙ ap (λ xs. xs ++ c.head.result) c.new-instrs.ensures.items ∙ c.head.ensures.value);
  range = search (rules, All-append);
}

pub loop-preserved : goal.loop-preserved
loop-preserved c = record {
  drawing =
      drawing_more instruction c.args.seed 1000 (head c.args.base) c.loop.counter _ _ _ _ _ _ c.loop-test.true c.loop.invariant.drawing c.draw.ensures
      c.instruction.ensures.value c.in_ok-push.ensures.items;
  range = subst (All IsInRange) (sym c.in_ok-push.ensures.items) (All-push IsInRange _ _ c.loop.invariant.range c.instruction.ensures.range);
}

pub returns-clause-value : goal.returns-clause-value
unfolding program
returns-clause-value c =
    let drawn = drawing_end instruction c.args.seed 1000 (head c.args.base) c.loop.counter _ _ c.loop-test.false c.loop.invariant.drawing in
    c.in_ok-extend_from_slice-2.ensures.items ∙ ap (λ xs. xs ++ c.tail.result) drawn ∙ ap (λ xs. (head c.args.base ++ map instruction (draws c.args.seed 1000)) ++ xs) c.tail.ensures.value ∙ append_assoc (head c.args.base) _ tail

pub returns-clause-range : goal.returns-clause-range
returns-clause-range c = search (rules, All-append)
