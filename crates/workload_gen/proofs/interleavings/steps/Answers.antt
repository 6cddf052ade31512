use Rattle.std.proofs.Common.{[]}
use Rattle.workload_gen.specs.Choices.{step}
use Rattle.workload_gen.proofs.Drawing.{drawing_start, drawing_more, drawing_end}
use Rattle.workload_gen.proofs.interleavings.steps.Goals as goal

pub loop-init : goal.loop-init
loop-init c = drawing_start (step c.args.cores) c.args.seed c.args.count [] _ _ c.new-draws.ensures c.new-steps.ensures

pub loop-preserved : goal.loop-preserved
loop-preserved c =
    drawing_more (step c.args.cores) c.args.seed c.args.count [] c.loop.counter _ _ _ _ _ _ c.loop-test.true c.loop.invariant c.draw.ensures c.step.ensures
    c.in_ok-push.ensures.ok

pub returns : goal.returns
returns c = drawing_end (step c.args.cores) c.args.seed c.args.count [] c.loop.counter _ _ c.loop-test.false c.loop.invariant
