use Rattle.std.proofs.Common.{◌∙◌, length, sym, arith, rules}
use Rattle.timed_core.proofs.Noting.{noted_more}
use Rattle.timed_core.proofs.Stretches.{more_ticks}
use Rattle.timed_core.proofs.timed_cores.TimedCore.advance.Goals as goal

pub loop-next-preserved : goal.loop-next-preserved
loop-next-preserved c = record {
  begun = omega (arith, c.loop-next.invariant.begun, c.in_ok-next.ensures.reached.0);
  within = c.in_ok-next.ensures.reached.1;
  ticks = more_ticks c.args.code.now c.args.from c.loop-next.next c.in_ok-next.next c.args.self.now.value c.loop-next.self.value c.part.new.self.value
      c.args.out.now c.loop-next.out c.part.new.out c.loop-next.invariant.ticks (sym c.len.ensures ∙ c.if-len-before.true ∙ c.len-before.ensures) c.loop-next.invariant.begun c.in_ok-next.ensures.reached.0 c.in_ok-next.ensures.ticks;
  saved = search rules;
  noted = noted_more c.args.code.now c.args.from c.loop-next.next c.in_ok-next.next c.args.self.now.value c.loop-next.self.value
      (length c.args.self.now.noted) (length c.loop-next.self.noted) (length c.part.new.self.noted)
      c.loop-next.invariant.begun c.in_ok-next.ensures.reached.0 c.loop-next.invariant.ticks.after c.loop-next.invariant.noted c.in_ok-next.ensures.noted;
}
