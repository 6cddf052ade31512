use Rattle.std.proofs.Common.{◌∙◌, ◌+◌, ap, arith}
use Rattle.timed_core.specs.Outcomes.{asks}
use Rattle.timed_core.proofs.Noting.{noted_one}
use Rattle.timed_core.proofs.Stretches.{instruction_on, went_on}
use Rattle.timed_core.proofs.harts.Hart.run.Goals as goal

pub loop-outcome-preserved : goal.loop-outcome-preserved
loop-outcome-preserved c =
    let does = c.fetch-outcome.ensures.does in
    record {
      begun = omega (arith, c.loop-outcome.invariant.begun);
      within = omega (arith, c.loop-outcome.invariant.within, c.if-next-until.false);
      ready = (does 0).ready (c.is_ready.ensures.0 c.if-not-is_ready.false);
      same = (does 0).number ∙ c.loop-outcome.invariant.same;
      saved = c.fetch-outcome.ensures.saved ∙ c.loop-outcome.invariant.saved;
      noted = λ number. noted_one c.args.code.now number c.args.from c.loop-outcome.next c.args.self.now.value c.loop-outcome.self.value _ _ _
          c.loop-outcome.invariant.begun (c.loop-outcome.invariant.silent number) (c.loop-outcome.invariant.noted number) c.loop-outcome.invariant.ready c.fetch-outcome.ensures.noted;
      silent = λ number. went_on c.args.code.now number c.args.from c.args.self.now.value c.fetch-outcome.new.self.value (record { next = c.loop-outcome.next + 1; outcome = c.fetch-outcome.result })
          (instruction_on c.args.code.now number c.args.from c.loop-outcome.next c.args.self.now.value c.loop-outcome.self.value c.fetch-outcome.new.self.value c.fetch-outcome.result
          c.loop-outcome.invariant.begun c.loop-outcome.invariant.same (c.loop-outcome.invariant.silent number) c.loop-outcome.invariant.ready (does number)) (ap asks (c.is_ready.ensures.0 c.if-not-is_ready.false));
    }

pub returns-then-not-is_ready-clause-stretch : goal.returns-then-not-is_ready-clause-stretch
returns-then-not-is_ready-clause-stretch c = λ number.
    instruction_on c.args.code.now number c.args.from c.loop-outcome.next c.args.self.now.value c.loop-outcome.self.value c.fetch-outcome.new.self.value c.fetch-outcome.result
    c.loop-outcome.invariant.begun c.loop-outcome.invariant.same (c.loop-outcome.invariant.silent number) c.loop-outcome.invariant.ready (c.fetch-outcome.ensures.does number)

pub returns-then-not-is_ready-clause-noted : goal.returns-then-not-is_ready-clause-noted
returns-then-not-is_ready-clause-noted c = λ number.
    noted_one c.args.code.now number c.args.from c.loop-outcome.next c.args.self.now.value c.loop-outcome.self.value _ _ _
    c.loop-outcome.invariant.begun (c.loop-outcome.invariant.silent number) (c.loop-outcome.invariant.noted number) c.loop-outcome.invariant.ready c.fetch-outcome.ensures.noted
