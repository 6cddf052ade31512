use Rattle.std.proofs.Common.{◌∙◌, ℕ, refl, arith, rules}
use Rattle.timed_core.specs.Stretches.{IsStretch}
use Rattle.timed_core.specs.declared.outcomes.Outcome.TheVariants.{Rests}
use Rattle.timed_core.proofs.Noting.{noted_on}
use Rattle.timed_core.proofs.Stretches.{silent_stretch, stretch_on, went_on}
use Rattle.timed_core.proofs.harts.Hart.long_stretch.Goals as goal

pub returns-then-asks-clause-stretch : goal.returns-then-asks-clause-stretch
returns-then-asks-clause-stretch c = λ number.
    stretch_on c.args.code.now number c.args.from c.loop-next.next c.args.self.now.value c.loop-next.self.value c.part-part.new.self.value c.part-part.result
    c.loop-next.invariant.begun c.part-part.ensures.next.0 c.loop-next.invariant.same (c.loop-next.invariant.silent number) (c.part-part.ensures.stretch number)

pub loop-next-preserved : goal.loop-next-preserved
loop-next-preserved c =
    let whole : (number : ℕ) → IsStretch c.args.code.now number c.args.from c.args.self.now.value c.part-part.new.self.value c.part-part.result = λ number.
    stretch_on c.args.code.now number c.args.from c.loop-next.next c.args.self.now.value c.loop-next.self.value c.part-part.new.self.value c.part-part.result
    c.loop-next.invariant.begun c.part-part.ensures.next.0 c.loop-next.invariant.same (c.loop-next.invariant.silent number) (c.part-part.ensures.stretch number) in
    record {
      begun = omega (arith, c.loop-next.invariant.begun, c.part-part.ensures.next.0);
      within = c.part-part.ensures.next.1;
      same = (whole 0).same;
      saved = c.part-part.ensures.saved ∙ c.loop-next.invariant.saved;
      noted = λ number. noted_on c.args.code.now number c.args.from c.loop-next.next c.part-part.result.next c.args.self.now.value c.loop-next.self.value _ _ _
          c.loop-next.invariant.begun (omega (arith, c.part-part.ensures.next.0)) (c.loop-next.invariant.silent number) (c.loop-next.invariant.noted number) (c.part-part.ensures.noted number);
      silent = λ number. went_on c.args.code.now number c.args.from c.args.self.now.value c.part-part.new.self.value c.part-part.result (whole number) (search rules);
    }

pub returns-clause-stretch : goal.returns-clause-stretch
returns-clause-stretch c = λ number.
    silent_stretch c.args.code.now number c.args.from c.args.self.now.value c.loop-next.self.value (record { next = c.loop-next.next; outcome = Rests })
    (omega (arith, c.requires.order, c.loop-next-test.false)) refl c.loop-next.invariant.same (c.loop-next.invariant.silent number)

pub returns-then-asks-clause-noted : goal.returns-then-asks-clause-noted
returns-then-asks-clause-noted c = λ number.
    noted_on c.args.code.now number c.args.from c.loop-next.next c.part-part.result.next c.args.self.now.value c.loop-next.self.value _ _ _
    c.loop-next.invariant.begun (omega (arith, c.part-part.ensures.next.0)) (c.loop-next.invariant.silent number) (c.loop-next.invariant.noted number) (c.part-part.ensures.noted number)

pub returns-clause-noted : goal.returns-clause-noted
returns-clause-noted c = c.loop-next.invariant.noted
