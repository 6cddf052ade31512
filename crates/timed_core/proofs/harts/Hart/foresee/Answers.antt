use Rattle.std.proofs.Common.{◌≡◌, ◌∙◌, ◌+◌, ◌-◌, cond, sym, ap, arith, rules}
use Rattle.timed_core.specs.Foresight.{cycles_ahead, here, cycles_by}
use Rattle.timed_core.proofs.Foresight.{looked, none_left}
use Rattle.timed_core.proofs.harts.Hart.foresee.Goals.{then-loop-left-test+else-cycles-most, else-loop-left-test}
use Rattle.timed_core.proofs.harts.Hart.foresee.Goals as goal

pub loop-left-init : goal.loop-left-init
loop-left-init c =
    let code = c.before.before.args.code.now in
    let core = c.before.before.args.self.now.value in
    record {
      total = ap (λ n. n + cycles_ahead code core 64 (record (here core) { address = c.before.self.inside.pc })) c.from-cycles.ensures
          ∙ ap (λ h. h.value.busy + cycles_ahead code core 64 (here h.value)) c.before.self.view_is;
      small = search rules;
    }

pub loop-left-preserved-then-goes_on : goal.loop-left-preserved-then-goes_on
loop-left-preserved-then-goes_on c =
    let code = c.args.code.now in
    let core = c.args.self.now.value in
    let left = c.loop-left.left in
    let cost : c.from-cycles-in-loop-left.result ≡ cycles_by c.look-course.result 0 = c.from-cycles-in-loop-left.ensures ∙ c.cycles.ensures in
    let step = looked code core left c.loop-left.at c.look-course.result c.look-course.new.at c.from-cycles-in-loop-left.result (omega (arith, c.loop-left-test.true)) c.look-course.ensures.course c.look-course.ensures.next cost
    ∙ ap (λ b. c.from-cycles-in-loop-left.result + cycles_ahead code core (cond b (left - 1) 0) c.look-course.new.at) (sym c.goes_on.ensures ∙ c.if-goes_on.true) in
    record { total = omega (arith, step, c.loop-left.invariant.total); small = omega (arith, cost, c.look-course.ensures.short, c.loop-left.invariant.small, c.loop-left-test.true) }

pub loop-left-preserved : goal.loop-left-preserved
loop-left-preserved c =
    let code = c.args.code.now in
    let core = c.args.self.now.value in
    let left = c.loop-left.left in
    let cost : c.from-cycles-in-loop-left.result ≡ cycles_by c.look-course.result 0 = c.from-cycles-in-loop-left.ensures ∙ c.cycles.ensures in
    let step = looked code core left c.loop-left.at c.look-course.result c.look-course.new.at c.from-cycles-in-loop-left.result (omega (arith, c.loop-left-test.true)) c.look-course.ensures.course c.look-course.ensures.next cost
    ∙ ap (λ b. c.from-cycles-in-loop-left.result + cycles_ahead code core (cond b (left - 1) 0) c.look-course.new.at) (sym c.goes_on.ensures ∙ c.if-goes_on.false) in
    record { total = omega (arith, step, c.loop-left.invariant.total); small = omega (arith, cost, c.look-course.ensures.short, c.loop-left.invariant.small, c.loop-left-test.true) }

pub returns : goal.returns
returns c =
    let code = c.args.code.now in
    let core = c.args.self.now.value in
    elim c.loop-left-test.branch [
      | then-loop-left-test+else-cycles-most w ↦ grind (arith, c.min.ensures, c.loop-left.invariant.total, w.if-cycles-most)
      | else-loop-left-test w ↦
          let over : c.loop-left.left ≡ 0 = omega (arith, w.loop-left-test) in
          let none : cycles_ahead code core c.loop-left.left c.loop-left.at ≡ 0 = ap (λ n. cycles_ahead code core n c.loop-left.at) over ∙ none_left code core c.loop-left.at in
          grind (arith, c.min.ensures, c.loop-left.invariant.total, none)
    ]
