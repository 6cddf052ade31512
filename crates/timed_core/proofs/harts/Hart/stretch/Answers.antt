use Rattle.std.proofs.Common.{◌≡◌, ◌∙◌, ◌+◌, ◌-◌, ◌≤◌, ℕ, length, sym, ap, subst, arith, rules}
use Rattle.timed_core.specs.Cores.{HartValue}
use Rattle.timed_core.specs.Noting.{executions}
use Rattle.timed_core.specs.Stretches.{stretch, IsStretch}
use Rattle.timed_core.proofs.Stretches.{leap_stretch}
use Rattle.timed_core.proofs.harts.Hart.stretch.Goals as goal

pub returns-then-gone-gt0-clause-stretch : goal.returns-then-gone-gt0-clause-stretch
returns-then-gone-gt0-clause-stretch c = λ number.
    leap_stretch c.args.code.now number c.args.from c.leap-gone.result c.args.self.now.value c.leap-gone.new.self.value (search rules) c.leap-gone.ensures.number c.leap-gone.ensures.leap

-- a leap over no cycle
same : (c : goal.After-long_stretch) → c.leap-gone.new.self.value ≡ c.args.self.now.value
same c =
    let code = c.args.code.now in
    let t = c.args.from in
    let old = c.args.self.now.value in
    let nowhere : c.leap-gone.result ≡ 0 = omega (arith, c.if-gone-gt0.false) in
    sym (ap (λ r. r.0) (ap (λ n. stretch code 0 t n old) (sym nowhere) ∙ c.leap-gone.ensures.leap code 0 t))

pub returns-clause-stretch : goal.returns-clause-stretch
returns-clause-stretch c = λ number.
    subst (λ h. IsStretch c.args.code.now number c.args.from h c.long_stretch.new.self.value c.long_stretch.result) (same c) (c.long_stretch.ensures.stretch number)

pub returns-then-gone-gt0-clause-noted : goal.returns-then-gone-gt0-clause-noted
returns-then-gone-gt0-clause-noted c = λ number.
    let none : length c.leap-gone.new.self.noted ≡ length c.args.self.now.noted = ap length c.leap-gone.ensures.noted in omega (arith, none)

pub returns-clause-noted : goal.returns-clause-noted
returns-clause-noted c = λ number.
    let none : length c.leap-gone.new.self.noted ≡ length c.args.self.now.noted = ap length c.leap-gone.ensures.noted in
    let executed : HartValue → ℕ = executions c.args.code.now number c.args.from (c.long_stretch.result.next - c.args.from) in
    subst (λ n. length c.long_stretch.new.self.noted ≤ n + executed c.args.self.now.value) none
    (subst (λ h. length c.long_stretch.new.self.noted ≤ length c.leap-gone.new.self.noted + executed h) (same c) (c.long_stretch.ensures.noted number))
