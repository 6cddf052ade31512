use Rattle.std.proofs.Common.{◌≡◌, ℕ, ◌≤◌, IsTrue, true, nat_le, sym, subst, arith}
use Rattle.std.proofs.lemmas.Bool.Decides.{nat_tests}
use Rattle.std.proofs.lemmas.Result.{IfOk-weaker}
use Rattle.slack_base.specs.Numbers.{numbers_of}
use Rattle.bus_model.specs.Laws.{lookahead_of}
use Rattle.bus_model.specs.Settings.{delays_of}
use Rattle.sim_words.specs.declared.values.Mode.{Mode}
use Rattle.target_law.specs.Views.{state_of}
use Rattle.pacing.specs.Exact.{IsQuietIfShort}
use Rattle.image_run.specs.Ends.{IsQuietIn}
use Rattle.image_run.specs.Modes.{is_exact}
use Rattle.image_run.proofs.modes.run_in_mode.Goals as goal

no_more : (a b : ℕ) → nat_le a b ≡ true → a ≤ b
no_more a b h = grind (arith, nat_tests)

pub returns-in-Quantum-clause-quiet : goal.returns-in-Quantum-clause-quiet
returns-in-Quantum-clause-quiet g c =
    let rules = g.T.Target.rules c.args.target.now in
    let values = g.T.Target.values in
    let config = numbers_of c.args.config.now in
    let s = state_of values c.args.state in
    let most = lookahead_of (delays_of config) in
    let short : IsTrue (is_exact c.args.mode config) → c.from.result ≤ rules.lookahead =
    λ exact. subst (λ n. c.from.result ≤ n) (sym c.requires.lookahead)
    (subst (λ n. n ≤ most) (sym c.from.ensures) (no_more config.quantum most (subst (λ (m : Mode). is_exact m config ≡ true) c.in-Quantum.is exact))) in
    IfOk-weaker _ (λ r. IsQuietIfShort rules c.from-interval.result c.from-limit.result c.from.result s r.notes (state_of values r.end)) (λ r. IsQuietIn config c.args.mode r.notes)
    (λ r is is_quantum exact. (is (short exact)).quiet) c.run_quantum.ensures.short
