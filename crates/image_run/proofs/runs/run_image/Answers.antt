use Rattle.std.proofs.Common.{◌≡◌, ◌∙◌, ◌≤◌, refl, ap, sum_by, arith}
use Rattle.slack_base.specs.Numbers.{numbers_of}
use Rattle.target_law.specs.Runs.{Ends}
use Rattle.io_edge.specs.Holds.{Holds}
use Rattle.lockstep_model.specs.Rules.{rules_of}
use Rattle.lockstep_model.specs.Start.{start_of}
use Rattle.lockstep_model.specs.Views.{machine_of}
use Rattle.spec_run.specs.LockstepEnds.{IsLockstepAt}
use Rattle.image_run.specs.Ends.{rules_for}
use Rattle.image_run.specs.Modes.{limit_in, step_in}
use Rattle.target_law.specs.Ticks.{cycles_of, replayed_of}
use Rattle.target_law.proofs.Counting.{replayed_within, product_within}
use Rattle.image_run.proofs.Moved.{moved, lockstep_from_zero}
use Rattle.image_run.proofs.runs.run_image.Goals as goal

pub replay_ticks-replay_ticks-requires-clause-sum : goal.replay_ticks-replay_ticks-requires-clause-sum
replay_ticks-replay_ticks-requires-clause-sum g c =
    let notes = c.in_ok-end.field-0.notes in
    let few : sum_by cycles_of notes ≤ c.args.config.now.limit = c.in_ok-end.ensures.few in
    let limit = c.args.config.now.limit_in_bounds in
    omega (arith, few, limit, replayed_within notes)

pub replay_ticks-replay_ticks-requires-clause-product : goal.replay_ticks-replay_ticks-requires-clause-product
replay_ticks-replay_ticks-requires-clause-product g c =
    let notes = c.in_ok-end.field-0.notes in
    let few : sum_by cycles_of notes ≤ c.args.config.now.limit = c.in_ok-end.ensures.few in
    let limit = c.args.config.now.limit_in_bounds in
    let cores = c.args.config.now.cores_in_bounds in
    product_within c.args.config.now.cores (sum_by replayed_of notes) (omega (arith, cores)) (omega (arith, few, limit, replayed_within notes))

pub returns-clause-end : goal.returns-clause-end
returns-clause-end g c =
    let config = numbers_of c.args.config.now in
    let holds : Holds = record { may = g.G.Gate.may_hold c.args.gate.now; must = g.G.Gate.must_hold c.args.gate.now } in
    let mode = c.args.mode in
    let steps = c.args.steps.now in
    let image = c.args.image.now in
    let t = c.in_ok-target.target in
    let made = c.in_ok-target.ensures in
    let after = machine_of c.in_ok-end.field-0.end in
    let notes = c.in_ok-end.field-0.notes in
    let same_rules : rules_of (numbers_of t.config) t.code ≡ rules_for config image =
    ap (λ k. rules_of (numbers_of k) t.code) made.config ∙ ap (rules_of config) made.code in
    let same_state : machine_of c.in_ok-machine.machine ≡ start_of config image =
    c.in_ok-machine.ensures.state ∙ ap (λ k. start_of (numbers_of k) image) made.config in
    let ran = c.in_ok-end.ensures in
    record {
      ends = moved (λ R s. Ends R config.interval (limit_in mode config) (step_in R holds mode config steps) s notes after) _ _ _ _ same_rules same_state ran.ends;
      exact = λ is.
          let at : IsLockstepAt (rules_for config image) config.interval config.limit (start_of config image) after =
          moved (λ R s. IsLockstepAt R config.interval config.limit s after) _ _ _ _ same_rules same_state (ran.exact is) in
          record { state = lockstep_from_zero (rules_for config image) (start_of config image) after refl at.state; stops = at.stops };
      silent = ran.silent;
      counted = ran.counted;
      quiet = ran.quiet;
    }
