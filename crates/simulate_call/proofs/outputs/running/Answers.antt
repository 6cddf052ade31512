use Rattle.std.proofs.Common.{◌≡◌, ◌∙◌, ◌+◌, cond, count_by, sym, rules}
use Rattle.std.proofs.lemmas.List.Folds.{fold-map}
use Rattle.timed_core.specs.Cores.{is_running}
use Rattle.simulate_call.proofs.outputs.running.Goals as goal

pub returns : goal.returns
returns c =
    let each : c.count.result ≡ count_by (λ core. is_running core.value.inner.ended) c.args.cores.now = search rules in
    each ∙ sym (fold-map (λ n core. n + cond (is_running core.inner.ended) 1 0) (λ core. core.value) 0 c.args.cores.now)
