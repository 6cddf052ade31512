use Rattle.std.proofs.Common.{◌∙◌, sym, rules, tests}
use Rattle.std.proofs.lemmas.Iterator.{YieldsList-from_slice}
use Rattle.std.proofs.lemmas.Iterator.Search.{all_from_yields_List}
use Rattle.std.proofs.lemmas.List.Folds.{list_all-map}
use Rattle.simulate_call.specs.Answers.{is_zero_exit}
use Rattle.simulate_call.proofs.outputs.all_zero.Goals as goal

pub returns : goal.returns
returns c =
    all_from_yields_List (λ core. is_zero_exit core.value.inner.ended) _ _ _ c.all.ensures.ran (YieldsList-from_slice c.args.cores.now cc) (λ x b q k. search (rules, tests))
    ∙ sym (list_all-map (λ core. is_zero_exit core.inner.ended) (λ core. core.value) c.args.cores.now)
