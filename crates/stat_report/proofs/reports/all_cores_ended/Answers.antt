use Rattle.std.proofs.Common.{◌∙◌, not, sym, rules, tests}
use Rattle.std.proofs.lemmas.Iterator.{YieldsList-from_slice}
use Rattle.std.proofs.lemmas.Iterator.Search.{all_from_yields_List}
use Rattle.std.proofs.lemmas.List.Folds.{list_all-map}
use Rattle.timed_core.specs.Cores.{is_running}
use Rattle.stat_report.proofs.reports.all_cores_ended.Goals as goal

pub returns : goal.returns
returns c =
    all_from_yields_List (λ core. not (is_running core.value.inner.ended)) _ _ _ c.all.ensures.ran (YieldsList-from_slice c.args.cores.now cc) (λ x b q k. search (rules, tests))
    ∙ sym (list_all-map (λ core. not (is_running core.inner.ended)) (λ core. core.value) c.args.cores.now)
