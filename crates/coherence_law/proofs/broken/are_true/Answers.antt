use Rattle.std.proofs.Common.{◌∙◌, sym, rules, tests}
use Rattle.std.proofs.lemmas.Iterator.{YieldsList-from_slice}
use Rattle.std.proofs.lemmas.Iterator.Search.{all_from_yields_List}
use Rattle.std.proofs.lemmas.List.Folds.{list_all-map}
use Rattle.timed_core.specs.Accesses.{held_in}
use Rattle.lockstep_model.specs.Views.{values_of}
use Rattle.coherence_law.specs.Breaks.{is_true_to}
use Rattle.coherence_law.proofs.broken.are_true.Goals as goal

pub returns : goal.returns
returns c =
    let chans = values_of c.args.chans.now in
    all_from_yields_List (λ core. is_true_to chans c.args.line (held_in core.value.inner.cache c.args.line)) _ _ _ c.all.ensures.ran (YieldsList-from_slice c.args.cores.now cc) (λ x b q k. search (rules, tests))
    ∙ sym (list_all-map (λ core. is_true_to chans c.args.line (held_in core.inner.cache c.args.line)) (λ core. core.value) c.args.cores.now)
