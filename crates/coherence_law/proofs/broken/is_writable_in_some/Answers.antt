use Rattle.std.proofs.Common.{◌∙◌, sym, rules, tests}
use Rattle.std.proofs.lemmas.Iterator.{YieldsList-from_slice}
use Rattle.std.proofs.lemmas.Iterator.Search.{any_from_yields_List}
use Rattle.timed_core.specs.Accesses.{held_in}
use Rattle.coherence_law.specs.Breaks.{is_writable}
use Rattle.coherence_law.proofs.Holders.{list_any-map}
use Rattle.coherence_law.proofs.broken.is_writable_in_some.Goals as goal

pub returns : goal.returns
returns c =
    any_from_yields_List (λ core. is_writable (held_in core.value.inner.cache c.args.line)) _ _ _ c.any.ensures.ran (YieldsList-from_slice c.args.cores.now cc) (λ x b q k. search (rules, tests))
    ∙ sym (list_any-map (λ core. is_writable (held_in core.inner.cache c.args.line)) (λ core. core.value) c.args.cores.now)
