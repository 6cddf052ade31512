use Rattle.std.proofs.Common.{◌∙◌, sym, rules, tests}
use Rattle.std.proofs.lemmas.Iterator.{YieldsList-from_slice}
use Rattle.std.proofs.lemmas.Iterator.Search.{any_from_yields_List}
use Rattle.coherence_law.specs.Breaks.{are_these}
use Rattle.coherence_law.specs.Coherent.{words_on}
use Rattle.coherence_law.proofs.Holders.{list_any-map}
use Rattle.coherence_law.proofs.broken.is_in_memory.Goals as goal

pub returns : goal.returns
returns c =
    any_from_yields_List (λ chan. are_these c.args.words (words_on c.args.line chan.value)) _ _ _ c.any.ensures.ran (YieldsList-from_slice c.args.chans.now cc) (λ x b q k. search (rules, tests))
    ∙ sym (list_any-map (λ chan. are_these c.args.words (words_on c.args.line chan)) (λ chan. chan.value) c.args.chans.now)
