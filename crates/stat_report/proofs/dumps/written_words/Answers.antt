use Rattle.std.proofs.Common.{◌≡◌, ◌∙◌, Some, None, get_or, sym, ap}
use Rattle.timed_core.specs.Views.{MarkedCore}
use Rattle.stat_report.specs.Dump.{words_of_core, modified_words, written_words}
use Rattle.stat_report.proofs.Dumping.{given_here, given_later, given_nowhere}
use Rattle.stat_report.proofs.dumps.written_words.Goals as goal

pub returns-in-Some : goal.returns-in-Some
unfolding written_words
returns-in-Some c =
    let found : words_of_core c.args.line (get_or c.args.cores.now c.loop-core.core-index c.core-item.result).value ≡ Some c.in-Some.words =
    ap (λ core. words_of_core c.args.line core.value) (sym c.core-item.is) ∙ ap modified_words (sym c.held.ensures) ∙ sym c.modified_words.ensures ∙ c.in-Some.is in
    sym (sym c.loop-core.invariant ∙ given_here (λ (core : MarkedCore). core.value) (words_of_core c.args.line) c.args.cores.now c.loop-core.core-index c.core-item.result c.in-Some.words c.loop-core-test.true found)

pub loop-core-preserved : goal.loop-core-preserved
unfolding written_words
loop-core-preserved c =
    let none : words_of_core c.args.line (get_or c.args.cores.now c.loop-core.core-index c.core-item.result).value ≡ None =
    ap (λ core. words_of_core c.args.line core.value) (sym c.core-item.is) ∙ ap modified_words (sym c.held.ensures) ∙ sym c.modified_words.ensures ∙ c.in_default.is in
    given_later (λ (core : MarkedCore). core.value) (words_of_core c.args.line) c.args.cores.now c.loop-core.core-index c.core-item.result c.loop-core-test.true none ∙ c.loop-core.invariant

pub returns : goal.returns
unfolding written_words
returns c =
    sym (sym c.loop-core.invariant ∙ given_nowhere (λ (core : MarkedCore). core.value) (words_of_core c.args.line) c.args.cores.now c.loop-core.core-index c.loop-core-test.false)
