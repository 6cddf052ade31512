use Rattle.std.proofs.Common.{◌≡◌, ◌∙◌, Some, None, get_or, sym, ap}
use Rattle.slack_base.specs.Marks.{Marked}
use Rattle.bus_model.specs.Channels.{ChannelValue}
use Rattle.stat_report.specs.Dump.{words_of_chan, memory_words}
use Rattle.stat_report.proofs.Dumping.{given_here, given_later, given_nowhere}
use Rattle.stat_report.proofs.dumps.memory_words.Goals as goal

pub returns-in-Some : goal.returns-in-Some
unfolding memory_words
returns-in-Some c =
    let found : words_of_chan c.args.line (get_or c.args.chans.now c.loop-chan.chan-index c.chan-item.result).value ≡ Some c.in-Some.words =
    ap (λ chan. words_of_chan c.args.line chan.value) (sym c.chan-item.is) ∙ sym c.words_of_chan.ensures ∙ c.in-Some.is in
    sym (sym c.loop-chan.invariant ∙ given_here (λ (chan : Marked ChannelValue). chan.value) (words_of_chan c.args.line) c.args.chans.now c.loop-chan.chan-index c.chan-item.result c.in-Some.words c.loop-chan-test.true found)

pub loop-chan-preserved : goal.loop-chan-preserved
unfolding memory_words
loop-chan-preserved c =
    let none : words_of_chan c.args.line (get_or c.args.chans.now c.loop-chan.chan-index c.chan-item.result).value ≡ None =
    ap (λ chan. words_of_chan c.args.line chan.value) (sym c.chan-item.is) ∙ sym c.words_of_chan.ensures ∙ c.in_default.is in
    given_later (λ (chan : Marked ChannelValue). chan.value) (words_of_chan c.args.line) c.args.chans.now c.loop-chan.chan-index c.chan-item.result c.loop-chan-test.true none ∙ c.loop-chan.invariant

pub returns : goal.returns
unfolding memory_words
returns c =
    sym (sym c.loop-chan.invariant ∙ given_nowhere (λ (chan : Marked ChannelValue). chan.value) (words_of_chan c.args.line) c.args.chans.now c.loop-chan.chan-index c.loop-chan-test.false)
