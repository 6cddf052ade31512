use Rattle.std.proofs.Common.{◌≡◌, ◌∙◌, ◌+◌, ◌*◌, ◌++◌, ◌<◌, subst, sym, ap, append_assoc}
use Rattle.lockstep_model.specs.Views.{machine_of, values_of}
use Rattle.stat_report.specs.Dump.{dump_at, dumped, lines_in}
use Rattle.stat_report.proofs.Places.{from}
use Rattle.stat_report.proofs.Dumping.{dump_start, dump_more}
use Rattle.stat_report.proofs.dumps.dump_text.Goals as goal

pub loop-line-init : goal.loop-line-init
loop-line-init c =
    let m = machine_of c.args.machine.now in
    ap (λ xs. xs ++ from (dump_at c.args.base m) (lines_in m.chans) 0) c.new-text.ensures ∙ sym (dump_start c.args.base m)

pub loop-line-preserved : goal.loop-line-preserved
unfolding dump_at
loop-line-preserved c =
    let m = machine_of c.args.machine.now in
    let base = c.args.base in
    let line = c.loop-line.line in
    let rest = from (dump_at base m) (lines_in m.chans) (line + 1) in
    let low : line < lines_in m.chans = subst (λ n. line < n) (c.lines_in-line-end.ensures ∙ ap (λ chans. lines_in (values_of chans)) c.as_slice.ensures) c.loop-line-test.true in
    let pushed : c.push_words.new.text ≡ c.loop-line.text ++ dump_at base m line =
    c.in_ok-push_words.ensures ∙ ap (λ w. c.loop-line.text ++ dumped (base + 16 * line) w) c.words_at.ensures in
    ap (λ xs. xs ++ rest) pushed
    ∙ append_assoc c.loop-line.text (dump_at base m line) rest
    ∙ ap (λ xs. c.loop-line.text ++ xs) (sym (dump_more base m line low))
    ∙ c.loop-line.invariant
