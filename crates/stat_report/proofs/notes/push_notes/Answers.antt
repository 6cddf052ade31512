use Rattle.std.proofs.Common.{◌≡◌, ◌∙◌, ◌+◌, ◌++◌, get_or, drop, sym, ap, append_assoc, append-nil, rules}
use Rattle.stat_report.specs.Notes.{lines_from, note_lines}
use Rattle.stat_report.proofs.NumberedLines.{lines_more, lines_end}
use Rattle.stat_report.proofs.notes.push_notes.Goals as goal

pub loop-number-preserved : goal.loop-number-preserved
loop-number-preserved c =
    let n = c.loop-number.number in
    let notes = c.args.notes.now in
    let note = c.index-notes-number.result in
    let at : get_or notes n note ≡ note = search rules in
    let rest = lines_from (n + 1) (drop (n + 1) notes) in
    let pushed : c.push_note.new.text ≡ c.loop-number.text ++ note_lines n note = search rules in
    ap (λ xs. xs ++ rest) pushed
    ∙ append_assoc c.loop-number.text (note_lines n note) rest
    ∙ ap (λ x. c.loop-number.text ++ (note_lines n x ++ rest)) (sym at)
    ∙ ap (λ xs. c.loop-number.text ++ xs) (sym (lines_more notes n note c.loop-number-test.true))
    ∙ c.loop-number.invariant

pub returns : goal.returns
returns c =
    sym (append-nil c.loop-number.text)
    ∙ ap (λ xs. c.loop-number.text ++ xs) (sym (lines_end c.args.notes.now c.loop-number.number c.loop-number-test.false))
    ∙ c.loop-number.invariant
