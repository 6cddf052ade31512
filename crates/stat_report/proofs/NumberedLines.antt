-- The lines of the intervals that are left, from one on.
use Rattle.std.proofs.Common.{◌≡◌, ℕ, ◌+◌, ◌<◌, ◌≤◌, List, [], ◌++◌, length, drop, get_or, ap}
use Rattle.std.proofs.lemmas.List.{drop_more, at_drop_all}
use Rattle.slack_base.specs.declared.notes.Interval.{Interval}
use Rattle.stat_report.specs.Notes.{note_lines, lines_from}

pub lines_more : (notes : List Interval) (n : ℕ) (d : Interval) → n < length notes → lines_from n (drop n notes) ≡ note_lines n (get_or notes n d) ++ lines_from (n + 1) (drop (n + 1) notes)
unfolding lines_from
lines_more notes n d within = ap (lines_from n) (drop_more notes n d within)

pub lines_end : (notes : List Interval) (n : ℕ) → length notes ≤ n → lines_from n (drop n notes) ≡ []
unfolding lines_from
lines_end notes n past = at_drop_all (lines_from n) notes n past
