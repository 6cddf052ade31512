use Rattle.std.proofs.Common.{◌≡◌, drop}
use Rattle.sim_words.specs.Tables.{entry_in, rows_of}
use Rattle.sim_words.proofs.tables.entry_in.Given as goal

-- the rows before this one have other words
abbrev pub invariant-loop-row : goal.invariant-loop-row
invariant-loop-row g l = entry_in (rows_of (drop l.row-index l.table)) l.word ≡ entry_in (rows_of l.table) l.word
