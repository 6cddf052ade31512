use Rattle.std.proofs.Common.{◌≡◌, true, false, sym, ◌∙◌, rules}
use Rattle.std.specs.Str.{bytes_eq}
use Rattle.sim_words.proofs.Rows.{entry_from}
use Rattle.sim_words.proofs.tables.entry_in.Goals as goal

pub returns-then-eq : goal.returns-then-eq
returns-then-eq g c =
    let same : bytes_eq c.row-item.result.0.now c.args.word.now ≡ true = search rules in
    sym (entry_from c.args.table.now c.args.word.now c.loop-row.row-index c.row-item.result true c.loop-row-test.true c.row-item.is same) ∙ c.loop-row.invariant

pub loop-row-preserved : goal.loop-row-preserved
loop-row-preserved g c =
    let other : bytes_eq c.row-item.result.0.now c.args.word.now ≡ false = search rules in
    sym (entry_from c.args.table.now c.args.word.now c.loop-row.row-index c.row-item.result false c.loop-row-test.true c.row-item.is other) ∙ c.loop-row.invariant
