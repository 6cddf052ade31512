use Rattle.std.proofs.Common.{rules, ◌∙◌, sym}
use Rattle.std.specs.Cmp.Lexicographic.{slice_cmp}
use Rattle.std.specs.Ordering.{nat_cmp}
use Rattle.std.proofs.lemmas.Fn.{always_returns_same}
use Rattle.rv_asm.proofs.Searching.{found_by, missed_by}
use Rattle.rv_asm.proofs.tables.entry_in.Goals as goal

pub returns-in_err-at : goal.returns-in_err-at
returns-in_err-at g c =
    let by = c.binary_search_by.ensures.position (λ row. slice_cmp nat_cmp row.0.now c.args.name.now) (always_returns_same _ _ _ (λ a r f' k. (search rules, search rules))) in
    c.from_residual.ensures ∙ sym (missed_by c.args.name.now c.args.table.now c.binary_search_by.result c.requires (sym c.ok.ensures.value ∙ c.in_err-at.was) by)

pub returns : goal.returns
returns g c =
    let by = c.binary_search_by.ensures.position (λ row. slice_cmp nat_cmp row.0.now c.args.name.now) (always_returns_same _ _ _ (λ a r f' k. (search rules, search rules))) in
    found_by c.args.name.now c.args.table.now c.binary_search_by.result c.in_ok-at.at c.index-table-at.result c.requires (sym c.ok.ensures.value ∙ c.in_ok-at.was) c.binary_search_by.ensures.bound by
