use Rattle.std.proofs.Common.{◌≡◌, ◌||◌, length}
use Rattle.rv_asm.specs.Labels.{names_of, statement_of, with_labels, redefines}
use Rattle.rv_asm.specs.LabelTables.{places_in}
use Rattle.rv_asm.proofs.labels.define_labels.Given as goal

-- the labels and the statement of the rest are what is left of those of the text
abbrev pub invariant-loop-name : goal.invariant-loop-name
invariant-loop-name l =
    (with_labels l.place (places_in l.labels) (names_of l.rest) ≡ with_labels l.place (places_in l.fn.labels) (names_of l.fn.text))
    × (statement_of l.rest ≡ statement_of l.fn.text)
    × ((l.redefines || redefines l.place (places_in l.labels) (names_of l.rest)) ≡ redefines l.place (places_in l.fn.labels) (names_of l.fn.text))

abbrev pub decreases-loop-name : goal.decreases-loop-name
decreases-loop-name l = length l.rest
