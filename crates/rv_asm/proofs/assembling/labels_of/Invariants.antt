use Rattle.std.proofs.Common.{◌≡◌, ◌+◌, ◌≤◌, length}
use Rattle.std.specs.Str.Lines.{lines}
use Rattle.rv_asm.specs.Labels.{no_places}
use Rattle.rv_asm.specs.LabelTables.{places_in}
use Rattle.rv_asm.specs.Lines.{places_from}
use Rattle.rv_asm.proofs.assembling.labels_of.Given as goal

-- the labels so far, and those of the rest, are all; each line has a byte at least and a word at most
abbrev pub invariant-loop-rest : goal.invariant-loop-rest
invariant-loop-rest l =
    (places_from (places_in l.labels) l.place (lines l.rest) ≡ places_from no_places 0 (lines l.fn.text)) × (l.place + length l.rest ≤ length l.fn.text)

abbrev pub decreases-loop-rest : goal.decreases-loop-rest
decreases-loop-rest l = length l.rest
