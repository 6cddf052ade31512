-- The steps of a value: items divided by `,`.
use Rattle.std.specs.Prelude.{ℕ, ◌+◌, ◌==◌, Bool, false, List, [], ◌∷◌, Option, Some, None, length, nat_le, flat_map, replicate, if◌then◌else◌}
use Rattle.std.specs.List.{slice_split}
use Rattle.slack_base.specs.declared.steps.Step.{Step}
use Rattle.sim_words.specs.declared.items.Item.{Item}
use Rattle.sim_words.specs.Items.{item_of}

-- the byte is a `,`
abbrev pub is_comma : ℕ → Bool
is_comma byte = byte == 44

-- the texts of the items
abbrev pub pieces_of : List ℕ → List (List ℕ)
pieces_of value = slice_split is_comma value

-- the texts, each with the byte at which it begins, the first at this one
abbrev pub placed_from : ℕ → List (List ℕ) → List (ℕ × List ℕ)
placed_from at [] = []
placed_from at (piece ∷ pieces) = (at, piece) ∷ placed_from (at + (length piece + 1)) pieces

-- how many steps an item gives
abbrev pub steps_in : Option Item → ℕ
steps_in None = 0
steps_in (Some item) = item.count

-- the item may stand where so many steps come before it
abbrev pub is_allowed : ℕ → Option Item → Bool
is_allowed before None = false
is_allowed before (Some item) = nat_le (before + item.count) 1000000

-- the byte of the first item that may not stand, where so many steps come before all of them
abbrev pub first_wrong : ℕ → List (ℕ × List ℕ) → Option ℕ
first_wrong before [] = None
first_wrong before (piece ∷ pieces) =
    if is_allowed before (item_of piece.1) then first_wrong (before + steps_in (item_of piece.1)) pieces else Some piece.0

-- the byte of the first item that is wrong or brings the steps above their limit
unfoldable pub wrong_item : List ℕ → Option ℕ
wrong_item value = first_wrong 0 (placed_from 0 (pieces_of value))

-- the step of an item, as often as it comes
abbrev pub repeated : Option Item → List Step
repeated None = []
repeated (Some item) = replicate item.count item.step

-- the steps of a value that has no wrong item, and none of an empty value
unfoldable pub steps_of : List ℕ → List Step
steps_of value = flat_map (λ piece. repeated (item_of piece)) (pieces_of value)
