-- The items of a value from a place on.
use Rattle.std.proofs.Common.{◌≡◌, ℕ, ◌+◌, ◌<◌, Bool, cond, List, ◌++◌, length, drop, get_or, Option, Some, ap, sym, ◌∙◌, flat_map, append_assoc}
use Rattle.slack_base.specs.declared.steps.Step.{Step}
use Rattle.sim_words.specs.declared.items.Item.{Item}
use Rattle.sim_words.specs.Items.{item_of}
use Rattle.sim_words.specs.Steps.{placed_from, first_wrong, is_allowed, steps_in, repeated}
use Rattle.sim_words.proofs.Places.{item_and_rest}

-- an item may stand, and the search goes on behind it, or it is the first that may not
pub wrong_from : (total at : ℕ) (pieces : List (List ℕ)) (i : ℕ) (piece : List ℕ) (item : Option Item) (test : Bool) → i < length pieces → piece ≡ get_or pieces i piece → item ≡ item_of piece → is_allowed total item ≡ test → first_wrong total (placed_from at (drop i pieces)) ≡ cond test (first_wrong (total + steps_in item) (placed_from (at + (length piece + 1)) (drop (i + 1) pieces))) (Some at)
wrong_from total at pieces i piece item test low here same allowed =
    ap (λ ps. first_wrong total (placed_from at ps)) (item_and_rest pieces i piece low here)
    ∙ ap (λ o. cond (is_allowed total o) (first_wrong (total + steps_in o) (placed_from (at + (length piece + 1)) (drop (i + 1) pieces))) (Some at)) (sym same)
    ∙ ap (λ b. cond b (first_wrong (total + steps_in item) (placed_from (at + (length piece + 1)) (drop (i + 1) pieces))) (Some at)) allowed

-- the steps of an item more
pub steps_from : (steps : List Step) (pieces : List (List ℕ)) (i : ℕ) (piece : List ℕ) → i < length pieces → piece ≡ get_or pieces i piece → steps ++ flat_map (λ p. repeated (item_of p)) (drop i pieces) ≡ (steps ++ repeated (item_of piece)) ++ flat_map (λ p. repeated (item_of p)) (drop (i + 1) pieces)
steps_from steps pieces i piece low here =
    ap (λ ps. steps ++ flat_map (λ p. repeated (item_of p)) ps) (item_and_rest pieces i piece low here)
    ∙ sym (append_assoc steps (repeated (item_of piece)) (flat_map (λ p. repeated (item_of p)) (drop (i + 1) pieces)))
