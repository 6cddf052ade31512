use Rattle.std.proofs.Common.{◌≡◌, ◌++◌, length, drop, flat_map}
use Rattle.sim_words.specs.Items.{item_of}
use Rattle.sim_words.specs.Steps.{pieces_of, repeated, steps_of}
use Rattle.sim_words.proofs.steps.steps_of.Given as goal

-- the steps so far, and those of the items that are left, are all
abbrev pub invariant-loop-piece : goal.invariant-loop-piece
invariant-loop-piece l =
    l.steps ++ flat_map (λ piece. repeated (item_of piece)) (drop (length l.yielded) (pieces_of l.value)) ≡ steps_of l.value
