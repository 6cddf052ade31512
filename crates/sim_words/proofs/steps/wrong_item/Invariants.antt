use Rattle.std.proofs.Common.{◌≡◌, ◌*◌, ◌≤◌, length, drop}
use Rattle.sim_words.specs.Steps.{pieces_of, placed_from, first_wrong, wrong_item}
use Rattle.sim_words.proofs.steps.wrong_item.Given as goal

-- the items so far may stand, each gives a step at least and has nine bytes at most, and a `,` behind it
abbrev pub invariant-loop-piece : goal.invariant-loop-piece
invariant-loop-piece l =
    (first_wrong l.total (placed_from l.at (drop (length l.yielded) (pieces_of l.value))) ≡ wrong_item l.value)
    × (l.total ≤ 1000000)
    × (l.at ≤ 10 * l.total)
