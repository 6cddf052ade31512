-- The cycles of notes.
use Rattle.std.proofs.Common.{ℕ, ◌*◌, ◌<◌, ◌≤◌, List, [], ◌∷◌, sum_by, arith}
use Rattle.std.proofs.Math.Nat.{mul-le-mul_right}
use Rattle.std.proofs.lemmas.List.Sums.{sum_by-cons}
use Rattle.slack_base.specs.declared.notes.Interval.{Interval}
use Rattle.slack_base.specs.declared.notes.Interval.TheVariants.{Kept, Rolled, Bounded}
use Rattle.target_law.specs.Ticks.{cycles_of, replayed_of}

-- sixteen cores at most, and a sum below 2^32
pub product_within : (cores sum : ℕ) → cores ≤ 16 → sum < 4294967296 → cores * sum < 18446744073709551616
product_within cores sum few low = let most = mul-le-mul_right sum few in omega (arith, most)

-- no more cycles are replayed than there are
replayed_once : (note : Interval) → replayed_of note ≤ cycles_of note
unfolding cycles_of replayed_of
replayed_once (Kept cycles) = omega arith
replayed_once (Rolled cycles drift seen) = omega arith
replayed_once (Bounded cycles drift seen) = omega arith

pub replayed_within : (notes : List Interval) → sum_by replayed_of notes ≤ sum_by cycles_of notes
replayed_within [] = omega arith
replayed_within (note ∷ notes) =
    let more = sum_by-cons replayed_of note notes in
    let all = sum_by-cons cycles_of note notes in
    let rest = replayed_within notes in
    let one = replayed_once note in
    omega (arith, more, all, rest, one)
