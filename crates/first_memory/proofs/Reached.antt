-- What lies behind the bytes that the segments reach.
use Rattle.std.proofs.Common.{◌≡◌, ℕ, ◌+◌, ◌-◌, ◌<◌, ◌≤◌, All, List, [], ◌∷◌, length, get_or, sym, refl, ◌∙◌, ⊎_elim, arith, rules}
use Rattle.std.proofs.lemmas.List.{places, get_or_past}
use Rattle.std.proofs.lemmas.List.Elements.{All-nil, All-cons}
use Rattle.std.proofs.lemmas.List.FromFn.{fill_by_all}
use Rattle.std.proofs.lemmas.Bool.{cases_lt}
use Rattle.slack_base.specs.declared.images.Segment.{Segment}
use Rattle.first_memory.specs.Memory.{byte_at, bytes_from, reach, with_zeros}

-- each segment ends before so many bytes
pub all-reached : (segments : List Segment) (base n : ℕ) → reach segments base ≤ n → All (λ s. s.address + length s.bytes ≤ base + n) segments
all-reached [] base n h = All-nil _
all-reached (s ∷ segments) base n h = All-cons (λ s. s.address + length s.bytes ≤ base + n) s segments (omega arith) (all-reached segments base n (omega arith))

-- no segment gives a byte behind what they reach
pub byte-behind : (segments : List Segment) (base k : ℕ) → reach segments base ≤ k → byte_at segments (base + k) ≡ 0
byte-behind [] base k h = refl
byte-behind (s ∷ segments) base k h =
    let here : get_or s.bytes (base + k - s.address) 0 ≡ 0 = get_or_past s.bytes (base + k - s.address) 0 (omega arith) in
    let there = byte-behind segments base k (omega arith) in
    grind (arith, here, there)

-- zeros behind the bytes are read as nothing behind them is
pub with-zeros-at : (bytes : List ℕ) (size k : ℕ) → get_or (with_zeros bytes size) k 0 ≡ get_or bytes k 0
unfolding with_zeros
with-zeros-at bytes size k = grind (arith, places)

pub length-with_zeros : (bytes : List ℕ) (size : ℕ) → length bytes ≤ size → length (with_zeros bytes size) ≡ size
unfolding with_zeros
length-with_zeros bytes size h = search (rules, places)

-- bytes that go as far as the segments reach, and are theirs, are the bytes of all of memory with zeros behind them
pub filled-up : (segments : List Segment) (base size : ℕ) (bytes : List ℕ) → length bytes ≤ size → reach segments base ≤ length bytes
    → ((k : ℕ) → k < length bytes → get_or bytes k 0 ≡ byte_at segments (base + k)) → with_zeros bytes size ≡ bytes_from segments base size
unfolding bytes_from
filled-up segments base size bytes within far held =
    fill_by_all (λ k. byte_at segments (base + k)) (with_zeros bytes size) size 0 (length-with_zeros bytes size within)
    (λ k lt. with-zeros-at bytes size k ∙ ⊎_elim (held k)
    (λ past. get_or_past bytes k 0 past ∙ sym (byte-behind segments base k (omega arith)))
    (cases_lt k (length bytes)))
