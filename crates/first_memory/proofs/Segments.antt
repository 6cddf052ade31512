-- What memory holds once a segment is written into it.
use Rattle.std.proofs.Common.{◌≡◌, ℕ, ◌+◌, ◌-◌, ◌<◌, ◌≤◌, min, true, false, List, take, drop, length, get_or, replicate, sym, ap, ◌∙◌, ⊎_elim, arith, rules}
use Rattle.std.proofs.lemmas.List.{length-take, length-drop, places, get_or_past, get_or-replicate, length-replicate}
use Rattle.std.proofs.lemmas.Bool.Decides.{nat_tests}
use Rattle.std.proofs.lemmas.Bool.{cases_lt}
use Rattle.std.specs.Bool.{if◌then◌else◌}
use borrow.Rule.Slice.PartMut.{put_mid}
use Rattle.slack_base.specs.declared.images.Segment.{Segment}
use Rattle.first_memory.specs.Memory.{is_in}

module _ (a k : ℕ) (xs ys : List ℕ) (i d : ℕ) where
  pub below : length ys ≡ k → a + k ≤ length xs → i < a → get_or (put_mid a k xs ys) i d ≡ get_or xs i d
  below l h lt = search (rules, places)

  pub inside : length ys ≡ k → a + k ≤ length xs → a ≤ i → i < a + k → get_or (put_mid a k xs ys) i d ≡ get_or ys (i - a) d
  inside l h le lt = search (rules, places)

  pub above : length ys ≡ k → a + k ≤ length xs → a + k ≤ i → get_or (put_mid a k xs ys) i d ≡ get_or xs i d
  above l h le = search (rules, places)

pub is_in_true : (s : Segment) (address : ℕ) → s.address ≤ address → address < s.address + s.size → is_in s address ≡ true
is_in_true s address low high = grind (arith, nat_tests)

pub is_in_low : (s : Segment) (address : ℕ) → address < s.address → is_in s address ≡ false
is_in_low s address low = grind (arith, nat_tests)

pub is_in_high : (s : Segment) (address : ℕ) → s.address + s.size ≤ address → is_in s address ≡ false
is_in_high s address high = grind (arith, nat_tests)

length-put_mid : (a k : ℕ) (xs ys : List ℕ) → length ys ≡ k → a + k ≤ length xs → length (put_mid a k xs ys) ≡ length xs
length-put_mid a k xs ys l h = search (rules, places)

-- how many zeros are written behind a segment's bytes
pub length_rest : (xs copied : List ℕ) (a n m1 m2 rest : ℕ) → length copied ≡ n → m1 ≡ n → m2 ≡ rest → a + n + rest ≤ length xs → length (take m2 (drop (a + n) (put_mid a m1 xs copied))) ≡ rest
length_rest xs copied a n m1 m2 rest l e1 e2 h =
    let whole = length-put_mid a m1 xs copied (l ∙ sym e1) (omega arith) in
    omega (arith, length-take m2 (drop (a + n) (put_mid a m1 xs copied)), length-drop (a + n) (put_mid a m1 xs copied))

-- after its bytes and the zeros behind them are written, as far as the bytes of memory go, these hold the segment, and
-- what they held elsewhere
module _ (xs copied zeros : List ℕ) (s : Segment) (base start n rest : ℕ) (low : base ≤ s.address) (size : length s.bytes ≤ s.size) (high : s.address + length s.bytes ≤ base + length xs)
    (at : start ≡ s.address - base) (bytes : n ≡ length s.bytes) (upto : rest ≡ min (start + s.size) (length xs) - (start + n)) (copy : copied ≡ s.bytes) (filled : zeros ≡ replicate rest 0)
    (k : ℕ) (within : k < length xs) where
  length_zeros : length zeros ≡ rest
  length_zeros = ap length filled ∙ length-replicate rest 0

  length_copied : length copied ≡ n
  length_copied = ap length copy ∙ sym bytes

  length_first : length (put_mid start n xs copied) ≡ length xs
  length_first = length-put_mid start n xs copied length_copied (omega arith)

  room : start + n + rest ≤ length (put_mid start n xs copied)
  room = omega (arith, length_first)

  -- what is expected at address base + k
  abbrev expected : ℕ
  expected = if is_in s (base + k) then get_or s.bytes (base + k - s.address) 0 else get_or xs k 0

  abbrev found : ℕ
  found = get_or (put_mid (start + n) rest (put_mid start n xs copied) zeros) k 0

  before : k < start → found ≡ expected
  before lt =
      below (start + n) rest (put_mid start n xs copied) zeros k 0 length_zeros room (omega arith)
      ∙ below start n xs copied k 0 length_copied (omega arith) lt
      ∙ ap (λ b. if b then get_or s.bytes (base + k - s.address) 0 else get_or xs k 0) (sym (is_in_low s (base + k) (omega arith)))

  in_bytes : start ≤ k → k < start + n → found ≡ expected
  in_bytes le lt =
      below (start + n) rest (put_mid start n xs copied) zeros k 0 length_zeros room lt
      ∙ inside start n xs copied k 0 length_copied (omega arith) le lt
      ∙ ap (λ ys. get_or ys (k - start) 0) copy
      ∙ ap (λ i. get_or s.bytes i 0) (omega arith)
      ∙ ap (λ b. if b then get_or s.bytes (base + k - s.address) 0 else get_or xs k 0) (sym (is_in_true s (base + k) (omega arith) (omega arith)))

  in_zeros : start + n ≤ k → k < start + s.size → found ≡ expected
  in_zeros le lt =
      inside (start + n) rest (put_mid start n xs copied) zeros k 0 length_zeros room le (omega arith)
      ∙ ap (λ ys. get_or ys (k - (start + n)) 0) filled
      ∙ get_or-replicate rest (k - (start + n)) 0 0 (omega arith)
      ∙ sym (get_or_past s.bytes (base + k - s.address) 0 (omega arith))
      ∙ ap (λ b. if b then get_or s.bytes (base + k - s.address) 0 else get_or xs k 0) (sym (is_in_true s (base + k) (omega arith) (omega arith)))

  behind : start + s.size ≤ k → found ≡ expected
  behind le =
      above (start + n) rest (put_mid start n xs copied) zeros k 0 length_zeros room (omega arith)
      ∙ above start n xs copied k 0 length_copied (omega arith) (omega arith)
      ∙ ap (λ b. if b then get_or s.bytes (base + k - s.address) 0 else get_or xs k 0) (sym (is_in_high s (base + k) (omega arith)))

  pub written : found ≡ expected
  written =
      ⊎_elim before
      (λ le. ⊎_elim (in_bytes le)
      (λ past. ⊎_elim (in_zeros past) behind (cases_lt k (start + s.size)))
      (cases_lt k (start + n)))
      (cases_lt k start)

  -- the same, at counts that are reckoned otherwise
  pub written_at : (m1 m2 : ℕ) → m1 ≡ n → m2 ≡ rest → get_or (put_mid (start + n) m2 (put_mid start m1 xs copied) zeros) k 0 ≡ expected
  written_at m1 m2 e1 e2 =
      ap (λ m. get_or (put_mid (start + n) m2 (put_mid start m xs copied) zeros) k 0) e1
      ∙ ap (λ m. get_or (put_mid (start + n) m (put_mid start n xs copied) zeros) k 0) e2
      ∙ written
