-- The words of a line in the bytes of memory.
use Rattle.std.proofs.Common.{◌≡◌, ◌∙◌, ℕ, ◌+◌, ◌<◌, ◌≤◌, List, get_or, refl, sym, ap, arith}
use Rattle.std.proofs.lemmas.List.FromFn.{get_or-map-range_with_len}
use Rattle.slack_base.specs.declared.images.Segment.{Segment}
use Rattle.slack_base.specs.LittleEndian.{word_at, words_at}
use Rattle.first_memory.specs.Memory.{byte_at, bytes_from, with_zeros}
use Rattle.first_memory.proofs.Reached.{with-zeros-at}

-- the bytes of one word are equal
word-same : (f g : ℕ → ℕ) (a b : ℕ) → f a ≡ g b → f (a + 1) ≡ g (b + 1) → f (a + 2) ≡ g (b + 2) → f (a + 3) ≡ g (b + 3) → word_at f a ≡ word_at g b
word-same f g a b e0 e1 e2 e3 = rw (e0, e1, e2, e3) refl

-- bytes which with zeros behind them are those of all of memory
module _ (segments : List Segment) (base size : ℕ) (bytes : List ℕ) (held : with_zeros bytes size ≡ bytes_from segments base size) where
  -- the byte at a place is that of its address
  byte-at : (k a : ℕ) → k < size → base + k ≡ a → get_or bytes k 0 ≡ byte_at segments a
  unfolding bytes_from
  byte-at k a lt e =
      sym (with-zeros-at bytes size k) ∙ ap (λ (xs : List ℕ). get_or xs k 0) held
      ∙ get_or-map-range_with_len (λ j. byte_at segments (base + j)) 0 size k k 0 lt (omega arith) ∙ ap (byte_at segments) e

  word-at : (k a : ℕ) → k + 4 ≤ size → base + k ≡ a → word_at (λ j. get_or bytes j 0) k ≡ word_at (byte_at segments) a
  word-at k a within e =
      word-same (λ j. get_or bytes j 0) (byte_at segments) k a
      (byte-at k a (omega arith) e)
      (byte-at (k + 1) (a + 1) (omega arith) (omega arith))
      (byte-at (k + 2) (a + 2) (omega arith) (omega arith))
      (byte-at (k + 3) (a + 3) (omega arith) (omega arith))

  pub words-at : (k a : ℕ) → k + 16 ≤ size → base + k ≡ a → words_at (λ j. get_or bytes j 0) k ≡ words_at (byte_at segments) a
  words-at k a within e =
      let e0 = word-at k a (omega arith) e in
      let e1 = word-at (k + 4) (a + 4) (omega arith) (omega arith) in
      let e2 = word-at (k + 8) (a + 8) (omega arith) (omega arith) in
      let e3 = word-at (k + 12) (a + 12) (omega arith) (omega arith) in
      cc
