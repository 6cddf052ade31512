-- What the operations on a set come to, where the place of the line is known, and where the set doesn't hold it.
use Rattle.std.proofs.Common.{◌≡◌, ℕ, suc, ◌+◌, ◌-◌, ◌<◌, ◌≤◌, Bool, true, false, List, ◌∷◌, ◌++◌, Some, None, length, filter, position, take, set, remove, slice_get, refl, sym, ap, ◌∙◌, cond, arith}
use Rattle.std.proofs.lemmas.List.{take_all, drop_all, append-nil}
use Rattle.std.proofs.lemmas.List.Edits.{length-remove}
use Rattle.std.proofs.lemmas.Option.{slice_get_past}
use Rattle.mesi_cache.specs.declared.lines.CacheLine.{CacheLine}
use Rattle.mesi_cache.specs.Lines.{shared}
use Rattle.mesi_cache.specs.Sets.{is_line, find_line, others, to_front, snoop_set}
use Rattle.mesi_cache.proofs.Once.{Found, found, Missing, missing}

-- the line stands at place i
module _ (line : ℕ) (s : List CacheLine) (i : ℕ) (x : CacheLine) (once : length (filter (is_line line) s) ≤ 1) (place : position (is_line line) s ≡ Some i) (at : slice_get s i ≡ Some x) where
  stands : Found (is_line line) s i x
  stands = found (is_line line) s i x once place at

  pub find_held : find_line line s ≡ Some x
  find_held = stands.is_found

  pub front_held : (change : CacheLine → CacheLine) → to_front change line s ≡ change x ∷ remove s i
  front_held change = rw (stands.those, stands.others) refl

  pub snoop_held : (own : Bool) → snoop_set line own s ≡ cond own (remove s i) (set s i (shared x))
  snoop_held true = stands.others
  snoop_held false = stands.changed shared

  kept : length (remove s i) + 1 ≡ length s
  kept = length-remove s i stands.within

  pub fill_held : (ways : ℕ) (new : CacheLine) → length s ≤ ways → take ways (new ∷ others line s) ≡ new ∷ remove s i
  fill_held ways new within = rw stands.others (take_all ways (new ∷ remove s i) (omega (arith, kept)))

  pub fallen_held : (ways : ℕ) (new : CacheLine) → length s ≤ ways → slice_get (new ∷ others line s) ways ≡ None
  fallen_held ways new within = rw stands.others (slice_get_past (new ∷ remove s i) ways (omega (arith, kept)))

-- the set doesn't hold the line
module _ (line : ℕ) (s : List CacheLine) (absent : position (is_line line) s ≡ None) where
  lacks : Missing (is_line line) s
  lacks = missing (is_line line) s absent

  pub find_missing : find_line line s ≡ None
  find_missing = lacks.not_found

  pub snoop_missing : (own : Bool) → snoop_set line own s ≡ s
  snoop_missing true = lacks.others
  snoop_missing false = lacks.changed shared

  pub fill_room : (ways : ℕ) (new : CacheLine) → length s < ways → take ways (new ∷ others line s) ≡ new ∷ s
  fill_room ways new room = rw lacks.others (take_all ways (new ∷ s) (omega arith))

  pub fallen_room : (ways : ℕ) (new : CacheLine) → length s < ways → slice_get (new ∷ others line s) ways ≡ None
  fallen_room ways new room = rw lacks.others (slice_get_past (new ∷ s) ways (omega arith))

  cut : (w : ℕ) → length s ≡ suc w → take w s ≡ remove s w
  cut w full = sym (append-nil (take w s)) ∙ ap (λ rest. take w s ++ rest) (sym (drop_all (suc w) s (omega arith)))

  pub fill_full : (ways : ℕ) (new : CacheLine) → 1 ≤ ways → length s ≡ ways → take ways (new ∷ others line s) ≡ new ∷ remove s (ways - 1)
  fill_full ways new some full =
      let e : ways ≡ suc (ways - 1) = omega arith in
      rw lacks.others (ap (λ n. take n (new ∷ s)) e ∙ ap (λ rest. new ∷ rest) (cut (ways - 1) (full ∙ e)))

  pub fallen_full : (ways : ℕ) (new : CacheLine) → 1 ≤ ways → slice_get (new ∷ others line s) ways ≡ slice_get s (ways - 1)
  fallen_full ways new some =
      let e : ways ≡ suc (ways - 1) = omega arith in
      rw lacks.others (ap (λ n. slice_get (new ∷ s) n) e)
