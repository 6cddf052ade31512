-- Sets of a cache by their places.
use Rattle.std.proofs.Common.{Option, None, Some, ◌≡◌, ◌≢◌, ◌∙◌, ℕ, ◌%◌, ◌<◌, ◌≤◌, true, false, List, [], ◌∷◌, length, set, get_or, refl, sym, ap, subst, inl, inr}
use Rattle.std.proofs.lemmas.List.{length-set, set_comm, set-set, get_or-set_other, get_or-set_same}
use Rattle.mesi_cache.specs.declared.lines.CacheLine.{CacheLine}
use Rattle.mesi_cache.specs.Caches.{CacheValue, set_number, set_of, with_set, line_in, victim_of, snoop_line}
use Rattle.mesi_cache.specs.Sets.{is_line, find_line, fallen, others}
use Rattle.std.proofs.lemmas.Bool.{cases_eq}
use Rattle.std.proofs.Math.Nat.{mod-lt}

-- the line, if there is one, is of another one of n sets
abbrev pub IsApart : (n : ℕ) → Option ℕ → ℕ → Type 0
IsApart n None line = Unit {0}
IsApart n (Some m) line = m % n ≢ line % n

-- two lines of different sets
abbrev pub AreOther : CacheValue → ℕ → ℕ → Type 0
AreOther c m line = m % length c.sets ≢ line % length c.sets

pub set_length : (c : CacheValue) (line : ℕ) (s : List CacheLine) → length (with_set c line s).sets ≡ length c.sets
set_length c line s = length-set c.sets (set_number c line) s

-- the set of a line after a change of another set
pub set_other : (c : CacheValue) (m line : ℕ) (s : List CacheLine) → AreOther c m line → set_of (with_set c line s) m ≡ set_of c m
set_other c m line s other =
    ap (λ n. get_or (set c.sets (set_number c line) s) (m % n) []) (length-set c.sets (set_number c line) s)
    ∙ get_or-set_other c.sets (set_number c line) (set_number c m) s [] other

-- changes of two sets
pub with_set_comm : (c : CacheValue) (m line : ℕ) (s u : List CacheLine) → AreOther c m line → with_set (with_set c line s) m u ≡ with_set (with_set c m u) line s
with_set_comm c m line s u other =
    ap (λ n. record c { sets = set (set c.sets (line % length c.sets) s) (m % n) u }) (length-set c.sets (set_number c line) s)
    ∙ ap (λ sets. record c { sets = sets }) (set_comm c.sets (set_number c line) (set_number c m) s u (λ e. other (sym e)))
    ∙ ap (λ n. record c { sets = set (set c.sets (m % length c.sets) u) (line % n) s }) (sym (length-set c.sets (set_number c m) u))

-- a change of one set, and a line of another set that leaves
module _ (c : CacheValue) (m line : ℕ) (other : AreOther c m line) where
  pub changed_other : (F : List CacheLine → List CacheLine) → let d = snoop_line c line true in with_set d m (F (set_of d m)) ≡ snoop_line (with_set c m (F (set_of c m))) line true
  changed_other F =
      let d = snoop_line c line true in
      ap (λ s. with_set d m (F s)) (set_other c m line (others line (set_of c line)) other)
      ∙ with_set_comm c m line (others line (set_of c line)) (F (set_of c m)) other
      ∙ ap (λ s. with_set (with_set c m (F (set_of c m))) line (others line s)) (sym (set_other c line m (F (set_of c m)) (λ e. other (sym e))))

  pub line_other : line_in (snoop_line c line true) m ≡ line_in c m
  line_other = ap (λ s. find_line m s) (set_other c m line (others line (set_of c line)) other)

  pub victim_other : (new : CacheLine) → new.line ≡ m → victim_of (snoop_line c line true) new ≡ victim_of c new
  victim_other new e =
      ap (λ s. fallen c.ways new s) (ap (λ n. set_of (snoop_line c line true) n) e ∙ set_other c m line (others line (set_of c line)) other ∙ ap (set_of c) (sym e))

-- lines that leave a set leave it in any order
others_comm : (m line : ℕ) (s : List CacheLine) → others m (others line s) ≡ others line (others m s)
others_comm m line [] = refl
others_comm m line (x ∷ s) =
    elim (is_line line x) as (λ b. is_line line x ≡ b → others m (others line (x ∷ s)) ≡ others line (others m (x ∷ s))) [
      | true ↦ λ on. elim (is_line m x) as (λ b. is_line m x ≡ b → others m (others line (x ∷ s)) ≡ others line (others m (x ∷ s))) [
        | true ↦ λ too. rw (on, too) (others_comm m line s)
        | false ↦ λ off. rw (on, off, on) (others_comm m line s)
      ] refl
      | false ↦ λ off. elim (is_line m x) as (λ b. is_line m x ≡ b → others m (others line (x ∷ s)) ≡ others line (others m (x ∷ s))) [
        | true ↦ λ too. rw (off, too) (others_comm m line s)
        | false ↦ λ nor. rw (off, nor, off) (ap (λ l. x ∷ l) (others_comm m line s))
      ] refl
    ] refl

-- the set of a line after a change of the same set
set_same : (c : CacheValue) (m line : ℕ) (s : List CacheLine) → m % length c.sets ≡ line % length c.sets → line % length c.sets < length c.sets → set_of (with_set c line s) m ≡ s
set_same c m line s same within =
    ap (λ n. get_or (set c.sets (set_number c line) s) (m % n) []) (length-set c.sets (set_number c line) s)
    ∙ ap (λ p. get_or (set c.sets (set_number c line) s) p []) same
    ∙ get_or-set_same c.sets (set_number c line) s [] within

leaves_both : (c : CacheValue) (m line : ℕ) → m % length c.sets ≡ line % length c.sets → line % length c.sets < length c.sets
    → snoop_line (snoop_line c line true) m true ≡ with_set c line (others m (others line (set_of c line)))
leaves_both c m line same within =
    let s = others line (set_of c line) in
    ap (λ u. with_set (with_set c line s) m (others m u)) (set_same c m line s same within)
    ∙ ap (λ n. record c { sets = set (set c.sets (line % length c.sets) s) (m % n) (others m s) }) (length-set c.sets (set_number c line) s)
    ∙ ap (λ p. record c { sets = set (set c.sets (line % length c.sets) s) p (others m s) }) same
    ∙ ap (λ sets. record c { sets = sets }) (set-set c.sets (set_number c line) s (others m s))

leaves_same : (c : CacheValue) (m line : ℕ) → m % length c.sets ≡ line % length c.sets → line % length c.sets < length c.sets
    → snoop_line (snoop_line c line true) m true ≡ snoop_line (snoop_line c m true) line true
leaves_same c m line same within =
    leaves_both c m line same within
    ∙ ap (λ p. record c { sets = set c.sets p (others m (others line (get_or c.sets p []))) }) (sym same)
    ∙ ap (λ s. with_set c m s) (others_comm m line (set_of c m))
    ∙ sym (leaves_both c line m (sym same) (subst (λ p. p < length c.sets) (sym same) within))

-- two lines leave a cache in any order
pub leaves_comm : (c : CacheValue) (m line : ℕ) → 1 ≤ length c.sets → snoop_line (snoop_line c line true) m true ≡ snoop_line (snoop_line c m true) line true
leaves_comm c m line some =
    elim (cases_eq (m % length c.sets) (line % length c.sets)) [
      | inl same ↦ leaves_same c m line same (mod-lt line some)
      | inr other ↦ changed_other c m line other (others m)
    ]
