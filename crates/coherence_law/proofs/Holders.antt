-- What the cores of a machine hold of a line, in core order, and what a test of the cores says of it.
use Rattle.std.proofs.Common.{cond, ◌||◌, ◌≡◌, ◌≢◌, ◌∙◌, ℕ, zero, suc, ◌+◌, ◌≤◌, Bool, true, not, Option, None, Some, List, [], ◌∷◌, filter, length, map, slice_get, nat_le, refl, sym, ap, subst, inl, inr, arith}
use Rattle.std.specs.List.{count_by, list_all, list_any}
use Rattle.std.proofs.lemmas.List.Sums.{length-filter}
use Rattle.std.proofs.lemmas.Bool.{cases_Bool, and_parts, and_from, or_left, or_right, false≢true}
use Rattle.slack_base.specs.Inboxes.{CoreValue}
use Rattle.mesi_cache.specs.declared.lines.HeldLine.{HeldLine}
use Rattle.mesi_cache.specs.Lines.{may_write}
use Rattle.timed_core.specs.Accesses.{held_in}
use Rattle.timed_core.specs.Cores.{HartValue}
use Rattle.coherence_law.specs.Breaks.{is_held, is_writable, is_alone}
use Rattle.coherence_law.specs.Coherent.{held_of}

pub list_any-map : {X Y : Type 0} (p : Y → Bool) (f : X → Y) (xs : List X) → list_any p (map f xs) ≡ list_any (λ x. p (f x)) xs
list_any-map p f [] = refl
list_any-map p f (x ∷ xs) = ap (λ b. p (f x) || b) (list_any-map p f xs)

abbrev with_held : Option HeldLine → List HeldLine → List HeldLine
with_held None others = others
with_held (Some h) others = h ∷ others

abbrev pub holders : List (CoreValue HartValue) → ℕ → List HeldLine
holders [] line = []
holders (core ∷ cores) line = with_held (held_in core.inner.cache line) (holders cores line)

abbrev pub any_writable : List HeldLine → Bool
any_writable held = list_any (λ h. may_write h.held) held

-- the tests of the cores are tests of what they hold
module _ (line : ℕ) where
  kept_is : (cores : List (CoreValue HartValue)) → length (filter (λ core. is_held (held_in core.inner.cache line)) cores) ≡ length (holders cores line)
  kept_is [] = refl
  kept_is (core ∷ cores) = by_head (held_in core.inner.cache line) (kept_is cores) where
    by_head : (o : Option HeldLine) → length (filter (λ core. is_held (held_in core.inner.cache line)) cores) ≡ length (holders cores line)
        → length (cond (is_held o) (core ∷ filter (λ core. is_held (held_in core.inner.cache line)) cores) (filter (λ core. is_held (held_in core.inner.cache line)) cores)) ≡ length (with_held o (holders cores line))
    by_head None e = e
    by_head (Some h) e = ap suc e

  count_is : (cores : List (CoreValue HartValue)) → count_by (λ core. is_held (held_in core.inner.cache line)) cores ≡ length (holders cores line)
  count_is cores = let e = length-filter (λ (core : CoreValue HartValue). is_held (held_in core.inner.cache line)) cores in omega (arith, kept_is cores)

  any_is : (cores : List (CoreValue HartValue)) → list_any (λ core. is_writable (held_in core.inner.cache line)) cores ≡ any_writable (holders cores line)
  any_is [] = refl
  any_is (core ∷ cores) = by_head (held_in core.inner.cache line) (any_is cores) where
    by_head : (o : Option HeldLine) → list_any (λ core. is_writable (held_in core.inner.cache line)) cores ≡ any_writable (holders cores line)
        → (is_writable o || list_any (λ core. is_writable (held_in core.inner.cache line)) cores) ≡ any_writable (with_held o (holders cores line))
    by_head None e = e
    by_head (Some h) e = ap (λ b. may_write h.held || b) e

  abbrev pub at_most_one : List HeldLine → Bool
  at_most_one held = nat_le (length held) 1 || not (any_writable held)

  pub alone_is : (cores : List (CoreValue HartValue)) → is_alone cores line ≡ at_most_one (holders cores line)
  alone_is cores = rw (count_is cores, any_is cores) refl

  -- no core holds the line
  none_held : (cores : List (CoreValue HartValue)) → ((k : ℕ) → held_of (slice_get cores k) line ≡ None) → holders cores line ≡ []
  none_held [] none = refl
  none_held (core ∷ cores) none = ap (λ o. with_held o (holders cores line)) (none 0) ∙ none_held cores (λ k. none (suc k))

  length_held : (o : Option HeldLine) (others : List HeldLine) → others ≡ [] → length (with_held o others) ≤ 1
  length_held None others none = let e = ap length none in omega arith
  length_held (Some h) others none = let e = ap length none in omega arith

  -- one core alone holds it
  pub one_held : (cores : List (CoreValue HartValue)) (c : ℕ) → ((k : ℕ) → k ≢ c → held_of (slice_get cores k) line ≡ None) → length (holders cores line) ≤ 1
  one_held [] c none = omega arith
  one_held (core ∷ cores) zero none = length_held (held_in core.inner.cache line) (holders cores line) (none_held cores (λ k. none (suc k) (λ e. absurd (omega arith))))
  one_held (core ∷ cores) (suc c) none =
      let head : held_in core.inner.cache line ≡ None = none 0 (λ e. absurd (omega arith)) in
      subst (λ o. length (with_held o (holders cores line)) ≤ 1) (sym head) (one_held cores c (λ k n. none (suc k) (λ e. n (omega arith))))

  -- a core that may write the line
  pub record IsWriter (cores : List (CoreValue HartValue)) : Type 0 where
    pub core : ℕ
    pub held : HeldLine
    pub holds : held_of (slice_get cores core) line ≡ Some held
    pub may : may_write held.held ≡ true

  pub writer_of : (cores : List (CoreValue HartValue)) → any_writable (holders cores line) ≡ true → IsWriter cores
  writer_of [] any = absurd (false≢true any)
  writer_of (core ∷ cores) any = by_head (held_in core.inner.cache line) refl (writer_of cores) any where
    later : IsWriter cores → IsWriter (core ∷ cores)
    later w = record { core = suc w.core; held = w.held; holds = w.holds; may = w.may }

    by_head : (o : Option HeldLine) → held_in core.inner.cache line ≡ o → (any_writable (holders cores line) ≡ true → IsWriter cores) → any_writable (with_held o (holders cores line)) ≡ true → IsWriter (core ∷ cores)
    by_head None is rest any = later (rest any)
    by_head (Some h) is rest any = elim (cases_Bool (may_write h.held)) [
      | inl y ↦ record { core = 0; held = h; holds = is; may = y }
      | inr n ↦ let more = rw n at any in later (rest more)
    ]

  more_held : (o : Option HeldLine) (others : List HeldLine) → length others ≤ length (with_held o others)
  more_held None others = omega arith
  more_held (Some h) others = omega arith

  here_held : (o : Option HeldLine) (h : HeldLine) (others : List HeldLine) → o ≡ Some h → 1 + length others ≤ length (with_held o others)
  here_held None h others e = absurd (cc)
  here_held (Some g) h others e = omega arith

  -- a core that holds the line is counted
  some_held : (cores : List (CoreValue HartValue)) (c : ℕ) (h : HeldLine) → held_of (slice_get cores c) line ≡ Some h → 1 ≤ length (holders cores line)
  some_held [] c h e = absurd (cc)
  some_held (core ∷ cores) zero h e = let m = here_held (held_in core.inner.cache line) h (holders cores line) e in omega arith
  some_held (core ∷ cores) (suc c) h e = let m = some_held cores c h e in let k = more_held (held_in core.inner.cache line) (holders cores line) in omega arith

  pub two_held : (cores : List (CoreValue HartValue)) (c k : ℕ) (h g : HeldLine) → k ≢ c → held_of (slice_get cores c) line ≡ Some h → held_of (slice_get cores k) line ≡ Some g → 2 ≤ length (holders cores line)
  two_held [] c k h g n e f = absurd (cc)
  two_held (core ∷ cores) zero zero h g n e f = absurd (n refl)
  two_held (core ∷ cores) zero (suc k) h g n e f = let m = here_held (held_in core.inner.cache line) h (holders cores line) e in let j = some_held cores k g f in omega arith
  two_held (core ∷ cores) (suc c) zero h g n e f = let m = here_held (held_in core.inner.cache line) g (holders cores line) f in let j = some_held cores c h e in omega arith
  two_held (core ∷ cores) (suc c) (suc k) h g n e f =
      let m = two_held cores c k h g (λ same. n (ap suc same)) e f in
      let j = more_held (held_in core.inner.cache line) (holders cores line) in omega arith

  pub any_held : (cores : List (CoreValue HartValue)) (c : ℕ) (h : HeldLine) → held_of (slice_get cores c) line ≡ Some h → may_write h.held ≡ true → any_writable (holders cores line) ≡ true
  any_held [] c h e may = absurd (cc)
  any_held (core ∷ cores) zero h e may =
      subst (λ o. any_writable (with_held o (holders cores line)) ≡ true) (sym e) (or_left (may_write h.held) (any_writable (holders cores line)) may)
  any_held (core ∷ cores) (suc c) h e may = past (held_in core.inner.cache line) (any_held cores c h e may) where
    past : (o : Option HeldLine) → any_writable (holders cores line) ≡ true → any_writable (with_held o (holders cores line)) ≡ true
    past None rest = rest
    past (Some g) rest = or_right (may_write g.held) (any_writable (holders cores line)) rest

-- what passes for each core passes for what each holds, and the other way round
module _ (line : ℕ) (p : Option HeldLine → Bool) (none : p None ≡ true) where
  pub all_pass : (cores : List (CoreValue HartValue)) → ((c : ℕ) (h : HeldLine) → held_of (slice_get cores c) line ≡ Some h → p (Some h) ≡ true) → list_all (λ core. p (held_in core.inner.cache line)) cores ≡ true
  all_pass [] each = refl
  all_pass (core ∷ cores) each =
      and_from (p (held_in core.inner.cache line)) (list_all (λ core. p (held_in core.inner.cache line)) cores) (by_head (held_in core.inner.cache line) (each 0)) (all_pass cores (λ c. each (suc c))) where
        by_head : (o : Option HeldLine) → ((h : HeldLine) → o ≡ Some h → p (Some h) ≡ true) → p o ≡ true
        by_head None here = none
        by_head (Some h) here = here h refl

  pub each_passes : (cores : List (CoreValue HartValue)) → list_all (λ core. p (held_in core.inner.cache line)) cores ≡ true → (c : ℕ) (h : HeldLine) → held_of (slice_get cores c) line ≡ Some h → p (Some h) ≡ true
  each_passes [] all c h e = absurd (cc)
  each_passes (core ∷ cores) all zero h e = ap p (sym e) ∙ (and_parts (p (held_in core.inner.cache line)) (list_all (λ core. p (held_in core.inner.cache line)) cores) all).0
  each_passes (core ∷ cores) all (suc c) h e = each_passes cores (and_parts (p (held_in core.inner.cache line)) (list_all (λ core. p (held_in core.inner.cache line)) cores) all).1 c h e
