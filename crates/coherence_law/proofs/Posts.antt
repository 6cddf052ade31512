-- Posts of one kind to several cores.
use Rattle.std.proofs.Common.{◌≡◌, ◌≢◌, ◌∙◌, ℕ, zero, suc, ◌+◌, ◌<◌, ◌≤◌, Bool, true, false, not, None, Some, List, [], ◌∷◌, ◌++◌, map, filter, refl, sym, ap, inl, inr, arith, ◌==◌}
use Rattle.std.specs.List.{AllByRecursion, list_any, range_with_len}
use Rattle.std.proofs.lemmas.Bool.{cases_eq, cases_Bool, eq-eqb, ne_eqb, false≢true, and_from, not_from_false}
use Rattle.slack_base.specs.declared.bounds.TheConstants.{MOST_CORES}
use Rattle.slack_base.specs.declared.messages.Post.{Post}
use Rattle.slack_base.specs.declared.messages.PostKind.TheVariants.{Invalidate}
use Rattle.slack_base.specs.declared.stamps.Id.{Id}
use Rattle.status_map.specs.Cores.{all_cores, holds, is_other, others}
use Rattle.status_map.specs.Table.{send, post_of}
use Rattle.coherence_law.specs.Lines.{Part, received, all_received, AreFresh}
use Rattle.coherence_law.specs.Invariant.{IsMember}
use Rattle.coherence_law.proofs.Changes.{changed_at, changed_off, each, off}

pub received_append : (parts : ℕ → Part) (a b : List Post) → all_received parts (a ++ b) ≡ all_received (all_received parts a) b
received_append parts [] b = refl
received_append parts (p ∷ a) b = received_append (received parts p) a b

pub fresh_append : (parts : ℕ → Part) (a b : List Post) → AreFresh parts a → AreFresh (all_received parts a) b → AreFresh parts (a ++ b)
fresh_append parts [] b h k = k
fresh_append parts (p ∷ a) b h k = (h.0, fresh_append (received parts p) a b h.1 k)

-- no number stands twice
abbrev Apart : List ℕ → Type 0
Apart [] = Unit {0}
Apart (j ∷ ks) = AllByRecursion (λ k. k ≢ j) ks × Apart ks

module _ (P : ℕ → Type 0) (q : ℕ → Bool) where
  all_filter : (xs : List ℕ) → AllByRecursion P xs → AllByRecursion P (filter q xs)
  all_filter [] h = tt
  all_filter (x ∷ xs) h = elim (cases_Bool (q x)) [
    | inl y ↦ rw y (h.0, all_filter xs h.1)
    | inr n ↦ rw n (all_filter xs h.1)
  ]

apart_filter : (q : ℕ → Bool) (xs : List ℕ) → Apart xs → Apart (filter q xs)
apart_filter q [] h = tt
apart_filter q (x ∷ xs) h = elim (cases_Bool (q x)) [
  | inl y ↦ rw y (all_filter (λ k. k ≢ x) q xs h.0, apart_filter q xs h.1)
  | inr n ↦ rw n (apart_filter q xs h.1)
]

later_apart : (x from n : ℕ) → x < from → AllByRecursion (λ k. k ≢ x) (range_with_len from n)
later_apart x from zero h = tt
later_apart x from (suc n) h = ((λ e. absurd (omega (arith, e))), later_apart x (from + 1) n (omega arith))

apart_range : (from n : ℕ) → Apart (range_with_len from n)
apart_range from zero = tt
apart_range from (suc n) = (later_apart from (from + 1) n (omega arith), apart_range (from + 1) n)

apart_cores : Apart all_cores
unfolding all_cores
apart_cores = apart_range 0 MOST_CORES

-- the number is in the list
abbrev pub is_in : ℕ → List ℕ → Bool
is_in k xs = list_any (λ j. j == k) xs

in_filter : (q : ℕ → Bool) (k : ℕ) (xs : List ℕ) → q k ≡ true → is_in k xs ≡ true → is_in k (filter q xs) ≡ true
in_filter q k [] y h = h
in_filter q k (x ∷ xs) y h = elim (cases_eq x k) [
  | inl e ↦ rw (ap q e ∙ y, eq-eqb x k e) refl
  | inr n ↦ let rest = in_filter q k xs y (rw (ne_eqb x k n) at h) in elim (cases_Bool (q x)) [
    | inl z ↦ rw (z, ne_eqb x k n) rest
    | inr z ↦ rw z rest
  ]
]

in_range : (k from n : ℕ) → from ≤ k → k < from + n → is_in k (range_with_len from n) ≡ true
in_range k from zero low high = absurd (omega arith)
in_range k from (suc n) low high = elim (cases_eq from k) [
  | inl e ↦ rw (eq-eqb from k e) refl
  | inr n0 ↦ rw (ne_eqb from k n0) (in_range k (from + 1) n (omega arith) (omega arith))
]

is_core : (k : ℕ) → k < MOST_CORES → is_in k all_cores ≡ true
unfolding all_cores
is_core k low = in_range k 0 MOST_CORES (omega arith) (omega arith)

pub member_in : (cores c k : ℕ) → k ≢ c → IsMember cores k → is_in k (others cores c) ≡ true
member_in cores c k n h =
    in_filter (is_other cores c) k all_cores
    (and_from (not (k == c)) (holds cores k) (not_from_false (k == c) (ne_eqb k c n)) h.among) (is_core k h.low)

-- the one that asks isn't among them
not_in_filter : (q : ℕ → Bool) (k : ℕ) (xs : List ℕ) → q k ≡ false → is_in k (filter q xs) ≡ false
not_in_filter q k [] out = refl
not_in_filter q k (x ∷ xs) out = elim (cases_Bool (q x)) [
  | inl y ↦
      let n : x ≢ k = λ e. false≢true (sym out ∙ ap q (sym e) ∙ y) in
      rw (y, ne_eqb x k n) (not_in_filter q k xs out)
  | inr z ↦ rw z (not_in_filter q k xs out)
]

pub asking_out : (cores c : ℕ) → is_in c (others cores c) ≡ false
asking_out cores c = not_in_filter (is_other cores c) c all_cores (rw (eq-eqb c c refl) refl)

pub apart_others : (cores c : ℕ) → Apart (others cores c)
apart_others cores c = apart_filter (is_other cores c) all_cores apart_cores

module _ (id : Id) (line grant delay : ℕ) where
  abbrev pub invalidation : ℕ → Post
  invalidation k = post_of id line grant (send k delay Invalidate)

  abbrev pub invalidated : Part → Part
  invalidated p = record p { invalidate = Some (grant + delay) }

  pub none_invalidated : (ks : List ℕ) (parts : ℕ → Part) (k : ℕ) → is_in k ks ≡ false → all_received parts (map invalidation ks) k ≡ parts k
  none_invalidated [] parts k h = refl
  none_invalidated (j ∷ ks) parts k h =
      let n : j ≢ k = λ e. let g = rw (eq-eqb j k e) at h in absurd (false≢true (sym g)) in
      let rest : is_in k ks ≡ false = rw (ne_eqb j k n) at h in
      none_invalidated ks (received parts (invalidation j)) k rest ∙ changed_off j (invalidated (parts j)) parts k (λ e. n (sym e))

  -- each core of the list has an Invalidate on its way then, and no other core is changed
  pub all_invalidated : (ks : List ℕ) (parts : ℕ → Part) (k : ℕ) → is_in k ks ≡ true → all_received parts (map invalidation ks) k ≡ invalidated (parts k)
  all_invalidated [] parts k h = absurd (false≢true h)
  all_invalidated (j ∷ ks) parts k h = elim (cases_Bool (is_in k ks)) [
    | inl y ↦ all_invalidated ks (received parts (invalidation j)) k y
        ∙ each j (invalidated (parts j)) parts (λ i q. invalidated q ≡ invalidated (parts i)) refl (λ i n. refl) k
    | inr z ↦
        let e : j ≡ k = elim (cases_eq j k) [ inl e ↦ e | inr n ↦ let g = rw (ne_eqb j k n) at h in absurd (false≢true (sym z ∙ g)) ] in
        none_invalidated ks (received parts (invalidation j)) k z ∙ changed_at j (invalidated (parts j)) parts k (sym e) ∙ ap (λ i. invalidated (parts i)) e
  ]

  none_yet : (j : ℕ) (parts : ℕ → Part) (ks : List ℕ) → AllByRecursion (λ k. k ≢ j) ks → AllByRecursion (λ k. (parts k).invalidate ≡ None) ks
      → AllByRecursion (λ k. (received parts (invalidation j) k).invalidate ≡ None) ks
  none_yet j parts [] n h = tt
  none_yet j parts (k ∷ ks) n h = (off j (invalidated (parts j)) parts (λ q. q.invalidate ≡ None) k n.0 h.0, none_yet j parts ks n.1 h.1)

  fresh_each : (ks : List ℕ) (parts : ℕ → Part) → Apart ks → AllByRecursion (λ k. (parts k).invalidate ≡ None) ks → AreFresh parts (map invalidation ks)
  fresh_each [] parts a h = tt
  fresh_each (j ∷ ks) parts a h = (h.0, fresh_each ks (received parts (invalidation j)) a.1 (none_yet j parts ks a.0 h.1))

  all_of : (P : ℕ → Type 0) → ((k : ℕ) → P k) → (ks : List ℕ) → AllByRecursion P ks
  all_of P h [] = tt
  all_of P h (k ∷ ks) = (h k, all_of P h ks)

  pub fresh_invalidations : (cores c : ℕ) (parts : ℕ → Part) → ((k : ℕ) → (parts k).invalidate ≡ None) → AreFresh parts (map invalidation (others cores c))
  fresh_invalidations cores c parts none =
      fresh_each (others cores c) parts (apart_others cores c) (all_of (λ k. (parts k).invalidate ≡ None) none (others cores c))
