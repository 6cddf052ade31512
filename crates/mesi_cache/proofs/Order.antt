-- The order of the lines of a set, after a hit and after a snoop.
use Rattle.std.proofs.Common.{◌≡◌, ℕ, ◌≤◌, Bool, true, false, not, cond, List, [], ◌∷◌, ◌++◌, Option, Some, None, length, get_or, filter, find, map, position, refl, sym, ap, ◌∙◌, eqb, inl, inr}
use Rattle.std.proofs.lemmas.Bool.{cases_Bool}
use Rattle.std.proofs.lemmas.Option.{none-some, same_Some}
use Rattle.std.proofs.lemmas.List.Elements.{filter-append}
use Rattle.mesi_cache.specs.declared.lines.CacheLine.{CacheLine}
use Rattle.mesi_cache.specs.Lines.{shared}
use Rattle.mesi_cache.specs.Sets.{is_line, find_line, others, to_front, snoop_set}
use Rattle.mesi_cache.proofs.Kept.{none_left, same_line}
use Rattle.mesi_cache.proofs.Once.{Found, found, get_found, missing}

module _ {X : Type 0} (p : X → Bool) where
  -- the one element that passes
  module _ (xs : List X) (x : X) (once : length (filter p xs) ≤ 1) (first : find p xs ≡ Some x) where
    by_place : (place : Option ℕ) → position p xs ≡ place → filter p xs ≡ x ∷ []
    by_place None e = absurd (none-some x (sym (missing p xs e).not_found ∙ first))
    by_place (Some i) e =
        let f : Found p xs i (get_or xs i x) = found p xs i (get_or xs i x) once e (get_found p xs i x e) in
        f.those ∙ ap (λ y. y ∷ []) (same_Some _ _ (sym f.is_found ∙ first))

    only_one : filter p xs ≡ x ∷ []
    only_one = by_place (position p xs) refl

  others_of_others : (xs : List X) → filter (λ x. not (p x)) (filter (λ x. not (p x)) xs) ≡ filter (λ x. not (p x)) xs
  others_of_others [] = refl
  others_of_others (x ∷ xs) = elim (cases_Bool (p x)) [
    | inl t ↦ rw t (others_of_others xs)
    | inr f ↦ rw (f, f) (ap (λ ys. x ∷ ys) (others_of_others xs))
  ]

  -- a change that p doesn't see
  module _ (change : X → X) (same : (x : X) → p (change x) ≡ p x) where
    others_of_those : (xs : List X) → filter (λ x. not (p x)) (map change (filter p xs)) ≡ []
    others_of_those [] = refl
    others_of_those (x ∷ xs) = elim (cases_Bool (p x)) [
      | inl t ↦ rw (t, same x, t) (others_of_those xs)
      | inr f ↦ rw f (others_of_those xs)
    ]

    others_of_changed : (xs : List X) → filter (λ x. not (p x)) (map (λ x. cond (p x) (change x) x) xs) ≡ filter (λ x. not (p x)) xs
    others_of_changed [] = refl
    others_of_changed (x ∷ xs) = elim (cases_Bool (p x)) [
      | inl t ↦ rw (t, same x, t) (others_of_changed xs)
      | inr f ↦ rw (f, f) (ap (λ ys. x ∷ ys) (others_of_changed xs))
    ]

pub hit_is_first : (change : CacheLine → CacheLine) (line : ℕ) (l : CacheLine) (s : List CacheLine) → length (filter (is_line line) s) ≤ 1 → find_line line s ≡ Some l → to_front change line s ≡ change l ∷ others line s
hit_is_first change line l s once first = ap (λ those. map change those ++ others line s) (only_one (is_line line) s l once first)

pub hit_keeps_others : (change : CacheLine → CacheLine) → ((l : CacheLine) → (change l).line ≡ l.line) → (line : ℕ) (s : List CacheLine) → others line (to_front change line s) ≡ others line s
hit_keeps_others change keeps line s =
    let p : CacheLine → Bool = is_line line in
    let none = others_of_those p change (λ l. ap (λ n. eqb n line) (keeps l)) s in
    filter-append (λ l. not (p l)) (map change (filter p s)) (others line s) ∙ ap (λ front. front ++ filter (λ l. not (p l)) (others line s)) none ∙ others_of_others p s

pub snoop_keeps_others : (line : ℕ) (own : Bool) (s : List CacheLine) → others line (snoop_set line own s) ≡ others line s
snoop_keeps_others line true s = others_of_others (is_line line) s
snoop_keeps_others line false s = others_of_changed (is_line line) shared (λ l. refl) s

pub snoop_takes : (line : ℕ) (s : List CacheLine) → filter (is_line line) (snoop_set line true s) ≡ []
snoop_takes line s = none_left (is_line line) s

pub snoop_keeps_numbers : (line : ℕ) (s : List CacheLine) → map (λ l. l.line) (snoop_set line false s) ≡ map (λ l. l.line) s
snoop_keeps_numbers line [] = refl
snoop_keeps_numbers line (l ∷ s) = rw (same_line line l) (ap (λ ns. l.line ∷ ns) (snoop_keeps_numbers line s))
