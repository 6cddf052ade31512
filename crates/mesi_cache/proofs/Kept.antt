-- Each operation on a set of a cache leaves one.
use Rattle.std.proofs.Common.{◌≡◌, ℕ, zero, suc, ◌+◌, ◌%◌, ◌≤◌, Bool, true, false, not, List, [], ◌∷◌, length, filter, map, take, refl, ap, ◌∙◌, cond, eqb, inl, inr, arith, length-append, length-take}
use Rattle.std.proofs.lemmas.List.{length-map}
use Rattle.std.proofs.lemmas.Bool.{cases_Bool, eqb-true}
use Rattle.std.proofs.lemmas.List.Filters.{length-filter_both}
use Rattle.std.proofs.lemmas.List.Elements.{All-append, All-map, All-filter, All-take, All-cons, filter-append}
use Rattle.mesi_cache.specs.declared.lines.CacheLine.{CacheLine}
use Rattle.mesi_cache.specs.Lines.{shared}
use Rattle.mesi_cache.specs.Sets.{is_line, others, to_front, fill_set, snoop_set}
use Rattle.mesi_cache.specs.Caches.{IsSet}

module _ {X : Type 0} (p q : X → Bool) where
  -- those that pass p, changed where q doesn't see it, and the others are as many for q as all
  count_parts : (f : X → X) → ((x : X) → q (f x) ≡ q x) → (xs : List X)
      → length (filter q (map f (filter p xs))) + length (filter q (filter (λ x. not (p x)) xs)) ≡ length (filter q xs)
  count_parts f same [] = refl
  count_parts f same (x ∷ xs) = elim (cases_Bool (p x)) [
    | inl t ↦ elim (cases_Bool (q x)) [
      | inl y ↦ rw (t, same x, y) (omega (arith, count_parts f same xs))
      | inr n ↦ rw (t, same x, n) (count_parts f same xs)
    ]
    | inr t ↦ elim (cases_Bool (q x)) [
      | inl y ↦ rw (t, y) (omega (arith, count_parts f same xs))
      | inr n ↦ rw (t, n) (count_parts f same xs)
    ]
  ]

  count_filter : (xs : List X) → length (filter q (filter p xs)) ≤ length (filter q xs)
  count_filter [] = omega arith
  count_filter (x ∷ xs) = elim (cases_Bool (p x)) [
    | inl t ↦ elim (cases_Bool (q x)) [
      | inl y ↦ rw (t, y) (omega (arith, count_filter xs))
      | inr n ↦ rw (t, n) (count_filter xs)
    ]
    | inr t ↦ elim (cases_Bool (q x)) [
      | inl y ↦ rw (t, y) (omega (arith, count_filter xs))
      | inr n ↦ rw (t, n) (count_filter xs)
    ]
  ]

module _ {X : Type 0} (q : X → Bool) where
  count_map : (f : X → X) → ((x : X) → q (f x) ≡ q x) → (xs : List X) → length (filter q (map f xs)) ≡ length (filter q xs)
  count_map f same [] = refl
  count_map f same (x ∷ xs) = elim (cases_Bool (q x)) [
    | inl y ↦ rw (same x, y) (ap suc (count_map f same xs))
    | inr n ↦ rw (same x, n) (count_map f same xs)
  ]

  count_take : (n : ℕ) (xs : List X) → length (filter q (take n xs)) ≤ length (filter q xs)
  count_take zero xs = omega arith
  count_take (suc n) [] = omega arith
  count_take (suc n) (x ∷ xs) = elim (cases_Bool (q x)) [
    | inl y ↦ rw y (omega (arith, count_take n xs))
    | inr n' ↦ rw n' (count_take n xs)
  ]

  pub none_left : (xs : List X) → filter q (filter (λ x. not (q x)) xs) ≡ []
  none_left [] = refl
  none_left (x ∷ xs) = elim (cases_Bool (q x)) [
    | inl y ↦ rw y (none_left xs)
    | inr n ↦ rw (n, n) (none_left xs)
  ]

pub same_line : (line : ℕ) (l : CacheLine) → (cond (is_line line l) (shared l) l).line ≡ l.line
same_line line l = elim (is_line line l) as (λ b. (cond b (shared l) l).line ≡ l.line) [ true ↦ refl | false ↦ refl ]

module _ (ways sets number : ℕ) (s : List CacheLine) (is : IsSet ways sets number s) where
  pub kept_front : (change : CacheLine → CacheLine) (line : ℕ) → ((l : CacheLine) → (change l).line ≡ l.line) → IsSet ways sets number (to_front change line s)
  kept_front change line keeps =
      let p : CacheLine → Bool = is_line line in
      let P : CacheLine → Type 0 = λ l. l.line % sets ≡ number in
      record {
        within =
            let e = length-append (map change (filter p s)) (others line s) in
            let m = length-map (filter p s) change in
            let b = length-filter_both p (λ l. not (p l)) (λ l. refl) s in
            omega (arith, is.within);
        once = λ m.
            let e = ap length (filter-append (is_line m) (map change (filter p s)) (others line s)) in
            let a = length-append (filter (is_line m) (map change (filter p s))) (filter (is_line m) (others line s)) in
            let c = count_parts p (is_line m) change (λ l. ap (λ n. eqb n m) (keeps l)) s in
            omega (arith, is.once m);
        placed = All-append P _ _
            (All-map P change (filter p s) (λ k d h. ap (λ n. n % sets) (keeps _) ∙ All-filter p P s is.placed k d h))
            (All-filter (λ l. not (p l)) P s is.placed);
      }

  pub kept_fill : (new : CacheLine) → new.line % sets ≡ number → IsSet ways sets number (fill_set ways new s)
  kept_fill new belongs =
      let P : CacheLine → Type 0 = λ l. l.line % sets ≡ number in
      record {
        within = omega (arith, length-take ways (new ∷ others new.line s));
        once = λ m. elim (cases_Bool (is_line m new)) [
          | inl y ↦
              let same : new.line ≡ m = eqb-true new.line m y in
              let none : filter (is_line m) (others new.line s) ≡ [] = rw same (none_left (is_line m) s) in
              let one : length (filter (is_line m) (new ∷ others new.line s)) ≡ 1 = rw (y, none) refl in
              omega (arith, count_take (is_line m) ways (new ∷ others new.line s))
          | inr n ↦
              let few : length (filter (is_line m) (new ∷ others new.line s)) ≤ length (filter (is_line m) s) = rw n (count_filter (λ l. not (is_line new.line l)) (is_line m) s) in
              omega (arith, is.once m, count_take (is_line m) ways (new ∷ others new.line s))
        ];
        placed = All-take P ways (new ∷ others new.line s) (All-cons P new _ belongs (All-filter (λ l. not (is_line new.line l)) P s is.placed));
      }

  pub kept_snoop : (line : ℕ) (own : Bool) → IsSet ways sets number (snoop_set line own s)
  kept_snoop line true =
      let P : CacheLine → Type 0 = λ l. l.line % sets ≡ number in
      record {
        within =
            let b = length-filter_both (is_line line) (λ l. not (is_line line l)) (λ l. refl) s in
            omega (arith, is.within);
        once = λ m. omega (arith, is.once m, count_filter (λ l. not (is_line line l)) (is_line m) s);
        placed = All-filter (λ l. not (is_line line l)) P s is.placed;
      }
  kept_snoop line false =
      let P : CacheLine → Type 0 = λ l. l.line % sets ≡ number in
      let change : CacheLine → CacheLine = λ l. cond (is_line line l) (shared l) l in
      record {
        within = omega (arith, is.within, length-map s change);
        once = λ m. omega (arith, is.once m, count_map (is_line m) change (λ l. ap (λ n. eqb n m) (same_line line l)) s);
        placed = All-map P change s (λ k d h. ap (λ n. n % sets) (same_line line _) ∙ is.placed k d h);
      }
