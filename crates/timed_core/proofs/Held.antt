-- What a cache holds of a line after each operation on it.
use Rattle.std.proofs.Common.{◌≡◌, ◌≢◌, ◌∙◌, ℕ, zero, suc, ◌+◌, ◌%◌, ◌<◌, ◌≤◌, Bool, true, false, not, Option, None, Some, List, [], ◌∷◌, ◌++◌, map, filter, take, length, slice_get, get_or, set, refl, sym, ap, subst, inl, inr, eqb, cond, arith, length-set, get_or-set_same, get_or-set_other}
use Rattle.std.specs.Option.{option_map}
use Rattle.std.proofs.lemmas.Bool.{cases_eq, cases_Bool, eq-eqb, ne_eqb}
use Rattle.std.specs.List.{All}
use Rattle.std.proofs.lemmas.List.{get_or_default}
use Rattle.std.proofs.lemmas.List.Elements.{All-nil, All-head, All-tail, All-filter}
use Rattle.std.proofs.lemmas.List.Filters.{length-filter_both}
use Rattle.std.proofs.lemmas.Option.{slice_get_within, get_or_from_slice_get}
use Rattle.mesi_cache.proofs.Kept.{none_left}
use Rattle.mesi_cache.specs.declared.lines.CacheLine.{CacheLine}
use Rattle.mesi_cache.specs.declared.lines.HeldLine.{HeldLine}
use Rattle.mesi_cache.specs.Lines.{shared, written, held_line}
use Rattle.mesi_cache.specs.Sets.{is_line, find_line, others, to_front, fill_set, snoop_set}
use Rattle.mesi_cache.specs.Caches.{CacheValue, IsSet, IsCache, set_number, set_of, line_in, with_set, read_line, write_line, fill_line, victim_of, snoop_line}
use Rattle.timed_core.specs.Laws.{HoldsBelow}
use Rattle.mesi_cache.proofs.CacheSteps.{in_range, after_front, after_fill, after_snoop}

module _ (l : ℕ) (x : CacheLine) (set : List CacheLine) where
  find_here : x.line ≡ l → find_line l (x ∷ set) ≡ Some x
  find_here e = rw (eq-eqb x.line l e) refl

  find_past : x.line ≢ l → find_line l (x ∷ set) ≡ find_line l set
  find_past n = rw (ne_eqb x.line l n) refl

find_others : (line l : ℕ) (set : List CacheLine) → l ≢ line → find_line l (others line set) ≡ find_line l set
find_others line l [] n = refl
find_others line l (x ∷ set) n = elim (cases_eq x.line line) [
  | inl e ↦ rw (eq-eqb x.line line e, ne_eqb x.line l (λ f. n (sym f ∙ e))) (find_others line l set n)
  | inr m ↦ elim (cases_eq x.line l) [
    | inl f ↦ rw (ne_eqb x.line line m, eq-eqb x.line l f) refl
    | inr g ↦ rw (ne_eqb x.line line m, ne_eqb x.line l g) (find_others line l set n)
  ]
]

find_others_none : (line : ℕ) (set : List CacheLine) → find_line line (others line set) ≡ None
find_others_none line [] = refl
find_others_none line (x ∷ set) = elim (cases_eq x.line line) [
  | inl e ↦ rw (eq-eqb x.line line e) (find_others_none line set)
  | inr m ↦ rw (ne_eqb x.line line m, ne_eqb x.line line m) (find_others_none line set)
]

find_append_none : (l : ℕ) (a b : List CacheLine) → find_line l a ≡ None → find_line l (a ++ b) ≡ find_line l b
find_append_none l [] b h = refl
find_append_none l (x ∷ a) b h = elim (cases_eq x.line l) [
  | inl e ↦ let k = rw (eq-eqb x.line l e) at h in absurd (cc)
  | inr n ↦ let k = rw (ne_eqb x.line l n) at h in rw (ne_eqb x.line l n) (find_append_none l a b k)
]

module _ (change : CacheLine → CacheLine) (keeps : (x : CacheLine) → (change x).line ≡ x.line) where
  front_other : (line l : ℕ) (set : List CacheLine) → l ≢ line → find_line l (map change (filter (is_line line) set)) ≡ None
  front_other line l [] n = refl
  front_other line l (x ∷ set) n = elim (cases_eq x.line line) [
    | inl e ↦ rw (eq-eqb x.line line e, ne_eqb (change x).line l (λ f. n (sym f ∙ keeps x ∙ e))) (front_other line l set n)
    | inr m ↦ rw (ne_eqb x.line line m) (front_other line l set n)
  ]

  find_front_other : (line l : ℕ) (set : List CacheLine) → l ≢ line → find_line l (to_front change line set) ≡ find_line l set
  find_front_other line l set n =
      find_append_none l (map change (filter (is_line line) set)) (others line set) (front_other line l set n) ∙ find_others line l set n

  find_front_same : (line : ℕ) (set rest : List CacheLine) → find_line line rest ≡ None → find_line line (map change (filter (is_line line) set) ++ rest) ≡ option_map change (find_line line set)
  find_front_same line [] rest none = none
  find_front_same line (x ∷ set) rest none = elim (cases_eq x.line line) [
    | inl e ↦ rw (eq-eqb x.line line e, eq-eqb (change x).line line (keeps x ∙ e)) refl
    | inr m ↦ rw (ne_eqb x.line line m) (find_front_same line set rest none)
  ]

  find_changed : (line l : ℕ) (set : List CacheLine) → find_line l (map (λ x. cond (is_line line x) (change x) x) set) ≡ cond (eqb l line) (option_map change (find_line l set)) (find_line l set)
  find_changed line l [] = elim (cases_eq l line) [ inl e ↦ rw (eq-eqb l line e) refl | inr n ↦ rw (ne_eqb l line n) refl ]
  find_changed line l (x ∷ set) = elim (cases_eq l line) [
    | inl e ↦ elim (cases_eq x.line l) [
      | inl f ↦ rw (eq-eqb x.line line (f ∙ e), eq-eqb (change x).line l (keeps x ∙ f), eq-eqb l line e, eq-eqb x.line l f) refl
      | inr g ↦ rw (ne_eqb x.line line (λ h. g (h ∙ sym e)), ne_eqb x.line l g) (find_changed line l set)
    ]
    | inr n ↦ elim (cases_eq x.line line) [
      | inl f ↦ rw (eq-eqb x.line line f, ne_eqb (change x).line l (λ h. n (sym h ∙ keeps x ∙ f)), ne_eqb x.line l (λ h. n (sym h ∙ f))) (find_changed line l set)
      | inr g ↦ elim (cases_eq x.line l) [
        | inl h ↦ rw (ne_eqb x.line line g, eq-eqb x.line l h, ne_eqb l line n) refl
        | inr h ↦ rw (ne_eqb x.line line g, ne_eqb x.line l h) (find_changed line l set)
      ]
    ]
  ]

-- the last element of a list that is one too long
module _ (l : ℕ) where
  take_all_found : (n : ℕ) (xs : List CacheLine) → slice_get xs n ≡ None → find_line l (take n xs) ≡ find_line l xs
  take_all_found zero [] h = refl
  take_all_found zero (x ∷ xs) h = absurd (cc)
  take_all_found (suc n) [] h = refl
  take_all_found (suc n) (x ∷ xs) h = elim (cases_eq x.line l) [
    | inl e ↦ rw (eq-eqb x.line l e) refl
    | inr m ↦ rw (ne_eqb x.line l m) (take_all_found n xs h)
  ]

  take_other_found : (n : ℕ) (xs : List CacheLine) (v : CacheLine) → length xs ≤ n + 1 → slice_get xs n ≡ Some v → v.line ≢ l → find_line l (take n xs) ≡ find_line l xs
  take_other_found zero [] v fits h n = absurd (cc)
  take_other_found zero (x ∷ []) v fits h n =
      let e : x ≡ v = cc in
      rw (ne_eqb x.line l (λ f. n (sym (ap (λ y. y.line) e) ∙ f))) refl
  take_other_found zero (x ∷ y ∷ xs) v fits h n = absurd (omega arith)
  take_other_found (suc n) [] v fits h m = refl
  take_other_found (suc n) (x ∷ xs) v fits h m = elim (cases_eq x.line l) [
    | inl e ↦ rw (eq-eqb x.line l e) refl
    | inr k ↦ rw (ne_eqb x.line l k) (take_other_found n xs v (omega arith) h m)
  ]

  none_here : (xs : List CacheLine) → length (filter (is_line l) xs) ≡ 0 → find_line l xs ≡ None
  none_here [] h = refl
  none_here (x ∷ xs) h = elim (cases_eq x.line l) [
    | inl e ↦ let k = rw (eq-eqb x.line l e) at h in absurd (omega arith)
    | inr n ↦ let k = rw (ne_eqb x.line l n) at h in rw (ne_eqb x.line l n) (none_here xs k)
  ]

  last_counted : (n : ℕ) (xs : List CacheLine) (v : CacheLine) → slice_get xs n ≡ Some v → v.line ≡ l → 1 ≤ length (filter (is_line l) xs)
  last_counted n [] v h e = absurd (cc)
  last_counted zero (x ∷ xs) v h e = let f : x ≡ v = cc in rw (eq-eqb x.line l (ap (λ y. y.line) f ∙ e)) (omega arith)
  last_counted (suc n) (x ∷ xs) v h e = elim (cases_Bool (eqb x.line l)) [
    | inl y ↦ rw y (omega arith)
    | inr z ↦ rw z (last_counted n xs v h e)
  ]

  take_same_found : (n : ℕ) (xs : List CacheLine) (v : CacheLine) → length xs ≤ n + 1 → slice_get xs n ≡ Some v → v.line ≡ l → length (filter (is_line l) xs) ≤ 1
      → (find_line l (take n xs) ≡ None) × (find_line l xs ≡ Some v)
  take_same_found zero [] v fits h e once = absurd (cc)
  take_same_found zero (x ∷ xs) v fits h e once =
      let f : x ≡ v = cc in (refl, rw (eq-eqb x.line l (ap (λ y. y.line) f ∙ e)) (ap Some f))
  take_same_found (suc n) [] v fits h e once = absurd (cc)
  take_same_found (suc n) (x ∷ xs) v fits h e once = elim (cases_eq x.line l) [
    | inl f ↦ let k = rw (eq-eqb x.line l f) at once in let more = last_counted n xs v h e in absurd (omega arith)
    | inr g ↦ let k = rw (ne_eqb x.line l g) at once in rw (ne_eqb x.line l g) (take_same_found n xs v (omega arith) h e k)
  ]

-- a set put where a line belongs
module _ (c : CacheValue) (is : IsCache c) (line : ℕ) (s : List CacheLine) where
  put_same : (l : ℕ) → l % length c.sets ≡ line % length c.sets → line_in (with_set c line s) l ≡ find_line l s
  put_same l e =
      let k = line % length c.sets in
      let low : k < length c.sets = in_range c is line k refl in
      ap (λ n. find_line l (get_or (set c.sets k s) (l % n) [])) (length-set c.sets k s)
      ∙ ap (λ n. find_line l (get_or (set c.sets k s) n [])) e
      ∙ ap (find_line l) (get_or-set_same c.sets k s [] low)

  put_other : (l : ℕ) → l % length c.sets ≢ line % length c.sets → line_in (with_set c line s) l ≡ line_in c l
  put_other l n =
      let k = line % length c.sets in
      ap (λ m. find_line l (get_or (set c.sets k s) (l % m) [])) (length-set c.sets k s)
      ∙ ap (find_line l) (get_or-set_other c.sets k (l % length c.sets) s [] n)

  -- where the lines of other numbers are found as before
  put_keeps : (l : ℕ) → find_line l s ≡ find_line l (set_of c line) → line_in (with_set c line s) l ≡ line_in c l
  put_keeps l same = elim (cases_eq (l % length c.sets) (line % length c.sets)) [
    | inl e ↦ put_same l e ∙ same ∙ ap (λ k. find_line l (get_or c.sets k [])) (sym e)
    | inr n ↦ put_other l n
  ]

abbrev pub held : CacheValue → ℕ → Option HeldLine
held c l = option_map held_line (line_in c l)

module _ (c : CacheValue) (is : IsCache c) (line : ℕ) where
  own_set : IsSet c.ways (length c.sets) (set_number c line) (set_of c line)
  own_set = is.each (set_number c line) (in_range c is line (set_number c line) refl)

  pub read_held : (l : ℕ) → held (read_line c line) l ≡ held c l
  read_held l = ap (option_map held_line) (put_keeps c is line (to_front (λ x. x) line (set_of c line)) l
      (elim (cases_eq l line) [
        | inl e ↦ subst (λ j. find_line j (to_front (λ x. x) line (set_of c line)) ≡ find_line j (set_of c line)) (sym e)
            (find_front_same (λ x. x) (λ x. refl) line (set_of c line) (others line (set_of c line)) (find_others_none line (set_of c line)) ∙ map_same (find_line line (set_of c line)))
        | inr n ↦ find_front_other (λ x. x) (λ x. refl) line l (set_of c line) n
      ])) where
        map_same : (o : Option CacheLine) → option_map (λ x. x) o ≡ o
        map_same None = refl
        map_same (Some x) = refl

  module _ (place value : ℕ) where
    pub write_other : (l : ℕ) → l ≢ line → held (write_line c line place value) l ≡ held c l
    write_other l n = ap (option_map held_line) (put_keeps c is line _ l (find_front_other (written place value) (λ x. refl) line l (set_of c line) n))

    pub write_same : held (write_line c line place value) line ≡ option_map held_line (option_map (written place value) (line_in c line))
    write_same = ap (option_map held_line) (put_same c is line _ line refl ∙ find_front_same (written place value) (λ x. refl) line (set_of c line) (others line (set_of c line)) (find_others_none line (set_of c line)))

  pub snoop_other : (own : Bool) (l : ℕ) → l ≢ line → held (snoop_line c line own) l ≡ held c l
  snoop_other true l n = ap (option_map held_line) (put_keeps c is line _ l (find_others line l (set_of c line) n))
  snoop_other false l n = ap (option_map held_line) (put_keeps c is line _ l (find_changed shared (λ x. refl) line l (set_of c line) ∙ rw (ne_eqb l line n) refl))

  pub snoop_taken : held (snoop_line c line true) line ≡ None
  snoop_taken = ap (option_map held_line) (put_same c is line _ line refl ∙ find_others_none line (set_of c line))

  pub snoop_shared : held (snoop_line c line false) line ≡ option_map held_line (option_map shared (line_in c line))
  snoop_shared = ap (option_map held_line) (put_same c is line _ line refl ∙ find_changed shared (λ x. refl) line line (set_of c line) ∙ rw (eq-eqb line line refl) refl)

-- each operation leaves a cache
module _ (c : CacheValue) (is : IsCache c) (line : ℕ) where
  low_set : set_number c line < length c.sets
  low_set = in_range c is line (set_number c line) refl

  its_read : set_of c line ≡ get_or c.sets (set_number c line) (set_of c line)
  its_read = get_or_default c.sets (set_number c line) [] (set_of c line) low_set

  pub read_is : IsCache (read_line c line)
  read_is = after_front c is line (set_number c line) refl (set_of c line) its_read (λ x. x) (λ x. refl) (to_front (λ x. x) line (set_of c line)) refl

  pub write_is : (place value : ℕ) → IsCache (write_line c line place value)
  write_is place value = after_front c is line (set_number c line) refl (set_of c line) its_read (written place value) (λ x. refl) (to_front (written place value) line (set_of c line)) refl

  pub snoop_is : (own : Bool) → IsCache (snoop_line c line own)
  snoop_is own = after_snoop c is line (set_number c line) refl (set_of c line) its_read own (snoop_set line own (set_of c line)) refl

pub fill_is : (c : CacheValue) (is : IsCache c) (new : CacheLine) → IsCache (fill_line c new)
fill_is c is new = after_fill c is new.line (set_number c new.line) refl (set_of c new.line) (its_read c is new.line) new refl (fill_set c.ways new (set_of c new.line)) refl

-- what a fill does to what is held
pub record IsFill (c : CacheValue) (new : CacheLine) : Type 0 where
  pub self : held (fill_line c new) new.line ≡ Some (held_line new)
  pub kept : victim_of c new ≡ None → (l : ℕ) → l ≢ new.line → held (fill_line c new) l ≡ held c l
  pub apart : (v : CacheLine) → victim_of c new ≡ Some v → v.line ≢ new.line
  pub was : (v : CacheLine) → victim_of c new ≡ Some v → held c v.line ≡ Some (held_line v)
  pub gone : (v : CacheLine) → victim_of c new ≡ Some v → held (fill_line c new) v.line ≡ None
  pub others : (v : CacheLine) → victim_of c new ≡ Some v → (l : ℕ) → l ≢ new.line → l ≢ v.line → held (fill_line c new) l ≡ held c l

all_got : {X : Type 0} (P : X → Type 0) (xs : List X) (i : ℕ) (x : X) → All P xs → slice_get xs i ≡ Some x → P x
all_got P xs i x all got = subst P (get_or_from_slice_get xs i x x got) (all i x (slice_get_within xs i x got))

length-filter_filter : (l line : ℕ) (xs : List CacheLine) → length (filter (is_line l) (others line xs)) ≤ length (filter (is_line l) xs)
length-filter_filter l line [] = omega arith
length-filter_filter l line (x ∷ xs) = elim (cases_Bool (eqb x.line line)) [
  | inl t ↦ elim (cases_Bool (eqb x.line l)) [
    | inl y ↦ rw (t, y) (omega (arith, length-filter_filter l line xs))
    | inr n ↦ rw (t, n) (length-filter_filter l line xs)
  ]
  | inr t ↦ elim (cases_Bool (eqb x.line l)) [
    | inl y ↦ rw (t, y) (omega (arith, length-filter_filter l line xs))
    | inr n ↦ rw (t, n) (length-filter_filter l line xs)
  ]
]

module _ (c : CacheValue) (is : IsCache c) (new : CacheLine) where
  abbrev set_before : List CacheLine
  set_before = set_of c new.line

  abbrev longer : List CacheLine
  longer = new ∷ others new.line set_before

  its : IsSet c.ways (length c.sets) (set_number c new.line) set_before
  its = own_set c is new.line

  long : length longer ≤ c.ways + 1
  long =
      let b = length-filter_both (is_line new.line) (λ x. not (is_line new.line x)) (λ x. refl) set_before in
      let w = its.within in omega arith

  find_new : (n : ℕ) → 1 ≤ n → find_line new.line (take n longer) ≡ Some new
  find_new zero h = absurd (omega arith)
  find_new (suc n) h = rw (eq-eqb new.line new.line refl) refl

  found_as : (l : ℕ) → l ≢ new.line → find_line l longer ≡ find_line l set_before
  found_as l n = find_past l new (others new.line set_before) (λ e. n (sym e)) ∙ find_others new.line l set_before n

  shown : (l : ℕ) → l ≢ new.line → find_line l (take c.ways longer) ≡ find_line l longer → held (fill_line c new) l ≡ held c l
  shown l n same = ap (option_map held_line) (put_keeps c is new.line (take c.ways longer) l (same ∙ found_as l n))

  module _ (v : CacheLine) (fell : victim_of c new ≡ Some v) where
    among_others : (n : ℕ) → 1 ≤ n → slice_get longer n ≡ Some v → v.line ≢ new.line
    among_others zero some h = absurd (omega arith)
    among_others (suc n) some h = λ e.
        let counted = last_counted new.line n (others new.line set_before) v h e in
        let none = ap length (none_left (is_line new.line) set_before) in
        absurd (omega arith)

    victim_apart : v.line ≢ new.line
    victim_apart = among_others c.ways is.ways.0 fell

    placed_others : (n : ℕ) → 1 ≤ n → slice_get longer n ≡ Some v → v.line % length c.sets ≡ new.line % length c.sets
    placed_others zero some h = absurd (omega arith)
    placed_others (suc n) some h =
        all_got (λ x. x.line % length c.sets ≡ set_number c new.line) (others new.line set_before) n v
        (All-filter (λ x. not (is_line new.line x)) (λ x. x.line % length c.sets ≡ set_number c new.line) set_before its.placed) h

    victim_placed : v.line % length c.sets ≡ new.line % length c.sets
    victim_placed = placed_others c.ways is.ways.0 fell

    once_longer : length (filter (is_line v.line) longer) ≤ 1
    once_longer =
        let one = its.once v.line in
        let few = length-filter_filter v.line new.line set_before in
        rw (ne_eqb new.line v.line (λ e. victim_apart (sym e))) (omega arith)

    found_victim : (find_line v.line (take c.ways longer) ≡ None) × (find_line v.line longer ≡ Some v)
    found_victim = take_same_found v.line c.ways longer v long fell refl once_longer

    victim_was : held c v.line ≡ Some (held_line v)
    victim_was = ap (option_map held_line)
        (ap (λ k. find_line v.line (get_or c.sets k [])) victim_placed ∙ sym (found_as v.line victim_apart) ∙ found_victim.1)

    victim_gone : held (fill_line c new) v.line ≡ None
    victim_gone = ap (option_map held_line) (put_same c is new.line (take c.ways longer) v.line victim_placed ∙ found_victim.0)

  pub fill_held : IsFill c new
  fill_held = record {
    self = ap (option_map held_line) (put_same c is new.line (take c.ways longer) new.line refl ∙ find_new c.ways is.ways.0);
    kept = λ none l n. shown l n (take_all_found l c.ways longer none);
    apart = victim_apart;
    was = victim_was;
    gone = victim_gone;
    others = λ v fell l n m. shown l n (take_other_found l c.ways longer v long fell (λ e. m (sym e)));
  }

-- where a cache holds only lines below a bound, whatever it holds is below it
module _ (lines : ℕ) where
  found_below : (l : ℕ) (set : List CacheLine) (x : CacheLine) → All (λ y. y.line < lines) set → find_line l set ≡ Some x → l < lines
  found_below l [] x all e = absurd (cc)
  found_below l (y ∷ set) x all e = elim (cases_eq y.line l) [
    | inl same ↦ subst (λ n. n < lines) same (All-head (λ (z : CacheLine). z.line < lines) y set all)
    | inr n ↦ let k = rw (ne_eqb y.line l n) at e in found_below l set x (All-tail (λ (z : CacheLine). z.line < lines) y set all) k
  ]

  all_below : (sets : List (List CacheLine)) (i : ℕ) → All (λ set. All (λ y. y.line < lines) set) sets → All (λ (y : CacheLine). y.line < lines) (get_or sets i [])
  all_below [] i all = All-nil (λ (y : CacheLine). y.line < lines)
  all_below (set ∷ sets) zero all = All-head (λ (s : List CacheLine). All (λ y. y.line < lines) s) set sets all
  all_below (set ∷ sets) (suc i) all = all_below sets i (All-tail (λ (s : List CacheLine). All (λ y. y.line < lines) s) set sets all)

  some_line : (o : Option CacheLine) (h : HeldLine) → option_map held_line o ≡ Some h → (x : CacheLine) × (o ≡ Some x)
  some_line None h e = absurd (cc)
  some_line (Some x) h e = (x, refl)

  pub held_below : (c : CacheValue) → HoldsBelow lines c → (l : ℕ) (h : HeldLine) → held c l ≡ Some h → l < lines
  held_below c holds l h e =
      let x = some_line (line_in c l) h e in
      found_below l (set_of c l) x.0 (all_below c.sets (set_number c l) holds) x.1
