-- A search in a table in order.
use Rattle.std.proofs.Common.{◌≡◌, ℕ, ◌+◌, ◌<◌, Bool, true, false, cond, List, [], ◌∷◌, length, get_or, Some, None, Result, Ok, Err, refl, sym, ap, ◌∙◌, subst, arith, ◌&&◌, zero, suc, Bor, inl, inr}
use Rattle.std.specs.Cmp.Lexicographic.{slice_cmp}
use Rattle.std.specs.List.{AllByRecursion}
use Rattle.std.specs.List.Sorted.{IsNonDecreasingBy, IsPartitionPoint, IsBinarySearchResult, IsSearchInRange}
use Rattle.std.specs.Map.{lookup}
use Rattle.std.specs.Ordering.{nat_cmp, is_lt, is_eq, ordering_index, ordering_reverse}
use Rattle.std.specs.Result.{result_ok}
use Rattle.std.specs.Str.{bytes_eq}
use Rattle.std.specs.declared.cmp.Ordering.{Ordering}
use Rattle.std.specs.declared.cmp.Ordering.TheVariants.{Less, Equal, Greater}
use Rattle.std.proofs.lemmas.Cmp.{nat_list_cmp_total}
use Rattle.std.proofs.lemmas.List.Sorted.{searchable_from_sorted}
use Rattle.std.proofs.lemmas.Map.Text.{is_eq-slice_cmp}
use Rattle.std.proofs.lemmas.Slice.Eq.{bytes_eq-Decides}
use Rattle.std.proofs.lemmas.Cmp.{tied_itself}
use Rattle.std.proofs.lemmas.Bool.{cases_lt}
use Rattle.rv_asm.specs.Tables.{entry_in, rows_of, is_sorted}

abbrev order : List ℕ → List ℕ → Ordering
order = slice_cmp nat_cmp

-- the rows of a table in order, one after another
abbrev HeadIsBelow : {X : Type 0} → List ℕ → List (Bor (List ℕ) × X) → Type 0
HeadIsBelow name rows = AllByRecursion (λ row. order name row.0.now ≡ Less) rows

is_less : (o : Ordering) → is_lt o ≡ true → o ≡ Less
is_less Less h = refl
is_less Equal h = absurd cc
is_less Greater h = absurd cc

both : (a b : Bool) → (a && b) ≡ true → (a ≡ true) × (b ≡ true)
both true b h = (refl, h)
both false b h = absurd cc

below_all : {X : Type 0} → (name next : List ℕ) (rows : List (Bor (List ℕ) × X)) → order name next ≡ Less → HeadIsBelow next rows → HeadIsBelow name rows
below_all name next [] h k = tt
below_all name next (row ∷ rows) h k = (nat_list_cmp_total.trans name next row.0.now h k.0, below_all name next rows h k.1)

rest_sorted : {X : Type 0} → (row : Bor (List ℕ) × X) (rows : List (Bor (List ℕ) × X)) → is_sorted (rows_of (row ∷ rows)) ≡ true → is_sorted (rows_of rows) ≡ true
rest_sorted row [] h = refl
rest_sorted row (next ∷ rows) h = (both (is_lt (order row.0.now next.0.now)) (is_sorted (rows_of (next ∷ rows))) h).1

head_below : {X : Type 0} → (row : Bor (List ℕ) × X) (rows : List (Bor (List ℕ) × X)) → is_sorted (rows_of (row ∷ rows)) ≡ true → HeadIsBelow row.0.now rows
head_below row [] h = tt
head_below row (next ∷ rows) h =
    let parts = both (is_lt (order row.0.now next.0.now)) (is_sorted (rows_of (next ∷ rows))) h in
    let first = is_less (order row.0.now next.0.now) parts.0 in
    (first, below_all row.0.now next.0.now rows first (head_below next rows parts.1))

same_name : (a b : List ℕ) → order a b ≡ Equal → bytes_eq b a ≡ true
same_name a b h = sym (is_eq-slice_cmp b a) ∙ ap is_eq (nat_list_cmp_total.antisymm b a ∙ ap ordering_reverse h)

other_name : (a b : List ℕ) (o : Ordering) → order a b ≡ o → is_eq (ordering_reverse o) ≡ false → bytes_eq b a ≡ false
other_name a b o h k = sym (is_eq-slice_cmp b a) ∙ ap is_eq (nat_list_cmp_total.antisymm b a ∙ ap ordering_reverse h) ∙ k

-- no row below which the name stands has it
none_above : {X : Type 0} → (name : List ℕ) (rows : List (Bor (List ℕ) × X)) → HeadIsBelow name rows → (at : ℕ) (d : Bor (List ℕ) × X) → at < length rows → order (get_or rows at d).0.now name ≡ Equal → ⊥
none_above name [] h at d low e = omega arith
none_above name (row ∷ rows) h zero d low e =
    let back : order row.0.now name ≡ Greater = nat_list_cmp_total.antisymm row.0.now name ∙ ap ordering_reverse h.0 in
    absurd cc
none_above name (row ∷ rows) h (suc at) d low e = none_above name rows h.1 at d (omega arith) e

-- the row at which the name is found
pub found : {X : Type 0} → (name : List ℕ) (table : List (Bor (List ℕ) × X)) (at : ℕ) (d : Bor (List ℕ) × X) → is_sorted (rows_of table) ≡ true → at < length table → order (get_or table at d).0.now name ≡ Equal → Some (get_or table at d).1 ≡ entry_in (rows_of table) name
found name [] at d sorted low e = absurd (omega arith)
found name (row ∷ table) zero d sorted low e =
    sym (ap (λ b. cond b (Some row.1) (lookup (bytes_eq name) (rows_of table))) (same_name row.0.now name e))
found name (row ∷ table) (suc at) d sorted low e =
    let below = head_below row table sorted in
    found name table at d (rest_sorted row table sorted) (omega arith) e
    ∙ sym (ap (λ b. cond b (Some row.1) (lookup (bytes_eq name) (rows_of table))) (differs row.0.now name (λ same. none_above row.0.now table below at d (omega arith) (subst (λ n. order (get_or table at d).0.now n ≡ Equal) same e))))
  where
    differs : (a name : List ℕ) → (name ≡ a → ⊥) → bytes_eq name a ≡ false
    differs a name h =
        elim (bytes_eq name a) as (λ b. bytes_eq name a ≡ b → b ≡ false) [
          | true ↦ λ e. absurd (h ((bytes_eq-Decides name a).0 e))
          | false ↦ λ e. refl
        ] refl

-- where no row has the name
pub absent : {X : Type 0} → (name : List ℕ) (table : List (Bor (List ℕ) × X)) → ((k : ℕ) (d : Bor (List ℕ) × X) → k < length table → order (get_or table k d).0.now name ≡ Equal → ⊥) → entry_in (rows_of table) name ≡ None
absent name [] h = refl
absent {X} name (row ∷ table) h =
    ap (λ b. cond b (Some row.1) (lookup (bytes_eq name) (rows_of table)))
    (elim (bytes_eq name row.0.now) as (λ b. bytes_eq name row.0.now ≡ b → b ≡ false) [
      | true ↦ λ e. absurd (h 0 row (omega arith) (equal ((bytes_eq-Decides name row.0.now).0 e)))
      | false ↦ λ e. refl
    ] refl)
    ∙ absent name table (λ k d low. h (suc k) d (omega arith))
  where
    equal : {name a : List ℕ} → name ≡ a → order a name ≡ Equal
    equal {name} {a} h = subst (λ n. order a n ≡ Equal) (sym h) (tied_itself nat_list_cmp_total a)

sorted_within : {X : Type 0} → (table : List (Bor (List ℕ) × X)) → is_sorted (rows_of table) ≡ true → (k : ℕ) (d : Bor (List ℕ) × X) → k + 1 < length table → is_lt (order (get_or table (k + 1) d).0.now (get_or table k d).0.now) ≡ false
sorted_within [] h k d low = absurd (omega arith)
sorted_within (row ∷ []) h k d low = absurd (omega arith)
sorted_within (row ∷ next ∷ table) h zero d low =
    let parts = both (is_lt (order row.0.now next.0.now)) (is_sorted (rows_of (next ∷ table))) h in
    ap is_lt (nat_list_cmp_total.antisymm next.0.now row.0.now ∙ ap ordering_reverse (is_less (order row.0.now next.0.now) parts.0))
sorted_within (row ∷ next ∷ table) h (suc k) d low =
    let parts = both (is_lt (order row.0.now next.0.now)) (is_sorted (rows_of (next ∷ table))) h in
    let more : suc (k + 1) ≡ suc k + 1 = omega arith in
    subst (λ m. is_lt (order (get_or (row ∷ next ∷ table) m d).0.now (get_or (next ∷ table) k d).0.now) ≡ false) more (sorted_within (next ∷ table) parts.1 k d (omega arith))

-- a table in order can be searched
pub searchable : {X : Type 0} → (name : List ℕ) (table : List (Bor (List ℕ) × X)) → is_sorted (rows_of table) ≡ true → IsNonDecreasingBy (λ row. ordering_index (order row.0.now name)) table
searchable {X} name table h = searchable_from_sorted nat_list_cmp_total (λ (row : Bor (List ℕ) × X). row.0.now) table name (λ k d low high. sorted_within table h k d high)

-- where a search ends with no hit
pub missed : {X : Type 0} → (name : List ℕ) (table : List (Bor (List ℕ) × X)) (at : ℕ) → is_sorted (rows_of table) ≡ true → (IsNonDecreasingBy (λ row. ordering_index (order row.0.now name)) table → IsPartitionPoint (λ row. order row.0.now name ≡ Less) (λ row. order row.0.now name ≡ Greater) table at) → entry_in (rows_of table) name ≡ None
missed name table at h k =
    let point = k (searchable name table h) in
    absent name table (λ i d low e.
    elim (cases_lt i at) [
      | inl before ↦ let less = point.0 i d (omega arith) before in absurd cc
      | inr after ↦ let greater = point.1 i d after low in absurd cc
    ])

-- what a search answers
pub missed_by : {X : Type 0} → (name : List ℕ) (table : List (Bor (List ℕ) × X)) (r : Result ℕ ℕ) → is_sorted (rows_of table) ≡ true → result_ok r ≡ None → IsBinarySearchResult (λ row. order row.0.now name) table r → entry_in (rows_of table) name ≡ None
missed_by name table (Ok at) h none by = absurd cc
missed_by name table (Err at) h none by = missed name table at h by

pub found_by : {X : Type 0} → (name : List ℕ) (table : List (Bor (List ℕ) × X)) (r : Result ℕ ℕ) (at : ℕ) (d : Bor (List ℕ) × X) → is_sorted (rows_of table) ≡ true → result_ok r ≡ Some at → IsSearchInRange r (length table) → IsBinarySearchResult (λ row. order row.0.now name) table r → Some (get_or table at d).1 ≡ entry_in (rows_of table) name
found_by {X} name table (Ok i) at d h some low by =
    let same : i ≡ at = cc in
    subst (λ j. Some (get_or table j d).1 ≡ entry_in (rows_of table) name) same (found name table i d h low (by d))
found_by name table (Err i) at d h some low by = absurd cc
