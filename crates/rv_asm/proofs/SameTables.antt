-- Two tables with the same entries, each of which is found in the other.
use Rattle.std.proofs.Common.{◌≡◌, ℕ, true, false, cond, List, [], ◌∷◌, map, Option, Some, None, refl, sym, ap, ◌∙◌}
use Rattle.std.specs.Str.{bytes_eq}
use Rattle.std.proofs.lemmas.Slice.Eq.{bytes_eq-Decides}
use Rattle.rv_asm.specs.Tables.{entry_in}

-- what is found for the name of each of some rows
abbrev pub found_for : {X : Type 0} → List (List ℕ × X) → List (List ℕ × X) → List (Option X)
found_for table rows = map (λ row. entry_in table row.0) rows

abbrev pub values_of : {X : Type 0} → List (List ℕ × X) → List (Option X)
values_of rows = map (λ row. Some row.1) rows

heads : {A : Type 0} → (x y : A) (xs ys : List A) → (x ∷ xs) ≡ (y ∷ ys) → (x ≡ y) × (xs ≡ ys)
heads x y xs ys h = (cc, cc)

-- what some rows say, the table says
said : {X : Type 0} → (table rows : List (List ℕ × X)) (name : List ℕ) (x : X) → found_for table rows ≡ values_of rows → entry_in rows name ≡ Some x → entry_in table name ≡ Some x
said table [] name x h found = absurd cc
said {X} table (row ∷ rows) name x h found =
    let each = heads (entry_in table row.0) (Some row.1) (found_for table rows) (values_of rows) h in
    elim (bytes_eq name row.0) as (λ b. bytes_eq name row.0 ≡ b → cond b (Some row.1) (entry_in rows name) ≡ Some x → entry_in table name ≡ Some x) [
      | true ↦ λ same value. ap (entry_in table) ((bytes_eq-Decides name row.0).0 same) ∙ each.0 ∙ value
      | false ↦ λ other value. said table rows name x each.1 value
    ] refl found

agree : {X : Type 0} → (a b : Option X) → ((x : X) → a ≡ Some x → b ≡ Some x) → ((x : X) → b ≡ Some x → a ≡ Some x) → a ≡ b
agree None None h k = refl
agree None (Some y) h k = k y refl
agree (Some x) b h k = sym (h x refl)

pub same_entries : {X : Type 0} → (table rows : List (List ℕ × X)) → found_for table rows ≡ values_of rows → found_for rows table ≡ values_of table → (name : List ℕ) → entry_in table name ≡ entry_in rows name
same_entries table rows h k name =
    agree (entry_in table name) (entry_in rows name) (λ x found. said rows table name x k found) (λ x found. said table rows name x h found)
