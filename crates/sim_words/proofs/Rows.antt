-- The rows of a table from a place on.
use Rattle.std.proofs.Common.{◌≡◌, ℕ, ◌+◌, ◌<◌, Bool, cond, List, length, drop, get_or, Some, ap, ◌∙◌}
use Rattle.std.specs.Str.{bytes_eq}
use Rattle.sim_words.specs.Tables.{entry_in, rows_of}
use Rattle.sim_words.proofs.Places.{item_and_rest}
use denote.Ref.{Bor}

-- a search from a row on finds that row, or goes on behind it
pub entry_from : {X : Type 0} (rows : List (Bor (List ℕ) × X)) (word : List ℕ) (i : ℕ) (row : Bor (List ℕ) × X) (test : Bool) → i < length rows → row ≡ get_or rows i row → bytes_eq row.0.now word ≡ test → entry_in (rows_of (drop i rows)) word ≡ cond test (Some row.1) (entry_in (rows_of (drop (i + 1) rows)) word)
entry_from rows word i row test low here same =
    ap (λ r. entry_in (rows_of r) word) (item_and_rest rows i row low here)
    ∙ ap (λ b. cond b (Some row.1) (entry_in (rows_of (drop (i + 1) rows)) word)) same
