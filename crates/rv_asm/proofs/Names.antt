-- The labels that a text begins with, one after another.
use Rattle.std.proofs.Common.{◌≡◌, ℕ, ◌+◌, ◌<◌, ◌≤◌, true, false, cond, List, [], ◌∷◌, length, Bool, Option, Some, None, option_and_then, is_some, ◌||◌, refl, sym, ap, ◌∙◌, arith, eqb, length-drop}
use Rattle.std.specs.List.{position_or_len, before_first, after_first, slice_split, join_with_byte}
use Rattle.std.proofs.lemmas.List.Splits.{slice_split_none, slice_split_first, length-slice_split, join_with_byte-slice_split}
use Rattle.std.proofs.lemmas.List.Sums.{fails_before_first}
use Rattle.rv_asm.specs.Bytes.{is_name, trim_start, parts_at}
use Rattle.rv_asm.specs.Labels.{label_of, names_in, rest_in, names_of, statement_of, with_label, with_labels, redefines}
use Rattle.rv_asm.specs.Operands.{Places}
use Rattle.rv_asm.proofs.Parts.{chosen_some, chosen_none, bound_some, parts_some, parts_none}

abbrev is_colon : ℕ → Bool
is_colon byte = eqb byte 58

names_in-more : (piece : List ℕ) (pieces : List (List ℕ)) → 0 < length pieces → names_in (piece ∷ pieces) ≡ cond (is_name (trim_start piece)) (trim_start piece ∷ names_in pieces) []
unfolding names_in
names_in-more piece [] h = absurd (omega arith)
names_in-more piece (next ∷ pieces) h = refl

rest_in-more : (piece : List ℕ) (pieces : List (List ℕ)) → 0 < length pieces → rest_in (piece ∷ pieces) ≡ cond (is_name (trim_start piece)) (rest_in pieces) (trim_start (join_with_byte 58 (piece ∷ pieces)))
unfolding rest_in
rest_in-more piece [] h = absurd (omega arith)
rest_in-more piece (next ∷ pieces) h = refl

some_pieces : (text : List ℕ) → 0 < length (slice_split is_colon text)
some_pieces text = omega (arith, length-slice_split is_colon text)

-- the names of a text with a colon
names_at : (text : List ℕ) → position_or_len is_colon text < length text → names_of text ≡ cond (is_name (trim_start (before_first is_colon text))) (trim_start (before_first is_colon text) ∷ names_of (after_first is_colon text)) []
unfolding names_of
names_at text h =
    ap names_in (slice_split_first is_colon text 0 h)
    ∙ names_in-more (before_first is_colon text) (slice_split is_colon (after_first is_colon text)) (some_pieces (after_first is_colon text))

statement_at : (text : List ℕ) → position_or_len is_colon text < length text → statement_of text ≡ cond (is_name (trim_start (before_first is_colon text))) (statement_of (after_first is_colon text)) (trim_start text)
unfolding statement_of
statement_at text h =
    let pieces = slice_split_first is_colon text 0 h in
    ap rest_in pieces
    ∙ rest_in-more (before_first is_colon text) (slice_split is_colon (after_first is_colon text)) (some_pieces (after_first is_colon text))
    ∙ ap (λ whole. cond (is_name (trim_start (before_first is_colon text))) (rest_in (slice_split is_colon (after_first is_colon text))) (trim_start whole)) (ap (join_with_byte 58) (sym pieces) ∙ join_with_byte-slice_split 58 text)

one_piece : (text : List ℕ) → length text ≤ position_or_len is_colon text → slice_split is_colon text ≡ text ∷ []
one_piece text h = slice_split_none is_colon text (λ k d low. fails_before_first is_colon text k d (omega arith))

-- what a text with a label says
pub record StartsWith (text name after : List ℕ) : Type 0 where
  pub names : names_of text ≡ name ∷ names_of after
  pub statement : statement_of text ≡ statement_of after
  pub shorter : length after < length text

-- the name before a colon, and what stands after it, if it is a name
abbrev named : List ℕ × List ℕ → Option (List ℕ × List ℕ)
named parts = cond (is_name (trim_start parts.0)) (Some (trim_start parts.0, parts.1)) None

pub label_some : (text name after : List ℕ) → label_of text ≡ Some (name, after) → StartsWith text name after
unfolding label_of
label_some text name after h =
    let k = bound_some named (parts_at 58 text) (name, after) h in
    let parts = k.0 in
    let at = parts_some 58 text parts k.1 in
    let label : List ℕ × List ℕ = (trim_start parts.0, parts.1) in
    let chosen = chosen_some (is_name (trim_start parts.0)) label (name, after) k.2 in
    let test : is_name (trim_start (before_first is_colon text)) ≡ true = ap (λ x. is_name (trim_start x)) at.1 ∙ chosen.0 in
    let is_named : trim_start (before_first is_colon text) ≡ name = ap trim_start at.1 ∙ ap (λ p. p.0) chosen.1 in
    let is_after : after_first is_colon text ≡ after = at.2 ∙ ap (λ p. p.1) chosen.1 in
    record {
      names = names_at text at.0 ∙ ap (λ b. cond b (trim_start (before_first is_colon text) ∷ names_of (after_first is_colon text)) []) test ∙ ap (λ n. n ∷ names_of (after_first is_colon text)) is_named ∙ ap (λ a. name ∷ names_of a) is_after;
      statement = statement_at text at.0 ∙ ap (λ b. cond b (statement_of (after_first is_colon text)) (trim_start text)) test ∙ ap statement_of is_after;
      shorter = omega (arith, ap length is_after, length-drop (position_or_len is_colon text + 1) text, at.0);
    }

none_by_parts : (text : List ℕ) (o : Option (List ℕ × List ℕ)) → parts_at 58 text ≡ o → option_and_then named o ≡ None → (names_of text ≡ []) × (statement_of text ≡ trim_start text)
unfolding names_of statement_of names_in rest_in
none_by_parts text None e k =
    let one = one_piece text (parts_none 58 text e) in
    (ap names_in one, ap rest_in one)
none_by_parts text (Some parts) e k =
    let at = parts_some 58 text parts e in
    let label : List ℕ × List ℕ = (trim_start parts.0, parts.1) in
    let test : is_name (trim_start (before_first is_colon text)) ≡ false = ap (λ x. is_name (trim_start x)) at.1 ∙ chosen_none (is_name (trim_start parts.0)) label k in
    (names_at text at.0 ∙ ap (λ b. cond b (trim_start (before_first is_colon text) ∷ names_of (after_first is_colon text)) []) test, statement_at text at.0 ∙ ap (λ b. cond b (statement_of (after_first is_colon text)) (trim_start text)) test)

-- what one without says
pub label_none : (text : List ℕ) → label_of text ≡ None → (names_of text ≡ []) × (statement_of text ≡ trim_start text)
unfolding label_of
label_none text h = none_by_parts text (parts_at 58 text) refl h

some_or : (a b c : Bool) → ((a || b) || c) ≡ (a || (b || c))
some_or true b c = refl
some_or false b c = refl

-- a label more: what is left, and what was found
pub label_step : (here : ℕ) (places after_it : Places) (text name after : List ℕ) (twice before : Bool) → label_of text ≡ Some (name, after) → after_it ≡ with_label here places name → before ≡ is_some (places name) → (with_labels here after_it (names_of after) ≡ with_labels here places (names_of text)) × (statement_of after ≡ statement_of text) × (((twice || before) || redefines here after_it (names_of after)) ≡ (twice || redefines here places (names_of text)))
unfolding redefines
label_step here places after_it text name after twice before h same was =
    let starts = label_some text name after h in (
      ap (λ p. with_labels here p (names_of after)) same ∙ sym (ap (with_labels here places) starts.names),
      sym starts.statement,
      ap (λ b. (twice || b) || redefines here after_it (names_of after)) was
          ∙ ap (λ p. (twice || is_some (places name)) || redefines here p (names_of after)) same
          ∙ some_or twice (is_some (places name)) (redefines here (with_label here places name) (names_of after))
          ∙ sym (ap (λ names. twice || redefines here places names) starts.names),
    )

-- no label more
pub label_end : (here : ℕ) (places : Places) (text : List ℕ) (twice : Bool) → label_of text ≡ None → (places ≡ with_labels here places (names_of text)) × (trim_start text ≡ statement_of text) × (twice ≡ (twice || redefines here places (names_of text)))
unfolding redefines
label_end here places text twice h =
    let none = label_none text h in
    (sym (ap (with_labels here places) none.0), sym none.1, sym (ap (λ names. twice || redefines here places names) none.0 ∙ or_false twice))
  where
    or_false : (b : Bool) → (b || false) ≡ b
    or_false true = refl
    or_false false = refl

pub label_shorter : (text name after : List ℕ) → label_of text ≡ Some (name, after) → length after < length text
label_shorter text name after h = (label_some text name after h).shorter
