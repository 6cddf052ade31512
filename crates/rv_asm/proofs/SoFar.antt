-- The program so far, from line to line.
use Rattle.std.proofs.Common.{◌≡◌, ℕ, ◌+◌, ◌*◌, ◌^◌, ◌<◌, ◌≤◌, Bool, true, false, cond, List, [], ◌∷◌, ◌++◌, length, not, Option, Some, None, Result, Ok, Err, refl, sym, ap, ◌∙◌, subst, arith, eqb, leb, append_assoc, append-nil, length-append}
use Rattle.std.specs.Int.{to_le_bytes, w32}
use Rattle.std.specs.List.{list_all}
use Rattle.std.specs.Result.{IsErrAnd}
use Rattle.std.specs.Str.Lines.{lines}
use Rattle.slack_base.specs.declared.faults.AsmKind.{AsmKind}
use Rattle.slack_base.specs.declared.faults.AsmKind.TheVariants.{Byte, Twice, TooLong}
use Rattle.slack_base.specs.declared.faults.AsmFault.{AsmFault}
use Rattle.std.proofs.lemmas.Bool.Decides.{nat_tests}
use Rattle.std.specs.Option.{IsSome}
use Rattle.rv_asm.specs.declared.assembling.AsmError.{AsmError}
use Rattle.rv_asm.specs.declared.assembling.AsmError.TheVariants.{Fault, OutOfMemory}
use Rattle.rv_asm.specs.Bytes.{is_printable}
use Rattle.rv_asm.specs.Instructions.{Code, Stands, code_of}
use Rattle.rv_asm.specs.Kinds.{◌>>=◌}
use Rattle.rv_asm.specs.Labels.{no_places, with_labels, redefines}
use Rattle.rv_asm.specs.Lines.{names, statement, place_after, line_code, line_code_of, GivesLine, first_line, rest_of_lines}
use Rattle.rv_asm.specs.Operands.{Places}
use Rattle.rv_asm.specs.Programs.{codes_from, after_line, with_front, AreWordsOf, most_words, GivesBytes, PushesWord}
use Rattle.rv_asm.proofs.Steps.{lines_step, lines_none, rest_shorter}

-- the bytes so far are words of the codes so far, and these with the codes of the rest are those of the text
pub record IsSoFar (places : Places) (text : List ℕ) (before : Places) (number here : ℕ) (rest bytes : List ℕ) : Type 0 where
  pub codes : List Code
  pub words : AreWordsOf codes bytes
  pub whole : with_front codes (codes_from places before (number + 1) here (lines rest)) ≡ codes_from places no_places 1 0 (lines text)
  pub size : length bytes ≡ 4 * here
  pub short : here ≤ most_words
  pub lines_before : number + length rest ≤ length text

front_nil : (read : Result (List Code) AsmFault) → with_front [] read ≡ read
front_nil (Ok codes) = refl
front_nil (Err fault) = refl

front_more : (codes : List Code) (code : Code) (read : Result (List Code) AsmFault) → with_front (codes ++ code ∷ []) read ≡ with_front codes (with_front (code ∷ []) read)
front_more codes code (Ok others) = ap Ok (append_assoc codes (code ∷ []) others)
front_more codes code (Err fault) = refl

pub so_far_start : (places before : Places) (text : List ℕ) → before ≡ no_places → IsSoFar places text before 0 0 text []
so_far_start places before text none = record {
  codes = [];
  words = refl;
  whole = front_nil (codes_from places before 1 0 (lines text)) ∙ ap (λ p. codes_from places p 1 0 (lines text)) none;
  size = refl;
  short = omega arith;
  lines_before = omega arith;
}

-- what a line is, by its tests
abbrev line_by : (bytes twice empty : Bool) (read : Result Code AsmKind) → Result (Option Code) AsmKind
line_by bytes twice empty read = cond bytes (Err Byte) (cond twice (Err Twice) (cond empty (Ok None) (read >>= λ code. Ok (Some code))))

none_by : (bytes twice empty : Bool) (read : Result Code AsmKind) → line_by bytes twice empty read ≡ Ok None → empty ≡ true
none_by true twice empty read h = absurd cc
none_by false true empty read h = absurd cc
none_by false false true read h = refl
none_by false false false (Ok code) h = absurd cc
none_by false false false (Err kind) h = absurd cc

some_by : (bytes twice empty : Bool) (read : Result Code AsmKind) (code : Code) → line_by bytes twice empty read ≡ Ok (Some code) → empty ≡ false
some_by true twice empty read code h = absurd cc
some_by false true empty read code h = absurd cc
some_by false false true read code h = absurd cc
some_by false false false read code h = refl

-- a line without a word has no statement, one with a word has one
stays : (places before : Places) (here : ℕ) (line : List ℕ) → line_code places before here line ≡ Ok None → place_after here line ≡ here
unfolding line_code_of place_after
stays places before here line h =
    let empty = none_by (not (list_all is_printable line)) (redefines here before (names line)) (eqb (length (statement line)) 0) (code_of places here (statement line)) h in
    ap (λ b. cond (not b) (here + 1) here) empty

moves : (places before : Places) (here : ℕ) (line : List ℕ) (code : Code) → line_code places before here line ≡ Ok (Some code) → place_after here line ≡ here + 1
unfolding line_code_of place_after
moves places before here line code h =
    let some = some_by (not (list_all is_printable line)) (redefines here before (names line)) (eqb (length (statement line)) 0) (code_of places here (statement line)) code h in
    ap (λ b. cond (not b) (here + 1) here) some

-- the codes of a text, from its first line's
codes_step : (places before : Places) (number here : ℕ) (text : List ℕ) → 0 < length text → codes_from places before number here (lines text) ≡ after_line number here (line_code places before here (first_line text)) (codes_from places (with_labels here before (names (first_line text))) (number + 1) (place_after here (first_line text)) (lines (rest_of_lines text)))
unfolding codes_from
codes_step places before number here text some = ap (codes_from places before number here) (lines_step text some)

codes_none : (places before after_it : Places) (number here : ℕ) (text : List ℕ) → 0 < length text → after_it ≡ with_labels here before (names (first_line text)) → line_code places before here (first_line text) ≡ Ok None → codes_from places after_it (number + 1) here (lines (rest_of_lines text)) ≡ codes_from places before number here (lines text)
codes_none places before after_it number here text some defined read =
    let line = first_line text in
    let others : ℕ → Result (List Code) AsmFault = λ place. codes_from places (with_labels here before (names line)) (number + 1) place (lines (rest_of_lines text)) in
    ap (λ p. codes_from places p (number + 1) here (lines (rest_of_lines text))) defined
    ∙ sym (ap others (stays places before here line read))
    ∙ sym (ap (λ r. after_line number here r (others (place_after here line))) read)
    ∙ sym (codes_step places before number here text some)

codes_some : (places before after_it : Places) (number here : ℕ) (text : List ℕ) (code : Code) → 0 < length text → after_it ≡ with_labels here before (names (first_line text)) → line_code places before here (first_line text) ≡ Ok (Some code) → here < most_words → with_front (code ∷ []) (codes_from places after_it (number + 1) (here + 1) (lines (rest_of_lines text))) ≡ codes_from places before number here (lines text)
codes_some places before after_it number here text code some defined read room =
    let line = first_line text in
    let others : ℕ → Result (List Code) AsmFault = λ place. codes_from places (with_labels here before (names line)) (number + 1) place (lines (rest_of_lines text)) in
    let short : leb most_words here ≡ false = grind (arith, nat_tests) in
    ap (λ p. with_front (code ∷ []) (codes_from places p (number + 1) (here + 1) (lines (rest_of_lines text)))) defined
    ∙ sym (ap (λ place. with_front (code ∷ []) (others place)) (moves places before here line code read))
    ∙ sym (ap (λ b. cond b (Err (record { line = number; kind = TooLong })) (with_front (code ∷ []) (others (place_after here line)))) short)
    ∙ sym (ap (λ r. after_line number here r (others (place_after here line))) read)
    ∙ sym (codes_step places before number here text some)

-- a fault of a line is that of the text
pub line_fault : {places before : Places} {text : List ℕ} {number here : ℕ} {rest bytes : List ℕ} → IsSoFar places text before number here rest bytes → (kind : AsmKind) → 0 < length rest → line_code places before here (first_line rest) ≡ Err kind → codes_from places no_places 1 0 (lines text) ≡ Err (record { line = number + 1; kind = kind })
line_fault {places} {before} {text} {number} {here} {rest} s kind some read =
    let line = first_line rest in
    let others = codes_from places (with_labels here before (names line)) (number + 1 + 1) (place_after here line) (lines (rest_of_lines rest)) in
    sym s.whole ∙ ap (with_front s.codes) (codes_step places before (number + 1) here rest some ∙ ap (λ r. after_line (number + 1) here r others) read)

pub too_long : {places before : Places} {text : List ℕ} {number here : ℕ} {rest bytes : List ℕ} → IsSoFar places text before number here rest bytes → (code : Code) → 0 < length rest → line_code places before here (first_line rest) ≡ Ok (Some code) → most_words ≤ here → codes_from places no_places 1 0 (lines text) ≡ Err (record { line = number + 1; kind = TooLong })
too_long {places} {before} {text} {number} {here} {rest} s code some read long =
    let line = first_line rest in
    let others = codes_from places (with_labels here before (names line)) (number + 1 + 1) (place_after here line) (lines (rest_of_lines rest)) in
    let full : leb most_words here ≡ true = grind (arith, nat_tests) in
    sym s.whole ∙ ap (with_front s.codes) (codes_step places before (number + 1) here rest some ∙ ap (λ r. after_line (number + 1) here r others) read ∙ ap (λ b. cond b (Err (record { line = number + 1; kind = TooLong })) (with_front (code ∷ []) others)) full)

pub so_far_end : {places before : Places} {text : List ℕ} {number here : ℕ} {rest bytes : List ℕ} → (s : IsSoFar places text before number here rest bytes) → length rest ≡ 0 → codes_from places no_places 1 0 (lines text) ≡ Ok s.codes
unfolding codes_from
so_far_end {places} {before} {text} {number} {here} {rest} s none =
    sym s.whole ∙ ap (λ ls. with_front s.codes (codes_from places before (number + 1) here ls)) (lines_none rest none) ∙ ap Ok (append-nil s.codes)

-- a word more
words_more : (codes : List Code) (bytes : List ℕ) (word : ℕ) (code : Code) → AreWordsOf codes bytes → word < 2 ^ 32 → Stands word code → AreWordsOf (codes ++ code ∷ []) (bytes ++ to_le_bytes w32 word)
words_more [] bytes word code h fits stands = (word, [], fits, stands, ap (λ b. b ++ to_le_bytes w32 word) h ∙ sym (append-nil (to_le_bytes w32 word)), refl)
words_more (first ∷ codes) bytes word code h fits stands =
    (h.0, h.1 ++ to_le_bytes w32 word, h.2, h.3, ap (λ b. b ++ to_le_bytes w32 word) h.4 ∙ append_assoc (to_le_bytes w32 h.0) h.1 (to_le_bytes w32 word), words_more codes h.1 word code h.5 fits stands)

pub so_far_step : {places before : Places} {text : List ℕ} {number here : ℕ} {rest bytes : List ℕ} → (s : IsSoFar places text before number here rest bytes) (after_it : Places) (after : ℕ) (new : List ℕ) (word : Option ℕ) → 0 < length rest → after_it ≡ with_labels here before (names (first_line rest)) → GivesLine (Ok word) (line_code places before here (first_line rest)) → PushesWord bytes new here word after → IsSoFar places text after_it (number + 1) after (rest_of_lines rest) new
so_far_step {places} {before} {text} {number} {here} {rest} {bytes} s after_it after new None some defined read pushed = record {
  codes = s.codes;
  words = subst (AreWordsOf s.codes) (sym pushed.1) s.words;
  whole = ap (λ n. with_front s.codes (codes_from places after_it (number + 1 + 1) n (lines (rest_of_lines rest)))) pushed.0 ∙ ap (with_front s.codes) (codes_none places before after_it (number + 1) here rest some defined read) ∙ s.whole;
  size = ap length pushed.1 ∙ s.size ∙ sym (ap (λ n. 4 * n) pushed.0);
  short = omega (arith, pushed.0, s.short);
  lines_before = omega (arith, rest_shorter rest some, s.lines_before);
}
so_far_step {places} {before} {text} {number} {here} {rest} {bytes} s after_it after new (Some word) some defined read pushed = record {
  codes = s.codes ++ read.0 ∷ [];
  words = subst (AreWordsOf (s.codes ++ read.0 ∷ [])) (sym pushed.2) (words_more s.codes bytes word read.0 s.words pushed.3 read.2);
  whole = ap (λ n. with_front (s.codes ++ read.0 ∷ []) (codes_from places after_it (number + 1 + 1) n (lines (rest_of_lines rest)))) pushed.1 ∙ front_more s.codes read.0 (codes_from places after_it (number + 1 + 1) (here + 1) (lines (rest_of_lines rest))) ∙ ap (with_front s.codes) (codes_some places before after_it (number + 1) here rest read.0 some defined read.1 pushed.0) ∙ s.whole;
  size = ap length pushed.2 ∙ length-append bytes (to_le_bytes w32 word) ∙ (let e : length bytes + 4 ≡ 4 * after = omega (arith, s.size, pushed.1) in e);
  short = omega (arith, pushed.0, pushed.1);
  lines_before = omega (arith, rest_shorter rest some, s.lines_before);
}

-- what a line is, by what was read of it
pub line_is : (places before : Places) (here : ℕ) (rest line said : List ℕ) (twice : Bool) → line ≡ first_line rest → twice ≡ redefines here before (names line) → said ≡ statement line → line_code_of places here line twice said ≡ line_code places before here (first_line rest)
line_is places before here rest line said twice first again after =
    ap (λ t. line_code_of places here line t said) again
    ∙ ap (line_code_of places here line (redefines here before (names line))) after
    ∙ ap (line_code places before here) first

-- a fault of a word more is that of the text
pub push_fault : {V : Type 0} (items : V → List ℕ) {places before : Places} {text : List ℕ} {number here : ℕ} {rest bytes : List ℕ} → IsSoFar places text before number here rest bytes → (word : Option ℕ) (error : AsmError) → 0 < length rest → GivesLine (Ok word) (line_code places before here (first_line rest)) → ((fault : AsmFault) → error ≡ Fault fault → IsSome word × (most_words ≤ here) × (fault ≡ record { line = number + 1; kind = TooLong })) → GivesBytes items (Err error) (codes_from places no_places 1 0 (lines text))
push_fault items s word OutOfMemory some read why = tt
push_fault items s None (Fault fault) some read why = let none = (why fault refl).0 in absurd cc
push_fault items s (Some word) (Fault fault) some read why =
    let w = why fault refl in
    too_long s read.0 some read.1 w.1 ∙ sym (ap Err w.2)

-- an error that is passed on
pub passed_on : {V : Type 0} (items : V → List ℕ) (r : Result V AsmError) (error : AsmError) (read : Result (List Code) AsmFault) → IsErrAnd r (λ e. e ≡ error) → GivesBytes items (Err error) read → GivesBytes items r read
passed_on items (Ok v) error read h k = absurd h
passed_on {V = V} items (Err e) error read h k = subst (λ x. GivesBytes {V = V} items (Err x) read) (sym h) k
