-- The program of a text of one line with an instruction and nothing else.
use Rattle.std.proofs.Common.{◌≡◌, ℕ, ℤ, ◌+◌, ◌^◌, ◌<◌, ◌≤◌, ◌&&◌, ◌||◌, Bool, true, false, not, cond, List, [], ◌∷◌, ◌++◌, length, Option, Some, None, option_and_then, Result, Ok, Err, refl, ap, ◌∙◌, arith, eqb, ltb, codes}
use Rattle.std.specs.Fmt.{decimal, signed_decimal}
use Rattle.std.specs.List.{list_all, position_or_len, before_first, after_first}
use Rattle.std.specs.Option.{ok_or}
use Rattle.std.specs.Str.{bytes_eq}
use Rattle.std.specs.Str.Lines.{lines, strip_carriage_return}
use Rattle.std.proofs.lemmas.Bool.Decides.{nat_tests}
use Rattle.std.proofs.lemmas.List.{drop_all}
use Rattle.slack_base.specs.declared.faults.AsmFault.{AsmFault}
use Rattle.slack_base.specs.declared.faults.AsmKind.{AsmKind}
use Rattle.slack_base.specs.declared.faults.AsmKind.TheVariants.{Byte, Mnemonic}
use Rattle.slack_base.specs.declared.instructions.Instr.{Instr}
use Rattle.rv_decode.specs.Ranges.{IsInRange}
use Rattle.rv_decode.specs.Texts.{register, behind}
use Rattle.rv_asm.specs.declared.operations.Operation.{Operation}
use Rattle.rv_asm.specs.Bytes.{is_within, is_blank, is_printable, is_name, trim, trim_start, parts_at}
use Rattle.rv_asm.specs.Instructions.{Code, Instruction, code_of, data_of, operation_code, instruction}
use Rattle.rv_asm.specs.Kinds.{◌>>=◌}
use Rattle.rv_asm.specs.Labels.{uncommented, no_places, redefines, names_of, statement_of, label_of}
use Rattle.rv_asm.specs.Lines.{names, statement, line_code, line_code_of, statement_code, first_line, rest_of_lines}
use Rattle.rv_asm.specs.Mnemonics.{operation_of}
use Rattle.rv_asm.specs.Operands.{Places}
use Rattle.rv_asm.specs.Programs.{program_of, places_of, codes_from, after_line}
use Rattle.rv_asm.proofs.Coding.{code_checked}
use Rattle.rv_asm.proofs.InRange.{is_in_its_range}
use Rattle.rv_asm.proofs.Names.{label_none}
use Rattle.rv_asm.proofs.Pieces.{all_both, all_pass, divides, undivided, undivided_front, same_start, same_trimmed, IsTight, tight_both}
use Rattle.rv_asm.proofs.ReadBack.{IsSmall, register_tight, number_tight, upper_tight, more_tight, behind_tight, displaced_tight}
use Rattle.rv_asm.proofs.Spelling.{is_inner, inner_bare, inner_tight, register_inner, signed_inner, decimal_inner, within, within_from, or_left, or_right, other_byte}
use Rattle.rv_asm.proofs.Steps.{lines_step, lines_none}

-- a byte of an instruction's text
abbrev pub is_plain : ℕ → Bool
is_plain b = (eqb b 32 || is_within 40 57 b) || is_within 97 122 b

pub record IsPlain (b : ℕ) : Type 0 where
  pub low : 32 ≤ b
  pub high : b ≤ 122
  pub no_comment : b ≡ 35 → ⊥
  pub no_colon : b ≡ 58 → ⊥

plain_is : (b : ℕ) → is_plain b ≡ true → IsPlain b
plain_is b h =
    elim (eqb b 32) as (λ t. eqb b 32 ≡ t → ((t || is_within 40 57 b) || is_within 97 122 b) ≡ true → IsPlain b) [
      | true ↦ λ e k. let same : b ≡ 32 = grind (arith, nat_tests) in record { low = omega (arith, same); high = omega (arith, same); no_comment = λ is. omega (arith, same, is); no_colon = λ is. omega (arith, same, is) }
      | false ↦ λ e k.
          elim (is_within 40 57 b) as (λ t. is_within 40 57 b ≡ t → (t || is_within 97 122 b) ≡ true → IsPlain b) [
            | true ↦ λ f l. let at = within 40 57 b f in record { low = omega (arith, at.0); high = omega (arith, at.1); no_comment = λ is. omega (arith, at.0, is); no_colon = λ is. omega (arith, at.1, is) }
            | false ↦ λ f l. let at = within 97 122 b l in record { low = omega (arith, at.0); high = at.1; no_comment = λ is. omega (arith, at.0, is); no_colon = λ is. omega (arith, at.0, is) }
          ] refl k
    ] refl h

inner_plain : (text : List ℕ) → list_all is_inner text ≡ true → list_all is_plain text ≡ true
inner_plain text h = all_pass is_inner is_plain text each h
  where
    each : (b : ℕ) → is_inner b ≡ true → is_plain b ≡ true
    each b k =
        elim (is_within 45 57 b) as (λ t. is_within 45 57 b ≡ t → (t || is_within 97 122 b) ≡ true → is_plain b ≡ true) [
          | true ↦ λ e l. let at = within 45 57 b e in or_left (eqb b 32 || is_within 40 57 b) (is_within 97 122 b) (or_right (eqb b 32) (is_within 40 57 b) (within_from 40 57 b (omega (arith, at.0)) at.1))
          | false ↦ λ e l. or_right (eqb b 32 || is_within 40 57 b) (is_within 97 122 b) l
        ] refl k

-- operands as the texts of instructions have them
pub record AreOperands (text : List ℕ) : Type 0 where
  pub tight : IsTight text
  pub plain : list_all is_plain text ≡ true

pub is_register : (r : ℕ) → r < 32 → AreOperands (register r)
is_register r h = record { tight = register_tight r h; plain = inner_plain (register r) (register_inner r h) }

pub is_number : (z : ℤ) → IsSmall z → AreOperands (signed_decimal z)
is_number z h = record { tight = number_tight z h; plain = inner_plain (signed_decimal z) (signed_inner z h.size) }

pub is_upper : (n : ℕ) → n < 2 ^ 32 → AreOperands (decimal n)
is_upper n h = record { tight = upper_tight n h; plain = inner_plain (decimal n) (decimal_inner n h) }

plain_behind : (r : ℕ) → r < 32 → list_all is_plain (behind r) ≡ true
plain_behind r h = all_both is_plain (register r) (41 ∷ []) (inner_plain (register r) (register_inner r h)) refl

pub is_behind : (r : ℕ) → r < 32 → AreOperands (behind r)
is_behind r h = record { tight = behind_tight r; plain = plain_behind r h }

pub is_displaced : (z : ℤ) (r : ℕ) → IsSmall z → r < 32 → AreOperands (signed_decimal z ++ behind r)
is_displaced z r k h = record {
  tight = displaced_tight z r k;
  plain = all_both is_plain (signed_decimal z) (behind r) (inner_plain (signed_decimal z) (signed_inner z k.size)) (plain_behind r h);
}

pub are_more : (r : ℕ) (ys : List ℕ) → r < 32 → AreOperands ys → AreOperands (register r ++ (44 ∷ 32 ∷ ys))
are_more r ys h p = record {
  tight = more_tight r ys h p.tight;
  plain = all_both is_plain (register r) (44 ∷ 32 ∷ ys) (inner_plain (register r) (register_inner r h)) p.plain;
}

-- such a text is one line
abbrev is_feed : ℕ → Bool
is_feed b = eqb b 10

but : (c : ℕ) (text : List ℕ) → ((b : ℕ) → IsPlain b → b ≡ c → ⊥) → list_all is_plain text ≡ true → list_all (λ b. not (eqb b c)) text ≡ true
but c text differs h = all_pass is_plain (λ b. not (eqb b c)) text (λ b k. other_byte b c (differs b (plain_is b k))) h

plain_printable : (text : List ℕ) → list_all is_plain text ≡ true → list_all is_printable text ≡ true
plain_printable text h = all_pass is_plain is_printable text (λ b k. let p = plain_is b k in or_right (eqb b 9) (is_within 32 126 b) (within_from 32 126 b p.low (omega (arith, p.high)))) h

some_bytes : (text : List ℕ) → IsTight text → 0 < length text
some_bytes text p = omega (arith, ap length p.starts)

one_line : (text : List ℕ) → IsTight text → list_all is_plain text ≡ true → lines text ≡ text ∷ []
unfolding first_line rest_of_lines
one_line text tight plain =
    let place = undivided is_feed text (but 10 text (λ b p same. omega (arith, p.low, same)) plain) in
    let test : ltb (position_or_len is_feed text) (length text) ≡ false = grind (arith, nat_tests) in
    let first : first_line text ≡ text = ap (λ b. cond b (strip_carriage_return (before_first is_feed text)) text) test in
    let rest : rest_of_lines text ≡ [] = drop_all (position_or_len is_feed text + 1) text (omega (arith, place)) in
    lines_step text (some_bytes text tight)
    ∙ ap (λ line. line ∷ lines (rest_of_lines text)) first
    ∙ ap (λ others. text ∷ lines others) rest
    ∙ ap (λ others. text ∷ others) (lines_none [] refl)

no_comment : (text : List ℕ) → IsTight text → list_all is_plain text ≡ true → uncommented text ≡ text
unfolding uncommented
no_comment text tight plain =
    ap trim (undivided_front (λ b. eqb b 35) text (but 35 text (λ b p. p.no_comment) plain)) ∙ same_trimmed text tight

no_label : (text : List ℕ) → list_all is_plain text ≡ true → label_of text ≡ None
unfolding label_of parts_at
no_label text plain =
    let place = undivided (λ b. eqb b 58) text (but 58 text (λ b p. p.no_colon) plain) in
    let test : ltb (position_or_len (λ b. eqb b 58) text) (length text) ≡ false = grind (arith, nat_tests) in
    let whole : List ℕ × List ℕ = (before_first (λ b. eqb b 58) text, after_first (λ b. eqb b 58) text) in
    ap {B = Option (List ℕ × List ℕ)} (λ b. option_and_then (λ parts. cond (is_name (trim_start parts.0)) (Some (trim_start parts.0, parts.1)) None) (cond b (Some whole) None)) test

-- its line stands for what its statement does
line_read : (places : Places) (text : List ℕ) (code : Code) → IsTight text → list_all is_plain text ≡ true → code_of places 0 text ≡ Ok code → line_code places no_places 0 text ≡ Ok (Some code)
unfolding line_code_of redefines
line_read places text code tight plain read =
    let answer : Type 0 = Result (Option Code) AsmKind in
    let bare = no_comment text tight plain in
    let none = label_none text (no_label text plain) in
    let no_names : names text ≡ [] = ap names_of bare ∙ none.0 in
    let said : statement text ≡ text = ap statement_of bare ∙ none.1 ∙ same_start text tight in
    let some = some_bytes text tight in
    let filled : eqb (length text) 0 ≡ false = grind (arith, nat_tests) in
    ap {B = answer} (λ ns. line_code_of places 0 text (redefines 0 no_places ns) (statement text)) no_names
    ∙ ap {B = answer} (λ s. line_code_of places 0 text false s) said
    ∙ ap {B = answer} (λ b. cond (not b) (Err Byte) (statement_code places 0 text)) (plain_printable text plain)
    ∙ ap {B = answer} (λ b. cond b (Ok None) (code_of places 0 text >>= λ c. Ok (Some c))) filled
    ∙ ap {B = answer} (λ r. r >>= λ c. Ok (Some c)) read

pub program_read : (text : List ℕ) (code : Code) → IsTight text → list_all is_plain text ≡ true → ((places : Places) → code_of places 0 text ≡ Ok code) → program_of text ≡ Ok (code ∷ [])
unfolding codes_from
program_read text code tight plain read =
    let places = places_of text in
    let answer : Type 0 = Result (List Code) AsmFault in
    ap {B = answer} (codes_from places no_places 1 0) (one_line text tight plain)
    ∙ ap {B = answer} (λ r. after_line 1 0 r (Ok [])) (line_read places text code tight plain (read places))

-- a name is the mnemonic of an operation, and not `.word`
pub record IsNameOf (name : List ℕ) (operation : Operation) : Type 0 where
  pub known : operation_of name ≡ Some operation
  pub fits : (list_all is_inner name && (not (bytes_eq name (codes ".word")) && ltb 0 (length name))) ≡ true

and_parts : (a b c : Bool) → (a && (b && c)) ≡ true → (a ≡ true) × (b ≡ true) × (c ≡ true)
and_parts true true true h = (refl, refl, refl)
and_parts true true false h = absurd cc
and_parts true false c h = absurd cc
and_parts false b c h = absurd cc

not_true : (b : Bool) → not b ≡ true → b ≡ false
not_true true h = absurd cc
not_true false h = refl

spelled_code : (places : Places) (name ops : List ℕ) (operation : Operation) (i : Instr) → IsNameOf name operation → IsTight ops → instruction places 0 operation ops ≡ Ok i → IsInRange i → code_of places 0 (name ++ (32 ∷ ops)) ≡ Ok (Instruction i)
unfolding code_of
spelled_code places name ops operation i known tight made range =
    let answer : Type 0 = Result Code AsmKind in
    let parts = and_parts (list_all is_inner name) (not (bytes_eq name (codes ".word"))) (ltb 0 (length name)) known.fits in
    let at = divides is_blank name 32 ops (inner_bare name parts.0) refl in
    let operands = trim_start (after_first is_blank (name ++ (32 ∷ ops))) in
    ap {B = answer} (λ n. cond (bytes_eq n (codes ".word")) (data_of operands) (operation_code places 0 n operands)) at.front
    ∙ ap {B = answer} (λ b. cond b (data_of operands) (operation_code places 0 name operands)) (not_true (bytes_eq name (codes ".word")) parts.1)
    ∙ ap {B = answer} (λ rest. operation_code places 0 name (trim_start rest)) at.rest
    ∙ ap {B = answer} (operation_code places 0 name) (same_start ops tight)
    ∙ code_checked places 0 name ops operation i true (ap (λ o. ok_or o Mnemonic) known.known) made (is_in_its_range i range)

-- a mnemonic and its operands
pub spelled_read : (name ops : List ℕ) (operation : Operation) (i : Instr) → IsNameOf name operation → AreOperands ops → ((places : Places) → instruction places 0 operation ops ≡ Ok i) → IsInRange i → program_of (name ++ (32 ∷ ops)) ≡ Ok (Instruction i ∷ [])
spelled_read name ops operation i known are made range =
    let parts = and_parts (list_all is_inner name) (not (bytes_eq name (codes ".word"))) (ltb 0 (length name)) known.fits in
    let test = parts.2 in
    let some : 0 < length name = grind (arith, nat_tests) in
    program_read (name ++ (32 ∷ ops)) (Instruction i) (tight_both {xs = name} {ys = ops} (32 ∷ []) (inner_tight name some parts.0) are.tight) (all_both is_plain name (32 ∷ ops) (inner_plain name parts.0) are.plain) (λ places. spelled_code places name ops operation i known are.tight (made places) range)

-- a mnemonic alone
alone_code : (places : Places) (name : List ℕ) (operation : Operation) (i : Instr) → IsNameOf name operation → instruction places 0 operation [] ≡ Ok i → IsInRange i → code_of places 0 name ≡ Ok (Instruction i)
unfolding code_of trim_start
alone_code places name operation i known made range =
    let answer : Type 0 = Result Code AsmKind in
    let parts = and_parts (list_all is_inner name) (not (bytes_eq name (codes ".word"))) (ltb 0 (length name)) known.fits in
    let bare = inner_bare name parts.0 in
    let place = undivided is_blank name bare in
    let operands = trim_start (after_first is_blank name) in
    ap {B = answer} (λ n. cond (bytes_eq n (codes ".word")) (data_of operands) (operation_code places 0 n operands)) (undivided_front is_blank name bare)
    ∙ ap {B = answer} (λ b. cond b (data_of operands) (operation_code places 0 name operands)) (not_true (bytes_eq name (codes ".word")) parts.1)
    ∙ ap {B = answer} (λ rest. operation_code places 0 name (trim_start rest)) (drop_all (position_or_len is_blank name + 1) name (omega (arith, place)))
    ∙ code_checked places 0 name [] operation i true (ap (λ o. ok_or o Mnemonic) known.known) made (is_in_its_range i range)

pub alone_read : (name : List ℕ) (operation : Operation) (i : Instr) → IsNameOf name operation → ((places : Places) → instruction places 0 operation [] ≡ Ok i) → IsInRange i → program_of name ≡ Ok (Instruction i ∷ [])
alone_read name operation i known made range =
    let parts = and_parts (list_all is_inner name) (not (bytes_eq name (codes ".word"))) (ltb 0 (length name)) known.fits in
    let test = parts.2 in
    let some : 0 < length name = grind (arith, nat_tests) in
    program_read name (Instruction i) (inner_tight name some parts.0) (inner_plain name parts.0) (λ places. alone_code places name operation i known (made places) range)
