-- What the decoder answers stands in the table.
use Rattle.std.proofs.Common.{◌≡◌, ℕ, ◌<◌, Bool, true, false, cond, eqb, ◌&&◌, List, [], ◌∷◌, Option, Some, None, refl, sym, subst, ◌∙◌, arith}
use Rattle.std.specs.List.{find}
use Rattle.std.specs.Option.{option_map, option_or}
use Rattle.std.proofs.lemmas.Bool.{eqb-true, eqb-false, cond_both, and_parts}
use Rattle.std.proofs.lemmas.Option.{none-some, same_Some}
use Rattle.slack_base.specs.declared.instructions.Instr.{Instr}
use Rattle.slack_base.specs.declared.instructions.Instr.TheVariants.{Jalr, Branch, Load, Store, Imm, Shift, Reg, Lr, Sc, Amo, Fence, Ecall, Ebreak}
use Rattle.rv_decode.specs.Fields.{opcode_of, rd_of, f3_of, rs1_of, rs2_of, f7_of, funct5_of, aq_of, rl_of, bit_of, immediate_i, immediate_s, immediate_b}
use Rattle.rv_decode.specs.Operations.{branch_f3, load_f3, store_f3, imm_f3, shift_f3, shift_f7, reg_f3, reg_f7, amo_funct5}
use Rattle.rv_decode.specs.Decoding.{branch_ops, load_ops, store_ops, imm_ops, shift_ops, reg_ops, amo_ops, jalr_of, branch_of, load_of, store_of, imm_of, shift_of, reg_of, fence_of, lr_of, sc_of, amo_of, atomic_by, atomic_of, system_of, instr_by, instr_of}
use Rattle.rv_decode.specs.Encodes.{IsAtomic, Encodes}

-- the word stands for what is answered
abbrev AnswersRight : ℕ → Option Instr → Type 0
AnswersRight word answer = (i : Instr) → answer ≡ Some i → Encodes word i

no : (word : ℕ) → AnswersRight word None
no word i h = absurd (none-some i h)

one : (word : ℕ) (j : Instr) → Encodes word j → AnswersRight word (Some j)
one word j e i h = subst (Encodes word) (same_Some j i h) e

either : (word : ℕ) (b : Bool) (x y : Option Instr) → (b ≡ true → AnswersRight word x) → (b ≡ false → AnswersRight word y) → AnswersRight word (cond b x y)
either word b x y = cond_both b x y (AnswersRight word)

guarded : (word : ℕ) (b : Bool) (j : Instr) → (b ≡ true → Encodes word j) → AnswersRight word (cond b (Some j) None)
guarded word b j e = either word b (Some j) None (λ t. one word j (e t)) (λ _. no word)

-- an operation that is looked up by a test
looked_up : {X : Type 0} (word : ℕ) (test : X → Bool) (ops : List X) (f : X → Instr) → ((op : X) → test op ≡ true → Encodes word (f op)) → AnswersRight word (option_map f (find test ops))
looked_up word test [] f e = no word
looked_up word test (op ∷ ops) f e =
    cond_both (test op) (Some op) (find test ops) (λ o. AnswersRight word (option_map f o))
    (λ t. one word (f op) (e op t))
    (λ _. looked_up word test ops f e)

first : (word : ℕ) (x y : Option Instr) → AnswersRight word x → AnswersRight word y → AnswersRight word (option_or x y)
first word None y a b = b
first word (Some j) y a b = a

-- the value of a flag's bit
bit_of_flag : (n : ℕ) → n < 2 → n ≡ bit_of (eqb n 1)
bit_of_flag n h = grind (arith, eqb-true, eqb-false)

jalr_right : (word : ℕ) → opcode_of word ≡ 0b1100111 → AnswersRight word (jalr_of word)
jalr_right word o =
    guarded word (eqb (f3_of word) 0) (Jalr (rd_of word) (rs1_of word) (immediate_i word))
    (λ t. record { has_opcode = o; has_f3 = eqb-true _ _ t; has_rd = refl; has_rs1 = refl; has_immediate = refl })

branch_right : (word : ℕ) → opcode_of word ≡ 0b1100011 → AnswersRight word (branch_of word)
branch_right word o =
    looked_up word (λ op. eqb (branch_f3 op) (f3_of word)) branch_ops (λ op. Branch op (rs1_of word) (rs2_of word) (immediate_b word))
    (λ op t. record { has_opcode = o; has_f3 = sym (eqb-true _ _ t); has_rs1 = refl; has_rs2 = refl; has_immediate = refl })

load_right : (word : ℕ) → opcode_of word ≡ 0b0000011 → AnswersRight word (load_of word)
load_right word o =
    looked_up word (λ op. eqb (load_f3 op) (f3_of word)) load_ops (λ op. Load op (rd_of word) (rs1_of word) (immediate_i word))
    (λ op t. record { has_opcode = o; has_f3 = sym (eqb-true _ _ t); has_rd = refl; has_rs1 = refl; has_immediate = refl })

store_right : (word : ℕ) → opcode_of word ≡ 0b0100011 → AnswersRight word (store_of word)
store_right word o =
    looked_up word (λ op. eqb (store_f3 op) (f3_of word)) store_ops (λ op. Store op (rs1_of word) (rs2_of word) (immediate_s word))
    (λ op t. record { has_opcode = o; has_f3 = sym (eqb-true _ _ t); has_rs1 = refl; has_rs2 = refl; has_immediate = refl })

imm_right : (word : ℕ) → opcode_of word ≡ 0b0010011 → AnswersRight word (imm_of word)
imm_right word o =
    looked_up word (λ op. eqb (imm_f3 op) (f3_of word)) imm_ops (λ op. Imm op (rd_of word) (rs1_of word) (immediate_i word))
    (λ op t. record { has_opcode = o; has_f3 = sym (eqb-true _ _ t); has_rd = refl; has_rs1 = refl; has_immediate = refl })

shift_right : (word : ℕ) → opcode_of word ≡ 0b0010011 → AnswersRight word (shift_of word)
shift_right word o =
    looked_up word (λ op. eqb (shift_f7 op) (f7_of word) && eqb (shift_f3 op) (f3_of word)) shift_ops (λ op. Shift op (rd_of word) (rs1_of word) (rs2_of word))
    (λ op t.
    let both = and_parts _ _ t in
    record { has_opcode = o; has_f3 = sym (eqb-true _ _ both.1); has_f7 = sym (eqb-true _ _ both.0); has_rd = refl; has_rs1 = refl; has_rs2 = refl })

reg_right : (word : ℕ) → opcode_of word ≡ 0b0110011 → AnswersRight word (reg_of word)
reg_right word o =
    looked_up word (λ op. eqb (reg_f7 op) (f7_of word) && eqb (reg_f3 op) (f3_of word)) reg_ops (λ op. Reg op (rd_of word) (rs1_of word) (rs2_of word))
    (λ op t.
    let both = and_parts _ _ t in
    record { has_opcode = o; has_f3 = sym (eqb-true _ _ both.1); has_f7 = sym (eqb-true _ _ both.0); has_rd = refl; has_rs1 = refl; has_rs2 = refl })

fence_right : (word : ℕ) → opcode_of word ≡ 0b0001111 → AnswersRight word (fence_of word)
fence_right word o =
    guarded word (eqb (f3_of word) 0) (Fence word)
    (λ t. record { has_opcode = o; has_f3 = eqb-true _ _ t; is_whole = refl })

system_right : (word : ℕ) → AnswersRight word (system_of word)
system_right word =
    either word (eqb word 0x00000073) (Some Ecall) (cond (eqb word 0x00100073) (Some Ebreak) None)
    (λ t. one word Ecall (eqb-true _ _ t))
    (λ _. guarded word (eqb word 0x00100073) Ebreak (λ t. eqb-true _ _ t))

-- an atomic instruction with this funct5
atomic : (word funct5 : ℕ) → opcode_of word ≡ 0b0101111 → f3_of word ≡ 0b010 → funct5_of word ≡ funct5 → IsAtomic word funct5 (eqb (aq_of word) 1) (eqb (rl_of word) 1) (rd_of word) (rs1_of word) (rs2_of word)
atomic word funct5 o three five = record {
  has_opcode = o;
  has_f3 = three;
  has_funct5 = five;
  has_aq = bit_of_flag (aq_of word) (omega arith);
  has_rl = bit_of_flag (rl_of word) (omega arith);
  has_rd = refl;
  has_rs1 = refl;
  has_rs2 = refl;
}

atomic_right : (word : ℕ) → opcode_of word ≡ 0b0101111 → AnswersRight word (atomic_of word)
atomic_right word o =
    let aq = eqb (aq_of word) 1 in
    let rl = eqb (rl_of word) 1 in
    let by = eqb (funct5_of word) in
    either word (eqb (f3_of word) 0b010) (atomic_by (funct5_of word) word) None
    (λ three.
    either word (by 0b00010) (lr_of word) (cond (by 0b00011) (sc_of word) (amo_of word))
    (λ t.
    guarded word (eqb (rs2_of word) 0) (Lr (rd_of word) (rs1_of word) aq rl)
    (λ zero. subst (IsAtomic word 0b00010 aq rl (rd_of word) (rs1_of word)) (eqb-true _ _ zero) (atomic word 0b00010 o (eqb-true _ _ three) (eqb-true _ _ t))))
    (λ _.
    either word (by 0b00011) (sc_of word) (amo_of word)
    (λ t. one word (Sc (rd_of word) (rs1_of word) (rs2_of word) aq rl) (atomic word 0b00011 o (eqb-true _ _ three) (eqb-true _ _ t)))
    (λ _.
    looked_up word (λ op. eqb (amo_funct5 op) (funct5_of word)) amo_ops (λ op. Amo op (rd_of word) (rs1_of word) (rs2_of word) aq rl)
    (λ op t. atomic word (amo_funct5 op) o (eqb-true _ _ three) (sym (eqb-true _ _ t))))))
    (λ _. no word)

by_opcode : (word opcode : ℕ) → opcode_of word ≡ opcode → AnswersRight word (instr_by opcode word)
unfolding instr_by
by_opcode word opcode o =
    either word (eqb opcode 0b0110111) _ _
    (λ t. one word _ (record { has_opcode = o ∙ eqb-true _ _ t; has_rd = refl; has_upper = refl })) (λ _.
    either word (eqb opcode 0b0010111) _ _
    (λ t. one word _ (record { has_opcode = o ∙ eqb-true _ _ t; has_rd = refl; has_upper = refl })) (λ _.
    either word (eqb opcode 0b1101111) _ _
    (λ t. one word _ (record { has_opcode = o ∙ eqb-true _ _ t; has_rd = refl; has_immediate = refl })) (λ _.
    either word (eqb opcode 0b1100111) _ _ (λ t. jalr_right word (o ∙ eqb-true _ _ t)) (λ _.
    either word (eqb opcode 0b1100011) _ _ (λ t. branch_right word (o ∙ eqb-true _ _ t)) (λ _.
    either word (eqb opcode 0b0000011) _ _ (λ t. load_right word (o ∙ eqb-true _ _ t)) (λ _.
    either word (eqb opcode 0b0100011) _ _ (λ t. store_right word (o ∙ eqb-true _ _ t)) (λ _.
    either word (eqb opcode 0b0010011) _ _
    (λ t. first word (imm_of word) (shift_of word) (imm_right word (o ∙ eqb-true _ _ t)) (shift_right word (o ∙ eqb-true _ _ t))) (λ _.
    either word (eqb opcode 0b0110011) _ _ (λ t. reg_right word (o ∙ eqb-true _ _ t)) (λ _.
    either word (eqb opcode 0b0001111) _ _ (λ t. fence_right word (o ∙ eqb-true _ _ t)) (λ _.
    either word (eqb opcode 0b1110011) _ _ (λ _. system_right word) (λ _.
    either word (eqb opcode 0b0101111) _ _ (λ t. atomic_right word (o ∙ eqb-true _ _ t)) (λ _. no word))))))))))))

pub found : (word : ℕ) (i : Instr) → instr_of word ≡ Some i → Encodes word i
found word = by_opcode word (opcode_of word) refl
