-- The text of an instruction assembles to it.
use Rattle.std.proofs.Common.{◌≡◌, ℕ, pos, ◌^◌, ◌<◌, [], ◌∷◌, ◌++◌, Result, Ok, refl, sym, ap, ◌∙◌, arith, append-nil, codes}
use Rattle.std.specs.Fmt.{decimal, signed_decimal}
use Rattle.std.specs.Int.{to_le_bytes, w32}
use Rattle.slack_base.specs.declared.faults.AsmKind.{AsmKind}
use Rattle.slack_base.specs.declared.instructions.Instr.{Instr}
use Rattle.slack_base.specs.declared.instructions.Instr.TheVariants.{Lui, Auipc, Jal, Jalr, Branch, Load, Store, Imm, Shift, Reg, Lr, Sc, Amo, Fence, Ecall, Ebreak}
use Rattle.rv_decode.specs.Encodes.{Encodes}
use Rattle.rv_decode.specs.Ranges.{IsInRange}
use Rattle.rv_decode.specs.Texts.{text, register, behind, branch_name, load_name, store_name, imm_name, shift_name, reg_name, amo_name, ending}
use Rattle.rv_asm.specs.declared.operations.Operation.TheVariants as op
use Rattle.rv_asm.specs.Instructions.{Instruction, instruction}
use Rattle.rv_asm.specs.Kinds.{◌>>=◌}
use Rattle.rv_asm.specs.Operands.{nothing, address}
use Rattle.slack_base.specs.Images.{one_piece}
use Rattle.rv_asm.specs.Programs.{IsAssembly, program_of}
use Rattle.rv_asm.specs.Ranges.{signed, unsigned}
use Rattle.rv_asm.specs.Written.{SaysAll}
use Rattle.rv_asm.proofs.Named.{lui_named, auipc_named, jal_named, jalr_named, fence_named, ecall_named, ebreak_named, branch_named, load_named, store_named, imm_named, shift_named, reg_named, lr_named, sc_named, amo_named}
use Rattle.rv_asm.proofs.OneLine.{spelled_read, alone_read, is_register, is_number, is_upper, is_behind, is_displaced, are_more}
use Rattle.rv_asm.proofs.ReadBack.{small, positive, behind_tight, first_read, address_read, signed_read, unsigned_read, three_read, upper_read, register_displaced_read, register_target_read, registers_target_read, registers_number_read, registers_address_read}

second : {P Q : Type 0} → P × Q → Q
second h = h.1

third : {P Q R : Type 0} → P × Q × R → R
third h = h.2

abbrev Reading : Type 0
Reading = Result Instr AsmKind

pub text_read : (i : Instr) → IsInRange i → SaysAll i → program_of (text i) ≡ Ok (Instruction i ∷ [])
unfolding instruction nothing
text_read (Lui rd upper) h s =
    spelled_read (codes "lui") (register rd ++ (44 ∷ 32 ∷ decimal upper)) op.Lui (Lui rd upper) lui_named (are_more rd (decimal upper) h.0 (is_upper upper (omega (arith, h.1))))
    (λ places. ap {B = Reading} (λ r. r >>= λ fields. Ok (Lui fields.0 fields.1)) (upper_read rd upper h.0 (omega (arith, h.1)))) h
text_read (Auipc rd upper) h s =
    spelled_read (codes "auipc") (register rd ++ (44 ∷ 32 ∷ decimal upper)) op.Auipc (Auipc rd upper) auipc_named (are_more rd (decimal upper) h.0 (is_upper upper (omega (arith, h.1))))
    (λ places. ap {B = Reading} (λ r. r >>= λ fields. Ok (Auipc fields.0 fields.1)) (upper_read rd upper h.0 (omega (arith, h.1)))) h
text_read (Jal rd offset) h s =
    let near = small 20 offset (omega arith) (second h).0 in
    spelled_read (codes "jal") (register rd ++ (44 ∷ 32 ∷ signed_decimal offset)) op.Jal (Jal rd offset) jal_named (are_more rd (signed_decimal offset) h.0 (is_number offset near))
    (λ places. ap {B = Reading} (λ r. r >>= λ fields. Ok (Jal fields.0 fields.1)) (register_target_read places 0 rd offset h.0 near)) h
text_read (Jalr rd rs1 offset) h s =
    let near = small 11 offset (omega arith) h.2 in
    spelled_read (codes "jalr") (register rd ++ (44 ∷ 32 ∷ (signed_decimal offset ++ behind rs1))) op.Jalr (Jalr rd rs1 offset) jalr_named (are_more rd (signed_decimal offset ++ behind rs1) h.0 (is_displaced offset rs1 near h.1))
    (λ places. ap {B = Reading} (λ r. r >>= λ fields. Ok (Jalr fields.0 fields.1 fields.2)) (register_displaced_read rd rs1 offset h.0 h.1 near)) h
text_read (Branch o rs1 rs2 offset) h s =
    let near = small 12 offset (omega arith) (third h).0 in
    spelled_read (branch_name o) (register rs1 ++ (44 ∷ 32 ∷ (register rs2 ++ (44 ∷ 32 ∷ signed_decimal offset)))) (op.Branch o) (Branch o rs1 rs2 offset) (branch_named o) (are_more rs1 (register rs2 ++ (44 ∷ 32 ∷ signed_decimal offset)) h.0 (are_more rs2 (signed_decimal offset) h.1 (is_number offset near)))
    (λ places. ap {B = Reading} (λ r. r >>= λ fields. Ok (Branch o fields.0 fields.1 fields.2)) (registers_target_read places 0 rs1 rs2 offset h.0 h.1 near)) h
text_read (Load o rd rs1 offset) h s =
    let near = small 11 offset (omega arith) h.2 in
    spelled_read (load_name o) (register rd ++ (44 ∷ 32 ∷ (signed_decimal offset ++ behind rs1))) (op.Load o) (Load o rd rs1 offset) (load_named o) (are_more rd (signed_decimal offset ++ behind rs1) h.0 (is_displaced offset rs1 near h.1))
    (λ places. ap {B = Reading} (λ r. r >>= λ fields. Ok (Load o fields.0 fields.1 fields.2)) (register_displaced_read rd rs1 offset h.0 h.1 near)) h
text_read (Store o rs1 rs2 offset) h s =
    let near = small 11 offset (omega arith) h.2 in
    spelled_read (store_name o) (register rs2 ++ (44 ∷ 32 ∷ (signed_decimal offset ++ behind rs1))) (op.Store o) (Store o rs1 rs2 offset) (store_named o) (are_more rs2 (signed_decimal offset ++ behind rs1) h.1 (is_displaced offset rs1 near h.0))
    (λ places. ap {B = Reading} (λ r. r >>= λ fields. Ok (Store o fields.1 fields.0 fields.2)) (register_displaced_read rs2 rs1 offset h.1 h.0 near)) h
text_read (Imm o rd rs1 value) h s =
    let near = small 11 value (omega arith) h.2 in
    spelled_read (imm_name o) (register rd ++ (44 ∷ 32 ∷ (register rs1 ++ (44 ∷ 32 ∷ signed_decimal value)))) (op.Imm o) (Imm o rd rs1 value) (imm_named o) (are_more rd (register rs1 ++ (44 ∷ 32 ∷ signed_decimal value)) h.0 (are_more rs1 (signed_decimal value) h.1 (is_number value near)))
    (λ places. ap {B = Reading} (λ r. r >>= λ fields. signed fields.2 >>= λ v. Ok (Imm o fields.0 fields.1 v)) (registers_number_read rd rs1 value h.0 h.1 near)
    ∙ ap {B = Reading} (λ r. r >>= λ v. Ok (Imm o rd rs1 v)) (signed_read value near)) h
text_read (Shift o rd rs1 amount) h s =
    let near = small 11 (pos amount) (omega arith) (positive amount h.2) in
    spelled_read (shift_name o) (register rd ++ (44 ∷ 32 ∷ (register rs1 ++ (44 ∷ 32 ∷ decimal amount)))) (op.Shift o) (Shift o rd rs1 amount) (shift_named o) (are_more rd (register rs1 ++ (44 ∷ 32 ∷ decimal amount)) h.0 (are_more rs1 (decimal amount) h.1 (is_upper amount (omega (arith, h.2)))))
    (λ places. ap {B = Reading} (λ r. r >>= λ fields. unsigned fields.2 >>= λ v. Ok (Shift o fields.0 fields.1 v)) (registers_number_read rd rs1 (pos amount) h.0 h.1 near)
    ∙ ap {B = Reading} (λ r. r >>= λ v. Ok (Shift o rd rs1 v)) (unsigned_read amount (omega (arith, h.2)))) h
text_read (Reg o rd rs1 rs2) h s =
    spelled_read (reg_name o) (register rd ++ (44 ∷ 32 ∷ (register rs1 ++ (44 ∷ 32 ∷ register rs2)))) (op.Reg o) (Reg o rd rs1 rs2) (reg_named o) (are_more rd (register rs1 ++ (44 ∷ 32 ∷ register rs2)) h.0 (are_more rs1 (register rs2) h.1 (is_register rs2 h.2)))
    (λ places. ap {B = Reading} (λ r. r >>= λ fields. Ok (Reg o fields.0 fields.1 fields.2)) (three_read rd rs1 rs2 h.0 h.1 h.2)) h
text_read (Lr rd rs1 aq rl) h s =
    spelled_read (codes "lr.w" ++ ending aq rl) (register rd ++ (44 ∷ 32 ∷ behind rs1)) (op.Lr aq rl) (Lr rd rs1 aq rl) (lr_named aq rl) (are_more rd (behind rs1) h.0 (is_behind rs1 h.1))
    (λ places. ap {B = Reading} (λ r. r >>= λ first. address first.1 >>= λ base. Ok (Lr first.0 base aq rl)) (first_read rd (behind rs1) h.0 (behind_tight rs1))
    ∙ ap {B = Reading} (λ r. r >>= λ base. Ok (Lr rd base aq rl)) (address_read rs1 h.1)) h
text_read (Sc rd rs1 rs2 aq rl) h s =
    spelled_read (codes "sc.w" ++ ending aq rl) (register rd ++ (44 ∷ 32 ∷ (register rs2 ++ (44 ∷ 32 ∷ behind rs1)))) (op.Sc aq rl) (Sc rd rs1 rs2 aq rl) (sc_named aq rl) (are_more rd (register rs2 ++ (44 ∷ 32 ∷ behind rs1)) h.0 (are_more rs2 (behind rs1) h.2 (is_behind rs1 h.1)))
    (λ places. ap {B = Reading} (λ r. r >>= λ fields. Ok (Sc fields.0 fields.2 fields.1 aq rl)) (registers_address_read rd rs2 rs1 h.0 h.2 h.1)) h
text_read (Amo o rd rs1 rs2 aq rl) h s =
    spelled_read (amo_name o ++ ending aq rl) (register rd ++ (44 ∷ 32 ∷ (register rs2 ++ (44 ∷ 32 ∷ behind rs1)))) (op.Amo o aq rl) (Amo o rd rs1 rs2 aq rl) (amo_named o aq rl) (are_more rd (register rs2 ++ (44 ∷ 32 ∷ behind rs1)) h.0 (are_more rs2 (behind rs1) h.2 (is_behind rs1 h.1)))
    (λ places. ap {B = Reading} (λ r. r >>= λ fields. Ok (Amo o fields.0 fields.2 fields.1 aq rl)) (registers_address_read rd rs2 rs1 h.0 h.2 h.1)) h
text_read (Fence word) h s = alone_read (codes "fence") op.Fence (Fence word) fence_named (λ places. ap {B = Reading} (λ w. Ok (Fence w)) (sym s)) h
text_read Ecall h s = alone_read (codes "ecall") op.Ecall Ecall ecall_named (λ places. refl) h
text_read Ebreak h s = alone_read (codes "ebreak") op.Ebreak Ebreak ebreak_named (λ places. refl) h

pub text_image : (i : Instr) (word base : ℕ) → word < 2 ^ 32 → Encodes word i → IsInRange i → SaysAll i → IsAssembly (text i) base (one_piece base base (to_le_bytes w32 word))
text_image i word base low row range s = record {
  codes = Instruction i ∷ [];
  bytes = to_le_bytes w32 word;
  program = text_read i range s;
  words = (word, [], low, row, sym (append-nil (to_le_bytes w32 word)), refl);
  whole = refl;
}
