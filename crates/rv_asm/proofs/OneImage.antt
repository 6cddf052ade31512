-- The image of a text is the only one.
use Rattle.std.proofs.Common.{◌≡◌, ℕ, ◌^◌, ◌<◌, List, [], ◌∷◌, ◌++◌, Result, Ok, sym, ap, ◌∙◌, subst}
use Rattle.std.specs.Int.{to_le_bytes, w32}
use Rattle.slack_base.specs.declared.faults.AsmFault.{AsmFault}
use Rattle.slack_base.specs.declared.images.Image.{Image}
use Rattle.slack_base.specs.declared.instructions.Instr.{Instr}
use Rattle.rv_decode.specs.Encodes.{Encodes}
use Rattle.rv_asm.specs.Instructions.{Code, Instruction, Data, Stands}
use Rattle.slack_base.specs.Images.{one_piece}
use Rattle.rv_asm.specs.Programs.{AreWordsOf, IsAssembly}

-- an instruction has one word at most
abbrev pub IsOneWord : Type 0
IsOneWord = (v w : ℕ) (i : Instr) → v < 2 ^ 32 → w < 2 ^ 32 → Encodes v i → Encodes w i → v ≡ w

one_code : IsOneWord → (v w : ℕ) (code : Code) → v < 2 ^ 32 → w < 2 ^ 32 → Stands v code → Stands w code → v ≡ w
one_code one v w (Instruction instr) p q h k = one v w instr p q h k
one_code one v w (Data number) p q h k = h ∙ sym k

same_bytes : IsOneWord → (codes : List Code) (x y : List ℕ) → AreWordsOf codes x → AreWordsOf codes y → x ≡ y
same_bytes one [] x y h k = h ∙ sym k
same_bytes one (code ∷ codes) x y h k =
    h.4
    ∙ ap (λ v. to_le_bytes w32 v ++ h.1) (one_code one h.0 k.0 code h.2 k.2 h.3 k.3)
    ∙ ap (λ rest. to_le_bytes w32 k.0 ++ rest) (same_bytes one codes h.1 k.1 h.5 k.5)
    ∙ sym k.4

same_Ok : (x y : List Code) → ◌≡◌ {A = Result (List Code) AsmFault} (Ok x) (Ok y) → x ≡ y
same_Ok x y h = cc

pub same_image : IsOneWord → (text : List ℕ) (base : ℕ) (x y : Image) → IsAssembly text base x → IsAssembly text base y → x ≡ y
same_image one text base x y p q =
    let codes : p.codes ≡ q.codes = same_Ok p.codes q.codes (sym p.program ∙ q.program) in
    p.whole
    ∙ ap (one_piece base base) (same_bytes one q.codes p.bytes q.bytes (subst (λ c. AreWordsOf c p.bytes) codes p.words) q.words)
    ∙ sym q.whole
