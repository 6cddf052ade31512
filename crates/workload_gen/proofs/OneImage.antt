-- The words of instructions are the only ones.
use Rattle.std.proofs.Common.{◌≡◌, ℕ, ◌^◌, ◌<◌, List, [], ◌∷◌, refl, sym, ap, ◌∙◌}
use Rattle.std.specs.List.{AllZip}
use Rattle.slack_base.specs.Images.{one_piece}
use Rattle.slack_base.specs.LittleEndian.{bytes_of_words}
use Rattle.slack_base.specs.declared.images.Image.{Image}
use Rattle.slack_base.specs.declared.instructions.Instr.{Instr}
use Rattle.rv_decode.specs.Encodes.{Encodes}
use Rattle.workload_gen.specs.Programs.{IsWordFor, IsProgram}

-- an instruction has one word at most
abbrev pub IsOneWord : Type 0
IsOneWord = (v w : ℕ) (i : Instr) → v < 2 ^ 32 → w < 2 ^ 32 → Encodes v i → Encodes w i → v ≡ w

same_words : IsOneWord → (instrs : List Instr) (vs ws : List ℕ) → AllZip IsWordFor vs instrs → AllZip IsWordFor ws instrs → vs ≡ ws
same_words one [] [] [] p q = refl
same_words one [] [] (w ∷ ws) p q = absurd q
same_words one [] (v ∷ vs) ws p q = absurd p
same_words one (i ∷ instrs) [] ws p q = absurd p
same_words one (i ∷ instrs) (v ∷ vs) [] p q = absurd q
same_words one (i ∷ instrs) (v ∷ vs) (w ∷ ws) p q =
    ap (λ x. x ∷ vs) (one v w i p.0.0 q.0.0 p.0.1 q.0.1) ∙ ap (λ xs. w ∷ xs) (same_words one instrs vs ws p.1 q.1)

pub same_image : IsOneWord → (seed base : ℕ) (x y : Image) → IsProgram seed base x → IsProgram seed base y → x ≡ y
same_image one seed base x y p q =
    p.whole
    ∙ ap (one_piece base base) (p.words.whole ∙ ap bytes_of_words (same_words one _ p.words.words q.words.words p.words.each q.words.each) ∙ sym q.words.whole)
    ∙ sym q.whole
