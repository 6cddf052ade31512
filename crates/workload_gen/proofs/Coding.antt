-- The bytes of instructions.
use Rattle.std.proofs.Common.{◌≡◌, ℕ, ◌+◌, ◌*◌, ◌<◌, List, [], ◌∷◌, ◌++◌, take, length, get_or, refl, sym, ap, ◌∙◌, subst, arith, append-nil, length-append}
use Rattle.std.specs.Int.{to_le_bytes, w32}
use Rattle.std.specs.List.{AllZip, flat_map}
use Rattle.std.proofs.lemmas.Grind.{flat_map-append}
use Rattle.std.proofs.lemmas.List.{take_more}
use Rattle.std.proofs.lemmas.Slice.Zip.{AllZip-long}
use Rattle.slack_base.specs.declared.instructions.Instr.{Instr}
use Rattle.workload_gen.specs.Programs.{AreBytesOf, IsWordFor}

AllZip-more : {A B : Type 0} (R : A → B → Type 0) (xs : List A) (ys : List B) (x : A) (y : B) → AllZip R xs ys → R x y → AllZip R (xs ++ x ∷ []) (ys ++ y ∷ [])
AllZip-more R [] [] x y all one = (one, tt)
AllZip-more R [] (b ∷ ys) x y all one = absurd all
AllZip-more R (a ∷ xs) [] x y all one = absurd all
AllZip-more R (a ∷ xs) (b ∷ ys) x y all one = (all.0, AllZip-more R xs ys x y all.1 one)

pub bytes_start : AreBytesOf [] []
bytes_start = record { words = []; each = tt; whole = refl }

pub bytes_more : (instrs : List Instr) (bytes more : List ℕ) (i word : ℕ) (d : Instr)
    → i < length instrs → AreBytesOf (take i instrs) bytes → IsWordFor word (get_or instrs i d) → more ≡ to_le_bytes w32 word → AreBytesOf (take (i + 1) instrs) (bytes ++ more)
bytes_more instrs bytes more i word d some before coded written = record {
  words = before.words ++ word ∷ [];
  each = subst (AllZip IsWordFor (before.words ++ word ∷ [])) (sym (take_more instrs i d some)) (AllZip-more IsWordFor before.words (take i instrs) word (get_or instrs i d) before.each coded);
  whole =
      ap (λ bs. bs ++ more) before.whole
      ∙ ap (λ bs. flat_map (to_le_bytes w32) before.words ++ bs) (written ∙ sym (append-nil (to_le_bytes w32 word)))
      ∙ sym (flat_map-append (to_le_bytes w32) before.words (word ∷ []));
}

length-flat_words : (words : List ℕ) → length (flat_map (to_le_bytes w32) words) ≡ 4 * length words
length-flat_words [] = refl
length-flat_words (word ∷ words) =
    length-append (to_le_bytes w32 word) (flat_map (to_le_bytes w32) words) ∙ omega (arith, length-flat_words words)

-- four bytes an instruction
pub length-bytes : (instrs : List Instr) (bytes : List ℕ) → AreBytesOf instrs bytes → length bytes ≡ 4 * length instrs
length-bytes instrs bytes coded =
    ap length coded.whole ∙ length-flat_words coded.words ∙ ap (λ n. 4 * n) (sym (AllZip-long IsWordFor coded.words instrs coded.each))
