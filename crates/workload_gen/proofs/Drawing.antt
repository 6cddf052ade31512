-- Drawing one word after another.
use Rattle.std.proofs.Common.{◌≡◌, ℕ, zero, suc, ◌+◌, ◌-◌, ◌<◌, ◌≤◌, List, [], ◌∷◌, ◌++◌, map, length, refl, sym, ap, ◌∙◌, arith, append_assoc, append-nil, add-one}
use Rattle.rand_core.specs.Steps.{first_words}
use Rattle.rand_pcg.specs.Lcg.{Lcg}
use Rattle.rand_pcg.specs.Pcg.{pcg32}
use Rattle.workload_gen.specs.Draws.{generator, draws}

-- behind what stood before, what was made of the words so far, and what is made of those that are left, is made of all
abbrev pub IsDrawing : {X : Type 0} → (ℕ → X) → ℕ → ℕ → List X → ℕ → Lcg → List X → Type 0
IsDrawing f seed count before drawn g xs =
    xs ++ map f (first_words pcg32 (count - drawn) g) ≡ before ++ map f (draws seed count)

pub drawing_start : {X : Type 0} (f : ℕ → X) (seed count : ℕ) (before : List X) (g : Lcg) (xs : List X)
    → g ≡ generator seed → xs ≡ before → IsDrawing f seed count before 0 g xs
unfolding draws
drawing_start f seed count before g xs start none =
    ap (λ ys. ys ++ map f (first_words pcg32 (count - 0) g)) none
    ∙ ap (λ h. before ++ map f (first_words pcg32 (count - 0) h)) start
    ∙ ap (λ n. before ++ map f (first_words pcg32 n (generator seed))) (omega arith)

first_words_more : (n m : ℕ) (g h : Lcg) (word : ℕ) → m ≡ suc n → (word, h) ≡ pcg32 g → first_words pcg32 m g ≡ word ∷ first_words pcg32 n h
unfolding first_words
first_words_more n m g h word same step =
    ap (λ k. first_words pcg32 k g) same ∙ ap (λ (p : ℕ × Lcg). p.0 ∷ first_words pcg32 n p.1) (sym step)

pub drawing_more : {X : Type 0} (f : ℕ → X) (seed count : ℕ) (before : List X) (drawn : ℕ) (g h : Lcg) (xs ys : List X) (word : ℕ) (x : X)
    → drawn < count → IsDrawing f seed count before drawn g xs → (word, h) ≡ pcg32 g → x ≡ f word → ys ≡ xs ++ x ∷ []
    → IsDrawing f seed count before (drawn + 1) h ys
drawing_more f seed count before drawn g h xs ys word x some so_far step made more =
    let left : count - drawn ≡ suc (count - (drawn + 1)) = omega (arith, add-one (count - (drawn + 1))) in
    let rest = first_words pcg32 (count - (drawn + 1)) h in
    ap (λ zs. zs ++ map f rest) more
    ∙ append_assoc xs (x ∷ []) (map f rest)
    ∙ ap (λ y. xs ++ y ∷ map f rest) made
    ∙ ap (λ ws. xs ++ map f ws) (sym (first_words_more (count - (drawn + 1)) (count - drawn) g h word left step))
    ∙ so_far

pub drawing_end : {X : Type 0} (f : ℕ → X) (seed count : ℕ) (before : List X) (drawn : ℕ) (g : Lcg) (xs : List X)
    → count ≤ drawn → IsDrawing f seed count before drawn g xs → xs ≡ before ++ map f (draws seed count)
unfolding first_words
drawing_end f seed count before drawn g xs all so_far =
    let none : count - drawn ≡ 0 = omega arith in
    sym (append-nil xs) ∙ ap (λ n. xs ++ map f (first_words pcg32 n g)) (sym none) ∙ so_far

length-first_words : (n : ℕ) (g : Lcg) → length (first_words pcg32 n g) ≡ n
unfolding first_words
length-first_words zero g = refl
length-first_words (suc n) g = ap suc (length-first_words n _)

pub length-draws : (seed count : ℕ) → length (draws seed count) ≡ count
unfolding draws
length-draws seed count = length-first_words count (generator seed)
