use Rattle.std.proofs.Common.{◌≡◌, ◌∙◌, suc, List, [], ◌∷◌, ◌++◌, length, Some, sym, ap, arith}
use Rattle.std.specs.List.{slice_get}
use Rattle.std.proofs.lemmas.List.{length-append}
use Rattle.trio_tests.proofs.actors.only.Goals as goal

only_one : {X : Type 0} (xs ys : List X) (x : X) → ys ≡ xs ++ x ∷ [] → length ys ≡ 1 → slice_get ys 0 ≡ Some x
only_one [] ys x e n = ap (λ zs. slice_get zs 0) e
only_one (z ∷ zs) ys x e n =
    let k = ap length e ∙ ap suc (length-append zs (x ∷ [])) in
    absurd (omega arith)

pub returns : goal.returns
returns c = ap (λ xs. slice_get xs 0) (sym c.into_vec.ensures) ∙ only_one c.pop.new.self.items c.into_vec.result.items c.in-Some.pacer c.in-Some.ensures.items (ap length c.into_vec.ensures ∙ c.requires)
