-- Lists of which each item is marked, and their way back.
use Rattle.std.proofs.Common.{◌≡◌, ◌∙◌, Option, Some, None, IsSome, List, [], ◌∷◌, ◌++◌, map, take, length, refl, sym, ap, subst, arith}
use Rattle.std.specs.List.{All, AllByRecursion as Each}
use Rattle.std.proofs.lemmas.List.{take_all, drop_all, append-nil, length-map}
use Rattle.std.proofs.lemmas.List.Elements.{All-from_recursion}
use Rattle.slack_base.specs.Lending.{replaced}

-- what the items hold that hold something
abbrev held : {V : Type 0} → List (Option V) → List V
held [] = []
held (None ∷ xs) = held xs
held (Some v ∷ xs) = v ∷ held xs

held_all : {V : Type 0} (vs : List V) → held (map Some vs) ≡ vs
held_all [] = refl
held_all (v ∷ vs) = ap (λ ys. v ∷ ys) (held_all vs)

map_some_once : {V : Type 0} (xs ys : List V) → map Some xs ≡ map Some ys → xs ≡ ys
map_some_once xs ys e = sym (held_all xs) ∙ ap held e ∙ held_all ys

each_some : {V : Type 0} (vs : List V) → Each (λ x. IsSome x) (map Some vs)
each_some [] = tt
each_some (v ∷ vs) = (refl, each_some vs)

each_of : {X V : Type 0} (saved : X → Option V) (xs : List X) → Each (λ x. IsSome x) (map saved xs) → Each (λ x. IsSome (saved x)) xs
each_of saved [] all = tt
each_of saved (x ∷ xs) all = (all.0, each_of saved xs all.1)

-- of items that are lent
pub all_some : {X V : Type 0} (saved : X → Option V) (old lent : List X) (marks : List V) → lent ≡ old → map saved old ≡ map Some marks → All (λ x. IsSome (saved x)) lent
all_some saved old lent marks same marked =
    All-from_recursion (λ x. IsSome (saved x)) lent (each_of saved lent (subst (Each (λ x. IsSome x)) (sym (ap (map saved) same ∙ marked)) (each_some marks)))

-- as many items as there were replace all of them
replaced_all : {X : Type 0} (old new : List X) → length new ≡ length old → replaced old new ≡ new
replaced_all old new e =
    ap (λ rest. take (length old) (new ++ rest)) (drop_all (length new) old (omega arith))
    ∙ ap (take (length old)) (append-nil new)
    ∙ take_all (length old) new (omega arith)

-- items that are back at what was saved, in place of those that were there
pub put_back : {X V : Type 0} (value : X → V) (saved : X → Option V) (old lent new : List X) (marks : List V)
    → lent ≡ old → map saved lent ≡ map Some (map value new) → map saved old ≡ map Some marks → map value (replaced old new) ≡ marks
put_back value saved old lent new marks same back marked =
    let are : map value new ≡ marks = map_some_once (map value new) marks (sym back ∙ ap (map saved) same ∙ marked) in
    let count : length new ≡ length old = sym (length-map new value) ∙ ap length are ∙ sym (length-map marks Some) ∙ ap length (sym marked) ∙ length-map old saved in
    ap (map value) (replaced_all old new count) ∙ are
