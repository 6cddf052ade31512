-- One channel alone: its asks one after another, in order and out of order.
use Rattle.std.specs.Prelude.{◌≡◌, ℕ, IsTrue, IsFalse, List, [], ◌∷◌, ◌++◌, Some, if◌then◌else◌}
use Rattle.std.specs.List.{AllByRecursion as Each}
use Rattle.slack_base.specs.declared.messages.Ask.{Ask}
use Rattle.slack_base.specs.declared.messages.Post.{Post}
use Rattle.slack_base.specs.Messages.{id_of, line_of}
use Rattle.slack_base.specs.Stamps.{is_above}
use Rattle.target_law.specs.Rules.{Rules}

-- each item and each behind it
abbrev pub Pairwise : {X : Type 0} → (X → X → Type 0) → List X → Type 0
Pairwise R [] = Unit {0}
Pairwise R (x ∷ xs) = Each (R x) xs × Pairwise R xs

-- the first ask has the greater id
abbrev pub IsAbove : Ask → Ask → Type 0
IsAbove y x = IsTrue (is_above (id_of y) (id_of x))

-- each ask has a greater id than those before it
abbrev pub AreRising : List Ask → Type 0
AreRising asks = Pairwise (λ x y. IsAbove y x) asks

-- the ask in its place: before the first with a greater id
abbrev pub inserted : Ask → List Ask → List Ask
inserted x [] = x ∷ []
inserted x (y ∷ ys) = if is_above (id_of y) (id_of x) then x ∷ y ∷ ys else y ∷ inserted x ys

-- if the two are of one line, the first doesn't have the greater id
abbrev pub IsLineInTurn : Ask → Ask → Type 0
IsLineInTurn y x = (line : ℕ) → line_of x ≡ Some line → line_of y ≡ Some line → IsFalse (is_above (id_of y) (id_of x))

-- one list in another order
pub data Perm (X : Type 0) : List X → List X → Type 0 where
  none : Perm X [] []
  more : {xs ys : List X} (x : X) → Perm X xs ys → Perm X (x ∷ xs) (x ∷ ys)
  swap : (x y : X) (xs : List X) → Perm X (x ∷ y ∷ xs) (y ∷ x ∷ xs)
  join : {xs ys zs : List X} → Perm X xs ys → Perm X ys zs → Perm X xs zs

module _ {Inner Chan : Type 0} (rules : Rules Inner Chan) where
  -- the channel after these asks, and their posts
  abbrev pub served_all : Chan → List Ask → Chan × List Post
  served_all chan [] = (chan, [])
  served_all chan (ask ∷ asks) =
      let now = rules.serve chan ask in
      let rest = served_all now.0 asks in
      (rest.0, now.1 ++ rest.1)
