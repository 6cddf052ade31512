-- What is so of the items of lists, by their places.
use Rattle.std.specs.Prelude.{◌≡◌, ℕ, List, Some, length, slice_get}

-- P holds of each item and its place
pub record EachPlace {X : Type 0} (P : ℕ → X → Type 0) (xs : List X) : Type 0 where
  pub at : (i : ℕ) (x : X) → slice_get xs i ≡ Some x → P i x

-- R holds of the items at each place of two lists, which are equally long
pub record PlacePairs {X Y : Type 0} (R : ℕ → X → Y → Type 0) (xs : List X) (ys : List Y) : Type 0 where
  pub count : length ys ≡ length xs
  pub at : (i : ℕ) (x : X) (y : Y) → slice_get xs i ≡ Some x → slice_get ys i ≡ Some y → R i x y
