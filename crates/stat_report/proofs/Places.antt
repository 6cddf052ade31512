-- What a function gives at each place from one on, below an end.
use Rattle.std.proofs.Common.{◌≡◌, ℕ, suc, ◌+◌, ◌-◌, ◌<◌, ◌≤◌, List, [], ◌++◌, ap, arith, add-one}
use Rattle.std.specs.List.{flat_map, range_with_len}

abbrev pub from : (ℕ → List ℕ) → ℕ → ℕ → List ℕ
from f end place = flat_map f (range_with_len place (end - place))

pub from_more : (f : ℕ → List ℕ) (end place : ℕ) → place < end → from f end place ≡ f place ++ from f end (place + 1)
from_more f end place some =
    let left : end - place ≡ suc (end - (place + 1)) = omega (arith, add-one (end - (place + 1))) in
    ap (λ n. flat_map f (range_with_len place n)) left

pub from_none : (f : ℕ → List ℕ) (end place : ℕ) → end ≤ place → from f end place ≡ []
from_none f end place none =
    let left : end - place ≡ 0 = omega arith in
    ap (λ n. flat_map f (range_with_len place n)) left
