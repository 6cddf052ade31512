-- The order of ids.
use Rattle.std.proofs.Common.{◌≡◌, ◌∙◌, ℕ, ◌<◌, Bool, true, ap, arith, ◌||◌, ◌&&◌, ◌==◌, nat_lt}
use Rattle.std.specs.declared.cmp.Ordering.{Ordering}
use Rattle.std.specs.Ordering.{is_gt, nat_cmp, ordering_then}
use Rattle.std.proofs.lemmas.Bool.Decides.{nat_tests}
use Rattle.slack_base.specs.declared.stamps.Id.{Id}
use Rattle.slack_base.specs.Stamps.{is_above}

gt_then : (a b : ℕ) (o : Ordering) → is_gt (ordering_then (nat_cmp a b) o) ≡ (nat_lt b a || ((b == a) && is_gt o))
gt_then a b o = grind (arith, nat_tests)

gt_last : (a b : ℕ) → is_gt (nat_cmp a b) ≡ nat_lt b a
gt_last a b = grind (arith, nat_tests)

abbrev pub above_by : (a b c d e f : ℕ) → Bool
above_by a b c d e f = nat_lt b a || ((b == a) && (nat_lt d c || ((d == c) && nat_lt f e)))

pub above-is : (i j : Id) → is_above i j ≡ above_by i.cycle j.cycle i.core j.core i.number j.number
above-is i j =
    gt_then i.cycle j.cycle (ordering_then (nat_cmp i.core j.core) (nat_cmp i.number j.number))
    ∙ ap (λ b. nat_lt j.cycle i.cycle || ((j.cycle == i.cycle) && b)) (gt_then i.core j.core (nat_cmp i.number j.number))
    ∙ ap (λ b. nat_lt j.cycle i.cycle || ((j.cycle == i.cycle) && (nat_lt j.core i.core || ((j.core == i.core) && b)))) (gt_last i.number j.number)

later_by : (a b c d e f : ℕ) → b < a → above_by a b c d e f ≡ true
later_by a b c d e f h = grind (arith, nat_tests)

next_by : (a b c d e f : ℕ) → a ≡ b → c ≡ d → f < e → above_by a b c d e f ≡ true
next_by a b c d e f h k l = grind (arith, nat_tests)

row_by : (a b c d e f : ℕ) → a ≡ b → d < c → above_by a b c d e f ≡ true
row_by a b c d e f h k = grind (arith, nat_tests)

-- of a later cycle
pub later_above : (i j : Id) → j.cycle < i.cycle → is_above i j ≡ true
later_above i j h = above-is i j ∙ later_by i.cycle j.cycle i.core j.core i.number j.number h

-- of the same cycle and a higher core
pub core_above : (i j : Id) → i.cycle ≡ j.cycle → j.core < i.core → is_above i j ≡ true
core_above i j h k = above-is i j ∙ row_by i.cycle j.cycle i.core j.core i.number j.number h k

-- of the same tick
pub next_above : (i j : Id) → i.cycle ≡ j.cycle → i.core ≡ j.core → j.number < i.number → is_above i j ≡ true
next_above i j h k l = above-is i j ∙ next_by i.cycle j.cycle i.core j.core i.number j.number h k l
