-- The order of ids is total.
use Rattle.std.proofs.Common.{◌≡◌, ◌∙◌, ℕ, ◌≤◌, ◌||◌, ◌&&◌, ◌==◌, nat_lt, Bool, true, false, refl, sym, ap, arith}
use Rattle.std.specs.declared.cmp.Ordering.{Ordering}
use Rattle.std.specs.Ordering.{is_gt, nat_cmp, ordering_then}
use Rattle.std.specs.Cmp.{IsTotalOrder}
use Rattle.std.proofs.lemmas.Bool.Decides.{nat_tests}
use Rattle.std.proofs.lemmas.Cmp.{then_total, on_total, nat_cmp_total, upto}
use Rattle.slack_base.specs.declared.stamps.Id.{Id}
use Rattle.slack_base.specs.Stamps.{id_cmp, is_above}

id_cmp_total : IsTotalOrder id_cmp
id_cmp_total =
    then_total (on_total (λ (i : Id). i.cycle) nat_cmp_total)
    (then_total (on_total (λ (i : Id). i.core) nat_cmp_total) (on_total (λ (i : Id). i.number) nat_cmp_total))

pub up_to : (i j k : Id) → is_above i j ≡ false → is_above j k ≡ false → is_above i k ≡ false
up_to i j k = upto id_cmp_total i j k

gt_then : (a b : ℕ) (o : Ordering) → is_gt (ordering_then (nat_cmp a b) o) ≡ (nat_lt b a || ((b == a) && is_gt o))
gt_then a b o = grind (arith, nat_tests)

gt_last : (a b : ℕ) → is_gt (nat_cmp a b) ≡ nat_lt b a
gt_last a b = grind (arith, nat_tests)

abbrev above_by : (a b c d e f : ℕ) → Bool
above_by a b c d e f = nat_lt b a || ((b == a) && (nat_lt d c || ((d == c) && nat_lt f e)))

above-is : (i j : Id) → is_above i j ≡ above_by i.cycle j.cycle i.core j.core i.number j.number
above-is i j =
    gt_then i.cycle j.cycle (ordering_then (nat_cmp i.core j.core) (nat_cmp i.number j.number))
    ∙ ap (λ b. nat_lt j.cycle i.cycle || ((j.cycle == i.cycle) && b)) (gt_then i.core j.core (nat_cmp i.number j.number))
    ∙ ap (λ b. nat_lt j.cycle i.cycle || ((j.cycle == i.cycle) && (nat_lt j.core i.core || ((j.core == i.core) && b)))) (gt_last i.number j.number)

self_by : (a c e : ℕ) → above_by a a c c e e ≡ false
self_by a c e = grind (arith, nat_tests)

back_by : (a b c d e f : ℕ) → above_by a b c d e f ≡ true → above_by b a d c f e ≡ false
back_by a b c d e f h = grind (arith, nat_tests)

cycle_by : (a b c d e f : ℕ) → above_by a b c d e f ≡ false → a ≤ b
cycle_by a b c d e f h = grind (arith, nat_tests)

core_by : (a b c d e f : ℕ) → above_by a b c d e f ≡ false → a ≡ b → c ≤ d
core_by a b c d e f h k = grind (arith, nat_tests)

number_by : (a b c d e f : ℕ) → above_by a b c d e f ≡ false → a ≡ b → c ≡ d → e ≤ f
number_by a b c d e f h k l = grind (arith, nat_tests)

pub above_self : (i : Id) → is_above i i ≡ false
above_self i = above-is i i ∙ self_by i.cycle i.core i.number

pub above_back : (i j : Id) → is_above i j ≡ true → is_above j i ≡ false
above_back i j h = above-is j i ∙ back_by i.cycle j.cycle i.core j.core i.number j.number (sym (above-is i j) ∙ h)

-- what is above an id is above all that this one isn't below
pub above_low : (i j k : Id) → is_above i j ≡ true → is_above k j ≡ false → is_above i k ≡ true
above_low i j k h l =
    elim (is_above i k) as (λ b. is_above i k ≡ b → b ≡ true) [
      | true ↦ λ _. refl
      | false ↦ λ e. sym (up_to i k j e l) ∙ h
    ] refl

-- what is no less than one that is above a third
pub above_from : (i j k : Id) → is_above i k ≡ true → is_above i j ≡ false → is_above j k ≡ true
above_from i j k h l =
    elim (is_above j k) as (λ b. is_above j k ≡ b → b ≡ true) [
      | true ↦ λ _. refl
      | false ↦ λ e. sym (up_to i j k l e) ∙ h
    ] refl

pub above_trans : (i j k : Id) → is_above i j ≡ true → is_above j k ≡ true → is_above i k ≡ true
above_trans i j k h l = above_low i j k h (above_back j k l)

-- two ids of which none is above the other are the same
pub same_id : (i j : Id) → is_above i j ≡ false → is_above j i ≡ false → i ≡ j
same_id i j h k = λ x. record { cycle = cycles x; core = cores x; number = numbers x }
  where
    from : is_above i j ≡ false → above_by i.cycle j.cycle i.core j.core i.number j.number ≡ false
    from h = sym (above-is i j) ∙ h

    back : is_above j i ≡ false → above_by j.cycle i.cycle j.core i.core j.number i.number ≡ false
    back k = sym (above-is j i) ∙ k

    cycles : i.cycle ≡ j.cycle
    cycles =
        let a = cycle_by i.cycle j.cycle i.core j.core i.number j.number (from h) in
        let b = cycle_by j.cycle i.cycle j.core i.core j.number i.number (back k) in
        omega arith

    cores : i.core ≡ j.core
    cores =
        let a = core_by i.cycle j.cycle i.core j.core i.number j.number (from h) cycles in
        let b = core_by j.cycle i.cycle j.core i.core j.number i.number (back k) (sym cycles) in
        omega arith

    numbers : i.number ≡ j.number
    numbers =
        let a = number_by i.cycle j.cycle i.core j.core i.number j.number (from h) cycles cores in
        let b = number_by j.cycle i.cycle j.core i.core j.number i.number (back k) (sym cycles) (sym cores) in
        omega arith
