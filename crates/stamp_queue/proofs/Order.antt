-- The order of posts by (due, id) is a total order.
use Rattle.std.proofs.Common.{◌≡◌, ℕ, ◌≤◌, true, false, refl, sym, ◌∙◌, ap, arith, ◌||◌, ◌&&◌, ◌==◌, nat_lt}
use Rattle.std.specs.declared.cmp.Ordering.{Ordering}
use Rattle.std.specs.declared.cmp.Ordering.TheVariants.{Less, Equal, Greater}
use Rattle.std.specs.Ordering.{is_gt, nat_cmp, ordering_then, ordering_reverse}
use Rattle.std.specs.Cmp.{IsTotalOrder}
use Rattle.std.proofs.lemmas.Cmp.{then_total, on_total, nat_cmp_total, upto}
use Rattle.std.proofs.lemmas.Bool.{false≢true}
use Rattle.std.proofs.lemmas.Bool.Decides.{nat_tests}
use Rattle.slack_base.specs.declared.messages.Post.{Post}
use Rattle.slack_base.specs.declared.stamps.Id.{Id}
use Rattle.slack_base.specs.Stamps.{id_cmp}
use Rattle.slack_base.specs.Inboxes.{is_later}

id_cmp_total : IsTotalOrder id_cmp
id_cmp_total =
    then_total (on_total (λ (i : Id). i.cycle) nat_cmp_total)
    (then_total (on_total (λ (i : Id). i.core) nat_cmp_total) (on_total (λ (i : Id). i.number) nat_cmp_total))

-- by due, then by id
abbrev pub post_cmp : Post → Post → Ordering
post_cmp q p = ordering_then (nat_cmp q.due p.due) (id_cmp q.id p.id)

pub post_cmp_total : IsTotalOrder post_cmp
post_cmp_total = then_total (on_total (λ (p : Post). p.due) nat_cmp_total) (on_total (λ (p : Post). p.id) id_cmp_total)

-- by due first, and among equal ones by another order
gt_then : (a b : ℕ) (o : Ordering) → (nat_lt b a || ((b == a) && is_gt o)) ≡ is_gt (ordering_then (nat_cmp a b) o)
gt_then a b o = grind (arith, nat_tests)

pub is_later-post_cmp : (q p : Post) → is_later q p ≡ is_gt (post_cmp q p)
is_later-post_cmp q p = gt_then q.due p.due (id_cmp q.id p.id)

-- what is no later than one that is no later than a third
pub no_later_than : (p q r : Post) → is_later p q ≡ false → is_later q r ≡ false → is_later p r ≡ false
no_later_than p q r a b =
    is_later-post_cmp p r
    ∙ upto post_cmp_total p q r (sym (is_later-post_cmp p q) ∙ a) (sym (is_later-post_cmp q r) ∙ b)

one_way : (o : Ordering) → is_gt o ≡ true → is_gt (ordering_reverse o) ≡ false
one_way o h = elim o as (λ o. is_gt o ≡ true → is_gt (ordering_reverse o) ≡ false) [ Less ↦ λ h. absurd (false≢true h) | Equal ↦ λ _. refl | Greater ↦ λ _. refl ] h

-- of two posts one is no later than the other
pub no_later_back : (q p : Post) → is_later q p ≡ true → is_later p q ≡ false
no_later_back q p h =
    is_later-post_cmp p q ∙ ap is_gt (post_cmp_total.antisymm p q) ∙ one_way (post_cmp q p) (sym (is_later-post_cmp q p) ∙ h)

-- what is no later is due no later
pub due_no_later : (p q : Post) → is_later p q ≡ false → p.due ≤ q.due
due_no_later p q h = grind (arith, nat_tests)
