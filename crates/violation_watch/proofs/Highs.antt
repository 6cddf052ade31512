-- The greatest of some ids, and of some ids and one more.
use Rattle.std.proofs.Common.{◌≡◌, ◌∙◌, List, [], ◌∷◌, ◌++◌, Bool, true, false, cond, Option, Some, None, refl, sym, ap}
use Rattle.std.specs.List.{filter}
use Rattle.slack_base.specs.declared.stamps.Id.{Id}
use Rattle.slack_base.specs.HighestIds.{later_of, clash_with}
use Rattle.slack_base.specs.Stamps.{is_above}
use Rattle.target_law.proofs.Lists.{filter_case}
use Rattle.violation_watch.specs.Scan.{greater, greatest}
use Rattle.violation_watch.proofs.Ids.{up_to, above_trans}

false_is_true : {X : Type 0} → false ≡ true → X
false_is_true h = cc

pub by_test : {X : Type 0} (b : Bool) → (b ≡ true → X) → (b ≡ false → X) → X
by_test true f g = f refl
by_test false f g = g refl

-- the last of two that is not below the other
abbrev top : Id → Id → Id
top i j = cond (is_above i j) i j

top-left : (i j : Id) → is_above i j ≡ true → top i j ≡ i
top-left i j h = ap (λ b. cond b i j) h

top-right : (i j : Id) → is_above i j ≡ false → top i j ≡ j
top-right i j h = ap (λ b. cond b i j) h

top_assoc : (i h low : Id) → top i (top h low) ≡ top (top i h) low
top_assoc i h low =
    by_test (is_above h low)
    (λ h_on. by_test (is_above i h)
    (λ i_on. ap (top i) (top-left h low h_on) ∙ top-left i h i_on ∙ sym (top-left i low (above_trans i h low i_on h_on)) ∙ ap (λ x. top x low) (sym (top-left i h i_on)))
    (λ i_off. ap (top i) (top-left h low h_on) ∙ top-right i h i_off ∙ sym (top-left h low h_on) ∙ ap (λ x. top x low) (sym (top-right i h i_off))))
    (λ h_off. by_test (is_above i h)
    (λ i_on. ap (top i) (top-right h low h_off) ∙ ap (λ x. top x low) (sym (top-left i h i_on)))
    (λ i_off. ap (top i) (top-right h low h_off) ∙ top-right i low (up_to i h low i_off h_off) ∙ sym (top-right h low h_off) ∙ ap (λ x. top x low) (sym (top-right i h i_off))))

greater_assoc : (i low : Id) (g : Option Id) → greater i (Some (later_of g low)) ≡ later_of (Some (greater i g)) low
greater_assoc i low None = refl
greater_assoc i low (Some h) = top_assoc i h low

-- with one id more
pub greatest-more : (ids : List Id) (low : Id) → greatest (ids ++ low ∷ []) ≡ Some (later_of (greatest ids) low)
greatest-more [] low = refl
greatest-more (i ∷ ids) low = ap (λ g. Some (greater i g)) (greatest-more ids low) ∙ ap Some (greater_assoc i low (greatest ids))

-- the id in front, where it is above, and where it isn't
above_first : (i low : Id) (g : Option Id) → is_above i low ≡ true → Some (greater i (clash_with g low)) ≡ clash_with (Some (greater i g)) low
above_first i low None on = ap (λ b. cond b (Some i) None) (sym on)
above_first i low (Some h) on =
    by_test (is_above h low)
    (λ h_on. ap (λ b. Some (greater i (cond b (Some h) None))) h_on
    ∙ by_test (is_above i h)
    (λ i_on. ap (λ b. cond b (Some (top i h)) None) (sym (ap (λ x. is_above x low) (top-left i h i_on) ∙ on)))
    (λ i_off. ap (λ b. cond b (Some (top i h)) None) (sym (ap (λ x. is_above x low) (top-right i h i_off) ∙ h_on))))
    (λ h_off.
    let first : top i h ≡ i = top-left i h (by_test (is_above i h) (λ e. e) (λ e. false_is_true (sym (up_to i h low e h_off) ∙ on))) in
    ap (λ b. Some (greater i (cond b (Some h) None))) h_off
    ∙ ap Some (sym first)
    ∙ ap (λ b. cond b (Some (top i h)) None) (sym (ap (λ x. is_above x low) first ∙ on)))

not_above_first : (i low : Id) (g : Option Id) → is_above i low ≡ false → clash_with g low ≡ clash_with (Some (greater i g)) low
not_above_first i low None off = ap (λ b. cond b (Some i) None) (sym off)
not_above_first i low (Some h) off =
    by_test (is_above h low)
    (λ h_on.
    let last : top i h ≡ h = top-right i h (by_test (is_above i h) (λ e. false_is_true (sym off ∙ above_trans i h low e h_on)) (λ e. e)) in
    ap (λ x. cond (is_above x low) (Some x) None) (sym last))
    (λ h_off. ap (λ b. cond b (Some h) None) h_off ∙ ap (λ b. cond b (Some (top i h)) None) (sym (by_test (is_above i h)
    (λ i_on. ap (λ x. is_above x low) (top-left i h i_on) ∙ off)
    (λ i_off. ap (λ x. is_above x low) (top-right i h i_off) ∙ h_off))))

-- the greatest of those above an id is the greatest of all, where that is above it
pub greatest-above : (low : Id) (ids : List Id) → greatest (filter (λ high. is_above high low) ids) ≡ clash_with (greatest ids) low
greatest-above low [] = refl
greatest-above low (i ∷ ids) =
    filter_case (λ high. is_above high low) i ids (λ xs. greatest xs ≡ clash_with (greatest (i ∷ ids)) low)
    (λ on. ap (λ g. Some (greater i g)) (greatest-above low ids) ∙ above_first i low (greatest ids) on)
    (λ off. greatest-above low ids ∙ not_above_first i low (greatest ids) off)
