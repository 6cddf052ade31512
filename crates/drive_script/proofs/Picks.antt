-- A search for the least key, one place on.
use Rattle.std.specs.Option.{IfNone}
use Rattle.std.proofs.Common.{◌≡◌, ◌∙◌, ℕ, ◌+◌, ◌<◌, ◌≤◌, Bool, true, false, cond, nat_lt, Option, Some, None, refl, sym, ap, subst, arith}
use Rattle.std.proofs.lemmas.Bool.Decides.{nat_tests}
use Rattle.std.proofs.lemmas.Option.{none-some, same_Some}
use Rattle.slack_base.specs.declared.stamps.Id.{Id}
use Rattle.target_law.proofs.Ids.{above-is, above_by}
use Rattle.violation_watch.proofs.Lists.{less_or}
use Rattle.drive_script.specs.Finishing.{IsFirstLeast, NoKey, is_before}
use Rattle.drive_script.specs.Loops.{picked}

-- a strict order in which keys may be alike
pub record IsOrder (K : Type 0) (is_less : K → K → Bool) : Type 0 where
  pub apart : (a b : K) → is_less a b ≡ true → is_less b a ≡ false
  pub before : (a b c : K) → is_less a b ≡ true → is_less c b ≡ false → is_less a c ≡ true

pub nat_order : IsOrder ℕ nat_lt
nat_order = record { apart = λ a b h. grind (arith, nat_tests); before = λ a b c h k. grind (arith, nat_tests) }

apart_by : (a b c d e f : ℕ) → above_by a b c d e f ≡ true → above_by b a d c f e ≡ false
apart_by a b c d e f h = grind (arith, nat_tests)

before_by : (a b c d e f g h i : ℕ) → above_by b a e d h g ≡ true → above_by b c e f h i ≡ false → above_by c a f d i g ≡ true
before_by a b c d e f g h i k l = grind (arith, nat_tests)

pub id_order : IsOrder Id is_before
id_order = record {
  apart = λ a b h. above-is a b ∙ apart_by b.cycle a.cycle b.core a.core b.number a.number (sym (above-is b a) ∙ h);
  before = λ a b c h k.
      above-is c a
      ∙ before_by a.cycle b.cycle c.cycle a.core b.core c.core a.number b.number c.number (sym (above-is b a) ∙ h) (sym (above-is b c) ∙ k);
}

-- among the first places this one has the least key
pub record IsLeastBelow (K : Type 0) (is_less : K → K → Bool) (key : ℕ → Option K) (i place : ℕ) (least_key : K) : Type 0 where
  pub here : key place ≡ Some least_key
  pub within : place < i
  pub least : (j : ℕ) (other : K) → j < i → key j ≡ Some other → is_less other least_key ≡ false
  pub first : (j : ℕ) (other : K) → j < place → key j ≡ Some other → is_less least_key other ≡ true

abbrev pub IsBest : (K : Type 0) → (K → K → Bool) → (ℕ → Option K) → ℕ → Option (ℕ × K) → Type 0
IsBest K is_less key i None = (j : ℕ) → j < i → key j ≡ None
IsBest K is_less key i (Some b) = IsLeastBelow K is_less key i b.0 b.1

module _ (K : Type 0) (is_less : K → K → Bool) (order : IsOrder K is_less) (key : ℕ → Option K) where
  alike : (k l : K) → l ≡ k → is_less l k ≡ false
  alike k l e = elim (is_less l k) as (λ b. is_less l k ≡ b → b ≡ false) [
    | true ↦ λ h. sym (subst (λ m. is_less m m ≡ true) e (subst (λ m. is_less l m ≡ true) (sym e) h)) ∙ order.apart k k (subst (λ m. is_less m m ≡ true) e (subst (λ m. is_less l m ≡ true) (sym e) h))
    | false ↦ λ _. refl
  ] refl

  below : {Y : Type 0} (i j : ℕ) → j < i + 1 → (j < i → Y) → (j ≡ i → Y) → Y
  below i j h f g = less_or j i f (λ l. g (omega arith))

  not_less : (l k m : K) → is_less k m ≡ true → is_less l m ≡ false → is_less l k ≡ false
  not_less l k m h n = elim (is_less l k) as (λ b. is_less l k ≡ b → b ≡ false) [
    | true ↦ λ e. sym (order.before l k m e (order.apart k m h)) ∙ n
    | false ↦ λ _. refl
  ] refl

  more : (i : ℕ) (o : Option K) → key i ≡ o → (best : Option (ℕ × K)) → IsBest K is_less key i best → IsBest K is_less key (i + 1) (picked is_less best i o)
  more i None e None is = λ j l. below i j l (is j) (λ at. ap key at ∙ e)
  more i None e (Some b) is = record {
    here = is.here;
    within = let w = is.within in omega arith;
    least = λ j other l h. below i j l (λ m. is.least j other m h) (λ at. absurd (none-some other (sym e ∙ sym (ap key at) ∙ h)));
    first = is.first;
  }
  more i (Some k) e None is = record {
    here = e;
    within = omega arith;
    least = λ j other l h. below i j l (λ m. absurd (none-some other (sym (is j m) ∙ h))) (λ at. alike k other (same_Some other k (sym h ∙ ap key at ∙ e)));
    first = λ j other l h. absurd (none-some other (sym (is j l) ∙ h));
  }
  more i (Some k) e (Some b) is = elim (is_less k b.1) as (λ t. is_less k b.1 ≡ t → IsBest K is_less key (i + 1) (cond t (Some (i, k)) (Some b))) [
    | true ↦ λ less. record {
      here = e;
      within = omega arith;
      least = λ j other l h. below i j l (λ m. not_less other k b.1 less (is.least j other m h)) (λ at. alike k other (same_Some other k (sym h ∙ ap key at ∙ e)));
      first = λ j other l h. order.before k b.1 other less (is.least j other l h);
    }
    | false ↦ λ less. record {
      here = is.here;
      within = let w = is.within in omega arith;
      least = λ j other l h. below i j l (λ m. is.least j other m h) (λ at. subst (λ x. is_less x b.1 ≡ false) (same_Some k other (sym e ∙ sym (ap key at) ∙ h)) less);
      first = is.first;
    }
  ] refl

  pub best_more : (i : ℕ) (o : Option K) (best : Option (ℕ × K)) → key i ≡ o → IsBest K is_less key i best → IsBest K is_less key (i + 1) (picked is_less best i o)
  best_more i o best e is = more i o e best is

  -- once all places were seen
  pub best_none : (n : ℕ) → ((j : ℕ) → n ≤ j → key j ≡ None) → IsBest K is_less key n None → NoKey key
  best_none n past is j = less_or j n (is j) (past j)

  pub best_some : (n : ℕ) (b : ℕ × K) → ((j : ℕ) → n ≤ j → key j ≡ None) → IsBest K is_less key n (Some b) → IsFirstLeast K is_less key b.0 b.1
  best_some n b past is = record {
    here = is.here;
    least = λ j other h. less_or j n (λ l. is.least j other l h) (λ l. absurd (none-some other (sym (past j l) ∙ h)));
    first = is.first;
  }

  pub ends_none : (n : ℕ) (best : Option (ℕ × K)) → ((j : ℕ) → n ≤ j → key j ≡ None) → IsBest K is_less key n best → best ≡ None → NoKey key
  ends_none n best past is e = best_none n past (subst (IsBest K is_less key n) e is)

  pub ends_some : (n : ℕ) (best : Option (ℕ × K)) (place : ℕ) (k : K) → ((j : ℕ) → n ≤ j → key j ≡ None) → IsBest K is_less key n best → best ≡ Some (place, k)
      → (x : K) × IsFirstLeast K is_less key place x
  ends_some n best place k past is e = (k, best_some n (place, k) past (subst (IsBest K is_less key n) e is))

pub if_none : {X : Type 0} (r : Option X) (P : Type 0) → P → IfNone r P
if_none None P h = h
if_none (Some x) P h = tt

-- a place more of which it is known
pub none_more : {K : Type 0} (key : ℕ → Option K) (i : ℕ) → ((j : ℕ) → j < i → key j ≡ None) → key i ≡ None → (j : ℕ) → j < i + 1 → key j ≡ None
none_more key i so_far here j l = less_or j i (so_far j) (λ m. let at : j ≡ i = omega arith in ap key at ∙ here)
