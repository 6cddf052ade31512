-- Asks sorted by their ids: the same asks, and a filter that keeps asks in order keeps the same ones.
use Rattle.std.proofs.Common.{◌≡◌, ◌∙◌, List, [], ◌∷◌, ◌++◌, Bool, true, false, cond, refl, sym, ap, subst, append_assoc}
use Rattle.std.specs.List.{filter, AllByRecursion as Each}
use Rattle.std.proofs.lemmas.List.{append-nil}
use Rattle.slack_base.specs.declared.messages.Ask.{Ask}
use Rattle.slack_base.specs.Messages.{id_of}
use Rattle.slack_base.specs.Stamps.{is_above}
use Rattle.target_law.specs.Served.{inserted, Pairwise, Perm, more, swap, join}
use Rattle.target_law.proofs.Lists.{each_weaker, filter_case, filter-yes, filter-no}
use Rattle.violation_watch.proofs.Ids.{up_to, above_back, above_from}
use Rattle.violation_watch.proofs.Lists.{each_filter, pairwise_last}
use Rattle.violation_watch.proofs.Perms.{perm_same, perm_before, perm_middle, perm_back}

-- no ask comes after one with a greater id
abbrev pub AreSorted : List Ask → Type 0
AreSorted asks = Pairwise (λ x y. is_above (id_of x) (id_of y) ≡ false) asks

-- one after another into a list that is sorted
abbrev pub sorted_onto : List Ask → List Ask → List Ask
sorted_onto ys [] = ys
sorted_onto ys (x ∷ xs) = sorted_onto (inserted x ys) xs

abbrev pub sorted : List Ask → List Ask
sorted asks = sorted_onto [] asks

pub insert_case : (x y : Ask) (ys : List Ask) (R : List Ask → Type 0) → (is_above (id_of y) (id_of x) ≡ true → R (x ∷ y ∷ ys)) → (is_above (id_of y) (id_of x) ≡ false → R (y ∷ inserted x ys)) → R (inserted x (y ∷ ys))
insert_case x y ys R stops passes =
    elim (is_above (id_of y) (id_of x)) as (λ b. is_above (id_of y) (id_of x) ≡ b → R (cond b (x ∷ y ∷ ys) (y ∷ inserted x ys))) [ true ↦ stops | false ↦ passes ] refl

insert-pass : (x y : Ask) (ys : List Ask) → is_above (id_of y) (id_of x) ≡ false → inserted x (y ∷ ys) ≡ y ∷ inserted x ys
insert-pass x y ys h = ap (λ b. cond b (x ∷ y ∷ ys) (y ∷ inserted x ys)) h

insert-stop : (x y : Ask) (ys : List Ask) → is_above (id_of y) (id_of x) ≡ true → inserted x (y ∷ ys) ≡ x ∷ y ∷ ys
insert-stop x y ys h = ap (λ b. cond b (x ∷ y ∷ ys) (y ∷ inserted x ys)) h

pub insert-last : (x : Ask) (ys : List Ask) → Each (λ y. is_above (id_of y) (id_of x) ≡ false) ys → inserted x ys ≡ ys ++ x ∷ []
insert-last x [] h = refl
insert-last x (y ∷ ys) h = insert-pass x y ys h.0 ∙ ap (λ zs. y ∷ zs) (insert-last x ys h.1)

insert-first : (x : Ask) (ys : List Ask) → Each (λ y. is_above (id_of y) (id_of x) ≡ true) ys → inserted x ys ≡ x ∷ ys
insert-first x [] h = refl
insert-first x (y ∷ ys) h = insert-stop x y ys h.0

pub insert_each : (P : Ask → Type 0) (x : Ask) (ys : List Ask) → P x → Each P ys → Each P (inserted x ys)
insert_each P x [] h k = (h, tt)
insert_each P x (y ∷ ys) h k = insert_case x y ys (Each P) (λ _. (h, k)) (λ _. (k.0, insert_each P x ys h k.1))

insert_sorted : (x : Ask) (ys : List Ask) → AreSorted ys → AreSorted (inserted x ys)
insert_sorted x [] h = (tt, tt)
insert_sorted x (y ∷ ys) h =
    insert_case x y ys AreSorted
    (λ stops.
    let back = above_back (id_of y) (id_of x) stops in
    ((back, each_weaker (λ z k. up_to (id_of x) (id_of y) (id_of z) back k) ys h.0), h))
    (λ passes. (insert_each (λ z. is_above (id_of y) (id_of z) ≡ false) x ys passes h.0, insert_sorted x ys h.1))

pub insert_perm : (x : Ask) (ys : List Ask) → Perm Ask (x ∷ ys) (inserted x ys)
insert_perm x [] = perm_same (x ∷ [])
insert_perm x (y ∷ ys) = insert_case x y ys (Perm Ask (x ∷ y ∷ ys)) (λ _. perm_same (x ∷ y ∷ ys)) (λ _. join (swap x y ys) (more y (insert_perm x ys)))

module _ (p : Ask → Bool) where
  filter-insert_off : (x : Ask) (ys : List Ask) → p x ≡ false → filter p (inserted x ys) ≡ filter p ys
  filter-insert_off x [] off = filter-no p x [] off
  filter-insert_off x (y ∷ ys) off =
      insert_case x y ys (λ zs. filter p zs ≡ filter p (y ∷ ys))
      (λ _. filter-no p x (y ∷ ys) off)
      (λ _. ap (λ zs. cond (p y) (y ∷ zs) zs) (filter-insert_off x ys off))

  filter-insert_on : (x : Ask) (ys : List Ask) → p x ≡ true → AreSorted ys → filter p (inserted x ys) ≡ inserted x (filter p ys)
  filter-insert_on x [] on h = filter-yes p x [] on
  filter-insert_on x (y ∷ ys) on h =
      insert_case x y ys (λ zs. filter p zs ≡ inserted x (filter p (y ∷ ys)))
      (λ stops.
      let above : Each (λ z. is_above (id_of z) (id_of x) ≡ true) (y ∷ ys) = (stops, each_weaker (λ z k. above_from (id_of y) (id_of z) (id_of x) stops k) ys h.0) in
      filter-yes p x (y ∷ ys) on ∙ sym (insert-first x (filter p (y ∷ ys)) (each_filter p (λ z. is_above (id_of z) (id_of x) ≡ true) (y ∷ ys) above)))
      (λ passes. filter_case p y (inserted x ys) (λ zs. zs ≡ inserted x (filter p (y ∷ ys)))
      (λ kept. ap (λ zs. y ∷ zs) (filter-insert_on x ys on h.1) ∙ sym (insert-pass x y (filter p ys) passes) ∙ ap (inserted x) (sym (filter-yes p y ys kept)))
      (λ left. filter-insert_on x ys on h.1 ∙ ap (inserted x) (sym (filter-no p y ys left))))

  pub filter-sorted_onto : (ys xs : List Ask) → AreSorted ys → filter p (sorted_onto ys xs) ≡ sorted_onto (filter p ys) (filter p xs)
  filter-sorted_onto ys [] h = refl
  filter-sorted_onto ys (x ∷ xs) h =
      filter_case p x xs (λ zs. filter p (sorted_onto (inserted x ys) xs) ≡ sorted_onto (filter p ys) zs)
      (λ on. filter-sorted_onto (inserted x ys) xs (insert_sorted x ys h) ∙ ap (λ zs. sorted_onto zs (filter p xs)) (filter-insert_on x ys on h))
      (λ off. filter-sorted_onto (inserted x ys) xs (insert_sorted x ys h) ∙ ap (λ zs. sorted_onto zs (filter p xs)) (filter-insert_off x ys off))

sorted_onto_sorted : (ys xs : List Ask) → AreSorted ys → AreSorted (sorted_onto ys xs)
sorted_onto_sorted ys [] h = h
sorted_onto_sorted ys (x ∷ xs) h = sorted_onto_sorted (inserted x ys) xs (insert_sorted x ys h)

sorted_onto_perm : (ys xs : List Ask) → Perm Ask (ys ++ xs) (sorted_onto ys xs)
sorted_onto_perm ys [] = subst (λ zs. Perm Ask zs ys) (sym (append-nil ys)) (perm_same ys)
sorted_onto_perm ys (x ∷ xs) = join (perm_back (perm_middle x ys xs)) (join (perm_before xs (insert_perm x ys)) (sorted_onto_perm (inserted x ys) xs))

sorted_onto-same : (ys xs : List Ask) → AreSorted (ys ++ xs) → sorted_onto ys xs ≡ ys ++ xs
sorted_onto-same ys [] h = sym (append-nil ys)
sorted_onto-same ys (x ∷ xs) h =
    let regroup : (ys ++ x ∷ []) ++ xs ≡ ys ++ x ∷ xs = append_assoc ys (x ∷ []) xs in
    ap (λ zs. sorted_onto zs xs) (insert-last x ys (pairwise_last (λ x y. is_above (id_of x) (id_of y) ≡ false) ys x xs h))
    ∙ sorted_onto-same (ys ++ x ∷ []) xs (subst AreSorted (sym regroup) h)
    ∙ regroup

pub sorted_sorted : (asks : List Ask) → AreSorted (sorted asks)
sorted_sorted asks = sorted_onto_sorted [] asks tt

pub sorted_perm : (asks : List Ask) → Perm Ask asks (sorted asks)
sorted_perm asks = sorted_onto_perm [] asks

-- what a filter keeps in order stays as it was
pub filter-sorted : (p : Ask → Bool) (asks : List Ask) → AreSorted (filter p asks) → filter p (sorted asks) ≡ filter p asks
filter-sorted p asks h = filter-sorted_onto p [] asks tt ∙ sorted_onto-same [] (filter p asks) h
