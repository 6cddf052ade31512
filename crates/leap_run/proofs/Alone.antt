-- One core goes on by itself, and the others, which are quiet meanwhile, follow.
use Rattle.std.proofs.Common.{◌≡◌, ◌∙◌, ℕ, ◌+◌, ◌≤◌, suc, List, [], ◌∷◌, ◌++◌, map, length, get_or, refl, sym, ap, subst, arith}
use Rattle.std.specs.List.{All, AllByRecursion as Each}
use Rattle.std.proofs.Math.ListN.{get_or-append}
use Rattle.std.proofs.lemmas.Grind.{flat_map-append}
use Rattle.std.proofs.lemmas.List.{append-nil, get_or-append-add, length-append, map-append}
use Rattle.std.proofs.lemmas.List.Elements.{All-from_recursion, recursion_from_All}
use Rattle.slack_base.specs.declared.messages.Ask.{Ask}
use Rattle.slack_base.specs.Inboxes.{CoreValue}
use Rattle.target_law.specs.Cycles.{ticks_of}
use Rattle.target_law.specs.Rules.{Rules}
use Rattle.target_law.proofs.Lists.{each_append}
use Rattle.leap_run.specs.Leaps.{AllBut, asks_in, IsQuiet}
use Rattle.leap_run.proofs.Quieting.{quiet_less}

module _ {C : Type 0} (P : C → Type 0) where
  part_front : (xs ys : List C) → Each P (xs ++ ys) → Each P xs
  part_front [] ys h = tt
  part_front (x ∷ xs) ys h = (h.0, part_front xs ys h.1)

  part_back : (xs ys : List C) → Each P (xs ++ ys) → Each P ys
  part_back [] ys h = h
  part_back (x ∷ xs) ys h = part_back xs ys h.1

module _ {C : Type 0} (cores front : List C) (one : C) (back : List C) (whole : cores ≡ front ++ one ∷ back) (P : C → Type 0) where
  pub all_one : All P cores → P one
  all_one all = (part_back P front (one ∷ back) (subst (Each P) whole (recursion_from_All P cores all))).0

  pub all_back : All P cores → All P back
  all_back all = All-from_recursion P back (part_back P front (one ∷ back) (subst (Each P) whole (recursion_from_All P cores all))).1

  pub all_of : All P front → P one → All P back → All P cores
  all_of before here after =
      subst (All P) (sym whole)
      (All-from_recursion P (front ++ one ∷ back) (each_append P front (one ∷ back) (recursion_from_All P front before) (here, recursion_from_All P back after)))

  length_whole : length cores ≡ length front + suc (length back)
  length_whole = ap length whole ∙ length-append front (one ∷ back)

  module _ (lone : ℕ) (place : length front ≡ lone) (but : AllBut lone P cores) where
    pub but_front : All P front
    but_front k d low =
        subst P (ap (λ xs. get_or xs k d) whole ∙ get_or-append front (one ∷ back) d k low)
        (but k d (let all = length_whole in omega arith) (λ same. absurd (omega arith)))

    pub but_back : All P back
    but_back k d low =
        let n = length front + suc k in
        subst P (ap (λ xs. get_or xs n d) whole ∙ get_or-append-add front (one ∷ back) (suc k) d)
        (but n d (let all = length_whole in omega arith) (λ same. absurd (omega arith)))

module _ {Inner Chan C : Type 0} (rules : Rules Inner Chan) (view : C → CoreValue Inner) (t k n : ℕ) (few : k ≤ n) (cores front : List C) (one : C) (back : List C) (whole : cores ≡ front ++ one ∷ back) where
  abbrev Quiet : ℕ → C → Type 0
  Quiet q core = IsQuiet rules t q (view core)

  fewer : (q : ℕ) → q ≤ n → (xs : List C) → All (Quiet n) xs → All (Quiet q) xs
  fewer q low xs all j d within = quiet_less rules t q n (view (get_or xs j d)) low (all j d within)

  none_in : (xs : List C) → Each (Quiet k) xs → asks_in rules t k (map view xs) ≡ []
  none_in [] h = refl
  none_in (x ∷ xs) h = ap (λ asks. asks ++ asks_in rules t k (map view xs)) h.0.silent ∙ none_in xs h.1

  module _ (front_quiet : All (Quiet n) front) (back_quiet : All (Quiet n) back) where
    pub asks_alone : (own then all : List Ask) → own ≡ (ticks_of rules t k (view one)).1 → then ≡ own ++ asks_in rules t k (map view front) → all ≡ then ++ asks_in rules t k (map view back)
        → all ≡ asks_in rules t k (map view cores)
    asks_alone own then all own_is then_is all_is =
        let first = asks_in rules t k (map view front) in
        let last = asks_in rules t k (map view back) in
        let mine = (ticks_of rules t k (view one)).1 in
        let none_first : first ≡ [] = none_in front (recursion_from_All (Quiet k) front (fewer k few front front_quiet)) in
        let none_last : last ≡ [] = none_in back (recursion_from_All (Quiet k) back (fewer k few back back_quiet)) in
        let left : all ≡ mine =
        all_is ∙ ap (λ xs. then ++ xs) none_last ∙ append-nil then ∙ then_is ∙ ap (λ xs. own ++ xs) none_first ∙ append-nil own ∙ own_is in
        let right : asks_in rules t k (map view cores) ≡ mine =
        ap (λ xs. asks_in rules t k (map view xs)) whole
        ∙ ap (asks_in rules t k) (map-append view front (one ∷ back))
        ∙ flat_map-append (λ core. (ticks_of rules t k core).1) (map view front) (map view (one ∷ back))
        ∙ ap (λ xs. xs ++ (mine ++ last)) none_first
        ∙ ap (λ xs. mine ++ xs) none_last
        ∙ append-nil mine in
        left ∙ sym right

    pub quiet_all : (q : ℕ) → q ≤ n → Quiet q one → All (Quiet q) cores
    quiet_all q low here = all_of cores front one back whole (Quiet q) (fewer q low front front_quiet) here (fewer q low back back_quiet)
