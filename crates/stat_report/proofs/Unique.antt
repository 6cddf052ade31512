-- An image has one listing.
use Rattle.std.proofs.Common.{◌≡◌, ◌≢◌, ◌⊎◌, inl, inr, ⊎_elim, ℕ, zero, suc, ◌^◌, ◌<◌, ◌≤◌, List, [], ◌∷◌, map, length, get_or, refl, sym, ap, ◌∙◌, arith, All, eqb}
use Rattle.std.specs.List.{AllPairs, Contains, flat_map}
use Rattle.std.specs.List.Sorted.{IsPermutation, IsNonDecreasingBy}
use Rattle.std.proofs.lemmas.Bool.{cases_lt}
use Rattle.std.proofs.lemmas.Bool.Decides.{Decides-eqb, same_from_decides}
use Rattle.std.proofs.lemmas.List.{get_or-map, length-map}
use Rattle.std.proofs.lemmas.List.Sorted.{IsPermutation-map, IsPermutation-sym, IsPermutation-trans, Contains-permutation}
use Rattle.std.proofs.lemmas.Map.Keys.{IsDistinct-IsPermutation}
use Rattle.std.proofs.lemmas.Map.Made.{AllPairs-from_IsDistinct, IsDistinct-from_AllPairs}
use Rattle.slack_base.specs.declared.images.Image.{Image}
use Rattle.slack_base.specs.declared.images.Segment.{Segment}
use Rattle.slack_base.specs.Images.{IsInMemory, IsApart}
use Rattle.stat_report.specs.Listing.{IsInOrder, IsListing, segment_text}

-- lists along which a number rises, and that contain the same, are the same
module _ {X : Type 0} (key : X → ℕ) where
  abbrev Rises : List X → Type 0
  Rises xs = AllPairs (λ x y. key x < key y) xs

  rises_behind : (x : X) (xs : List X) → Rises (x ∷ xs) → Rises xs
  rises_behind x xs rises i j d before within = rises (suc i) (suc j) d (omega arith) (omega arith)

  above_first : (x : X) (xs : List X) (z : X) → Rises (x ∷ xs) → Contains xs z → key x < key z
  above_first x xs z rises found =
      let behind = rises 0 (suc found.0) z (omega arith) (omega (arith, found.1)) in
      omega (arith, behind, ap key found.2)

  first_or_behind : (x : X) (xs : List X) (z : X) (k : ℕ) → k < length (x ∷ xs) → get_or (x ∷ xs) k z ≡ z → (x ≡ z) ⊎ Contains xs z
  first_or_behind x xs z zero within found = inl found
  first_or_behind x xs z (suc k) within found = inr (k, omega arith, found)

  cases : (x : X) (xs : List X) (z : X) → Contains (x ∷ xs) z → (x ≡ z) ⊎ Contains xs z
  cases x xs z found = first_or_behind x xs z found.0 found.1 found.2

  first : (x : X) (xs : List X) → Contains (x ∷ xs) x
  first x xs = (0, omega arith, refl)

  behind : (x : X) (xs : List X) (z : X) → Contains xs z → Contains (x ∷ xs) z
  behind x xs z found = (suc found.0, omega (arith, found.1), found.2)

  -- what one contains, the other contains
  abbrev Within : List X → List X → Type 0
  Within xs ys = (z : X) → Contains xs z → Contains ys z

  same_first : (x y : X) (xs ys : List X) → Rises (x ∷ xs) → Rises (y ∷ ys) → Within (x ∷ xs) (y ∷ ys) → Within (y ∷ ys) (x ∷ xs) → x ≡ y
  same_first x y xs ys rises1 rises2 there back =
      ⊎_elim (λ same. sym same)
      (λ above. ⊎_elim (λ same. same)
      (λ below. absurd (omega (arith, above_first y ys x rises2 above, above_first x xs y rises1 below)))
      (cases x xs y (back y (first y ys))))
      (cases y ys x (there x (first x xs)))

  within_behind : (x y : X) (xs ys : List X) → Rises (x ∷ xs) → x ≡ y → Within (x ∷ xs) (y ∷ ys) → Within xs ys
  within_behind x y xs ys rises same there z found =
      ⊎_elim
      (λ at. absurd (omega (arith, above_first x xs z rises found, ap key (same ∙ at))))
      (λ later. later)
      (cases y ys z (there z (behind x xs z found)))

  pub same_list : (xs ys : List X) → Rises xs → Rises ys → Within xs ys → Within ys xs → xs ≡ ys
  same_list [] [] rises1 rises2 there back = refl
  same_list [] (y ∷ ys) rises1 rises2 there back = absurd (omega (arith, (back y (first y ys)).1))
  same_list (x ∷ xs) [] rises1 rises2 there back = absurd (omega (arith, (there x (first x xs)).1))
  same_list (x ∷ xs) (y ∷ ys) rises1 rises2 there back =
      let same = same_first x y xs ys rises1 rises2 there back in
      ap (λ z. z ∷ xs) same
      ∙ ap (λ zs. y ∷ zs)
      (same_list xs ys (rises_behind x xs rises1) (rises_behind y ys rises2)
      (within_behind x y xs ys rises1 same there) (within_behind y x ys xs rises2 (sym same) back))

abbrev address_of : Segment → ℕ
address_of s = s.address

-- segments that share no address begin at different ones
addresses_differ : (segments : List Segment) → All (IsInMemory 0 (2 ^ 32)) segments → AllPairs IsApart segments → AllPairs (λ a b. a ≢ b) (map address_of segments)
addresses_differ [] fits apart i j d before within same = absurd (omega arith)
addresses_differ (s ∷ segments) fits apart i j d before within same =
    let all = s ∷ segments in
    let small : j < length all = omega (arith, length-map all address_of) in
    let low = get_or-map address_of all i s d (omega arith) in
    let high = get_or-map address_of all j s d small in
    let size1 = (fits i s (omega arith)).size in
    let size2 = (fits j s small).size in
    ⊎_elim (λ h. absurd (omega (arith, h, low, high, size1, size2, same))) (λ h. absurd (omega (arith, h, low, high, size1, size2, same))) (apart i j s before small)

eqb_flipped : (a b : ℕ) → eqb a b ≡ eqb b a
eqb_flipped a b =
    let back = Decides-eqb b a in
    same_from_decides (eqb a b) (eqb b a) (Decides-eqb a b) ((λ t. sym (back.0 t)), (λ same. back.1 (sym same)))

still_differ : (segments order : List Segment) → IsPermutation segments order → AllPairs (λ a b. a ≢ b) (map address_of segments) → AllPairs (λ a b. a ≢ b) (map address_of order)
still_differ segments order permuted differ =
    let distinct = IsDistinct-from_AllPairs Decides-eqb (map address_of segments) differ in
    AllPairs-from_IsDistinct Decides-eqb (map address_of order)
    (IsDistinct-IsPermutation eqb eqb_flipped (map address_of segments) (map address_of order) (IsPermutation-map address_of segments order permuted) distinct)

order_rises : (order : List Segment) → IsNonDecreasingBy address_of order → AllPairs (λ a b. a ≢ b) (map address_of order) → Rises address_of order
order_rises order sorted differ i j d before within =
    let low = get_or-map address_of order i d 0 (omega arith) in
    let high = get_or-map address_of order j d 0 within in
    let le : address_of (get_or order i d) ≤ address_of (get_or order j d) = sorted i j d (omega arith) within in
    ⊎_elim (λ lt. lt)
    (λ ge. absurd (differ i j 0 before (omega (arith, within, length-map order address_of)) (omega (arith, low, high, le, ge))))
    (cases_lt (address_of (get_or order i d)) (address_of (get_or order j d)))

one_order : (segments x y : List Segment) → All (IsInMemory 0 (2 ^ 32)) segments → AllPairs IsApart segments → IsInOrder segments x → IsInOrder segments y → x ≡ y
one_order segments x y fits apart p q =
    let differ = addresses_differ segments fits apart in
    let there = IsPermutation-trans x segments y (IsPermutation-sym segments x p.permuted) q.permuted in
    let back = IsPermutation-trans y segments x (IsPermutation-sym segments y q.permuted) p.permuted in
    same_list address_of x y
    (order_rises x p.sorted (still_differ segments x p.permuted differ))
    (order_rises y q.sorted (still_differ segments y q.permuted differ))
    (λ z. Contains-permutation x y z there) (λ z. Contains-permutation y x z back)

pub same_listing : (image : Image) (x y : List ℕ) → All (IsInMemory 0 (2 ^ 32)) image.segments → AllPairs IsApart image.segments → IsListing image x → IsListing image y → x ≡ y
same_listing image x y fits apart p q =
    p.whole ∙ ap (flat_map segment_text) (one_order image.segments p.order q.order fits apart p.in_order q.in_order) ∙ sym q.whole
