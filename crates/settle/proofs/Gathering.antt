-- What was left in rings is gathered.
use Rattle.std.proofs.Common.{◌≡◌, ◌∙◌, inl, inr, ℕ, List, [], ◌∷◌, ◌++◌, Some, length, slice_get, sym, ap, subst, append_assoc}
use Rattle.std.proofs.lemmas.Option.{same_Some}
use Rattle.drive_script.specs.declared.lanes.Lane.{Lane}
use Rattle.manager.specs.declared.managers.Desk.{Desk}
use Rattle.stamp_queue.specs.Rings.{all_sent, all_received, HandsOver}
use Rattle.stamp_queue.specs.declared.receivers.Receiver.{Receiver}
use Rattle.stamp_queue.specs.declared.senders.Sender.{Sender}
use Rattle.settle.specs.Gathers.{Gathered}
use Rattle.settle.specs.declared.parts.Part.{Part}
use Rattle.settle.proofs.Lists.{get_push_cases}

-- a queue behind which all that was left in a ring was put
pub fetched : {X : Type 0} (s t : Sender X) (r q : Receiver X) (left queue new before : List X) → all_sent t ≡ all_sent s → all_received q ≡ all_sent t → HandsOver r q [] left → new ≡ queue ++ left
    → all_received r ≡ before ++ queue → all_sent s ≡ before ++ new
fetched s t r q left queue new before same all hands grown kept =
    sym same ∙ (sym all ∙ (hands.1 ∙ (ap (λ l. l ++ hands.0) kept ∙ (append_assoc before queue hands.0 ∙ ap (λ l. before ++ l) (ap (λ l. queue ++ l) (sym hands.2) ∙ sym grown)))))

module _ {Core : Type 0} (desks : List Desk) (parts : List (Part Core)) where
  -- the first lanes
  abbrev pub AreGatheredSoFar : List (Lane Core) → Type 0
  AreGatheredSoFar lanes =
      (c : ℕ) (desk : Desk) (part : Part Core) (lane : Lane Core)
      → slice_get desks c ≡ Some desk → slice_get parts c ≡ Some part → slice_get lanes c ≡ Some lane → Gathered desk part lane

  pub gathered_more : (lanes : List (Lane Core)) (desk : Desk) (part : Part Core) (lane : Lane Core) → AreGatheredSoFar lanes → slice_get desks (length lanes) ≡ Some desk → slice_get parts (length lanes) ≡ Some part
      → Gathered desk part lane → AreGatheredSoFar (lanes ++ lane ∷ [])
  gathered_more lanes desk part lane h desk_at part_at is c d p l ed ep el = elim (get_push_cases lanes c lane l el) [
    | inl e ↦ h c d p l ed ep e
    | inr e ↦
        let same_desk : desk ≡ d = same_Some desk d (sym desk_at ∙ subst (λ n. slice_get desks n ≡ Some d) e.0 ed) in
        let same_part : part ≡ p = same_Some part p (sym part_at ∙ subst (λ n. slice_get parts n ≡ Some p) e.0 ep) in
        subst (λ l. Gathered d p l) e.1 (subst (λ p. Gathered d p lane) same_part (subst (λ d. Gathered d part lane) same_desk is))
  ]
