-- The oldest ask of each core is its least, so the least of the oldest is the least of all.
use Rattle.std.proofs.Common.{◌≡◌, ◌∙◌, ℕ, ◌+◌, zero, suc, true, false, List, [], ◌∷◌, Some, refl, sym, subst}
use Rattle.std.specs.List.{All, AllByRecursion as Each}
use Rattle.std.proofs.lemmas.List.Elements.{All-from_recursion, All-head, All-tail}
use Rattle.std.proofs.lemmas.Option.{none-some, same_Some}
use Rattle.slack_base.specs.declared.messages.Ask.{Ask}
use Rattle.slack_base.specs.declared.stamps.Id.{Id}
use Rattle.slack_base.specs.Messages.{id_of}
use Rattle.target_law.specs.Numbered.{AllNumbered}
use Rattle.target_law.specs.Rules.{Rules, Owns}
use Rattle.target_law.specs.Served.{AreRising}
use Rattle.target_law.proofs.Lists.{each_weaker}
use Rattle.drive_script.specs.Open.{IsLaneOf}
use Rattle.drive_script.specs.Finishing.{IsFirstLeast, IsOldest, first_id, is_before, oldest_id}
use Rattle.drive_script.specs.Worlds.{LaneValue}
use Rattle.drive_script.proofs.Picks.{id_order}

-- where the first of two doesn't come before the id, the second doesn't either
still : (id first other : Id) → is_before first id ≡ false → is_before first other ≡ true → is_before other id ≡ false
still id first other h later = elim (is_before other id) as (λ b. is_before other id ≡ b → b ≡ false) [
  | true ↦ λ e. sym (id_order.before first other id later (id_order.apart other id e)) ∙ h
  | false ↦ λ _. refl
] refl

none_before : (id : Id) (asks : List Ask) → AreRising asks → ((other : Id) → first_id asks ≡ Some other → is_before other id ≡ false) → Each (λ ask. is_before (id_of ask) id ≡ false) asks
none_before id [] h least = tt
none_before id (x ∷ asks) h least =
    (least (id_of x) refl, each_weaker (λ y later. still id (id_of x) (id_of y) (least (id_of x) refl) later) asks h.0)

head_not_before : (id : Id) (asks : List Ask) → All (λ ask. is_before (id_of ask) id ≡ false) asks → (other : Id) → first_id asks ≡ Some other → is_before other id ≡ false
head_not_before id [] h other e = absurd (none-some other e)
head_not_before id (x ∷ asks) h other e = subst (λ i. is_before i id ≡ false) (same_Some (id_of x) other e) (All-head (λ ask. is_before (id_of ask) id ≡ false) x asks h)

module _ {Inner Chan : Type 0} (rules : Rules Inner Chan) (owns : Owns Inner Chan) where
  lanes_before : (end n : ℕ) (lanes : List (LaneValue Inner)) (id : Id) → AllNumbered (IsLaneOf rules owns end) n lanes
      → ((j : ℕ) (other : Id) → oldest_id lanes j ≡ Some other → is_before other id ≡ false)
      → Each (λ lane. All (λ ask. is_before (id_of ask) id ≡ false) lane.asks) lanes
  lanes_before end n [] id are least = tt
  lanes_before end n (lane ∷ lanes) id are least = (
    All-from_recursion (λ ask. is_before (id_of ask) id ≡ false) lane.asks (none_before id lane.asks are.0.rising (least 0)),
    lanes_before end (n + 1) lanes id are.1 (λ j. least (suc j)),
  )

  pub oldest_of_all : (end : ℕ) (lanes : List (LaneValue Inner)) (c : ℕ) (id : Id) → AllNumbered (IsLaneOf rules owns end) 0 lanes
      → IsFirstLeast Id is_before (oldest_id lanes) c id → IsOldest lanes c id
  oldest_of_all end lanes c id are is = record {
    here = is.here;
    least = All-from_recursion (λ (lane : LaneValue Inner). All (λ ask. is_before (id_of ask) id ≡ false) lane.asks) lanes (lanes_before end 0 lanes id are is.least);
    first = is.first;
  }

-- no oldest ask comes before it either
module _ {Inner : Type 0} (id : Id) where
  abbrev IsAfter : LaneValue Inner → Type 0
  IsAfter lane = All (λ ask. is_before (id_of ask) id ≡ false) lane.asks

  pub least_of_oldest : (lanes : List (LaneValue Inner)) → All (λ lane. All (λ ask. is_before (id_of ask) id ≡ false) lane.asks) lanes
      → (j : ℕ) (other : Id) → oldest_id lanes j ≡ Some other → is_before other id ≡ false
  least_of_oldest [] h zero other e = absurd (none-some other e)
  least_of_oldest [] h (suc j) other e = absurd (none-some other e)
  least_of_oldest (lane ∷ lanes) h zero other e = head_not_before id lane.asks (All-head IsAfter lane lanes h) other e
  least_of_oldest (lane ∷ lanes) h (suc j) other e = least_of_oldest lanes (All-tail IsAfter lane lanes h) j other e
