-- The asks that wait at desks, and the order in which they are served.
use Rattle.std.specs.Prelude.{◌≡◌, ◌==◌, ◌&&◌, ℕ, List, [], ◌∷◌, ◌++◌, map, Option, Some, None, if◌then◌else◌}
use Rattle.slack_base.specs.declared.messages.Ask.{Ask}
use Rattle.slack_base.specs.declared.stamps.Id.{Id}
use Rattle.slack_base.specs.Messages.{id_of}
use Rattle.target_law.specs.Cycles.{changed_at, seen_at}
use Rattle.target_law.specs.Rules.{Rules}
use Rattle.drive_script.specs.Finishing.{IsFirstLeast, NoKey, is_before}
use Rattle.drive_script.specs.Worlds.{oldest, younger}
use Rattle.manager.specs.declared.managers.Desk.{Desk}
use Rattle.manager.specs.declared.managers.Manager.{Manager}

-- for each desk the asks that wait there, the oldest first
abbrev pub queues_of : List Desk → List (List Ask)
queues_of desks = map (λ desk. desk.pending.items) desks

-- the oldest ask that waits at the desk of a place
abbrev pub oldest_at : List (List Ask) → ℕ → Option Ask
oldest_at queues c = seen_at c oldest None queues

-- it waits no more
abbrev pub without_oldest_at : ℕ → List (List Ask) → List (List Ask)
without_oldest_at c queues = changed_at c younger queues

module _ {Inner Chan : Type 0} (rules : Rules Inner Chan) where
  -- the id of the oldest of the asks, if it is a proper ask of the core of this number
  abbrev pub servable_id : (c : ℕ) → List Ask → Option Id
  servable_id c [] = None
  servable_id c (x ∷ asks) = if rules.is_proper_ask x && ((id_of x).core == c) then Some (id_of x) else None

  -- the id of the oldest ask that waits at the desk of a place, if it may be served
  abbrev pub next_id : List (List Ask) → ℕ → Option Id
  next_id queues c = seen_at c (servable_id c) None queues

  -- from the first queues these asks are served, one after another: of the oldest asks that may be served always the one
  -- with the least id, until there is none. An ask that may not be served holds up those behind it
  pub data ServesAll : List (List Ask) → List Ask → List (List Ask) → Type 0 where
    done : {queues : List (List Ask)} → NoKey (next_id queues) → ServesAll queues [] queues
    serves : {queues left : List (List Ask)} {asks : List Ask} (c : ℕ) (id : Id) (x : Ask)
        → IsFirstLeast Id is_before (next_id queues) c id → oldest_at queues c ≡ Some x
        → ServesAll (without_oldest_at c queues) asks left → ServesAll queues (x ∷ asks) left

-- the oldest ask of the desk of a place was served
pub record TakesOldest {D : Type 0} (c : ℕ) (a b : Manager D) : Type 0 where
  pub ask : Ask
  pub oldest : oldest_at (queues_of a.desks.items) c ≡ Some ask
  pub served : b.served ≡ a.served ++ ask ∷ []
  pub queues : queues_of b.desks.items ≡ without_oldest_at c (queues_of a.desks.items)
