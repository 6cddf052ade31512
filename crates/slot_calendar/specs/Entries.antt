-- How a calendar keeps its slots: each beside the greatest grant so far, and the least from there on.
use Rattle.std.specs.Prelude.{◌≡◌, ◌≤◌, ℕ, false, true, List, [], ◌∷◌, ◌++◌, length, take, drop, min, max, map}
use Rattle.std.specs.List.{AllByRecursion as Each}
use Rattle.slack_base.specs.declared.stamps.Id.{Id}
use Rattle.slack_base.specs.Stamps.{is_above}
use Rattle.slot_calendar.specs.declared.entries.Entry.{Entry}
use Rattle.slot_calendar.specs.declared.slots.Slot.{Slot}
use Rattle.slot_calendar.specs.Slots.{IsInOrder}

-- the slots of entries
abbrev pub slots_of : List Entry → List Slot
slots_of entries = map (λ e. e.slot) entries

-- the greatest grant of entries, where `latest` is the greatest of those before them
abbrev pub latest_of : (latest : ℕ) → List Entry → ℕ
latest_of latest [] = latest
latest_of latest (e ∷ entries) = latest_of e.latest entries

-- each entry names the greatest grant up to its own, where `latest` is the greatest of those before
abbrev pub AreRunning : (latest : ℕ) → List Entry → Type 0
AreRunning latest [] = Unit {0}
AreRunning latest (e ∷ entries) = (e.latest ≡ max latest e.slot.grant) × AreRunning e.latest entries

-- the least of a grant and those of entries
abbrev pub earliest_of : (grant : ℕ) → List Entry → ℕ
earliest_of grant [] = grant
earliest_of grant (e ∷ entries) = min grant e.earliest

-- each entry names the least grant from its own on
abbrev pub AreComing : List Entry → Type 0
AreComing [] = Unit {0}
AreComing (e ∷ entries) = (e.earliest ≡ earliest_of e.slot.grant entries) × AreComing entries

-- what is so of the entries of every calendar
pub record AreKept (entries : List Entry) : Type 0 where
  pub order : IsInOrder (slots_of entries)
  pub running : AreRunning 0 entries
  pub coming : AreComing entries

-- the first n have ids that aren't above this one, and all others have
pub record IsPlace (x : Id) (n : ℕ) (entries : List Entry) : Type 0 where
  pub within : n ≤ length entries
  pub low : Each (λ e. is_above e.slot.id x ≡ false) (take n entries)
  pub high : Each (λ e. is_above e.slot.id x ≡ true) (drop n entries)

-- a number of each entry is no greater than those of the entries behind it
abbrev pub AreClimbing : (Entry → ℕ) → List Entry → Type 0
AreClimbing f [] = Unit {0}
AreClimbing f (e ∷ entries) = Each (λ q. f e ≤ f q) entries × AreClimbing f entries

-- an entry that has a slot with this grant before it
abbrev pub raised_to : (grant : ℕ) → Entry → Entry
raised_to grant e = record e { latest = max e.latest grant }

-- an entry that has a slot with this grant behind it
abbrev pub lowered_to : (grant : ℕ) → Entry → Entry
lowered_to grant e = record e { earliest = min e.earliest grant }

-- the entries with a change of those from place n up to place m
abbrev pub changed_between : (Entry → Entry) → (n m : ℕ) → List Entry → List Entry
changed_between f n m entries = take n entries ++ (map f (drop n (take m entries)) ++ drop m entries)
