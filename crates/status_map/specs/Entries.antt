-- What is true of the numbers in an entry and of the delays of a bus.
use Rattle.std.specs.Prelude.{ℕ, ◌^◌, ◌<◌, ◌≤◌}
use Rattle.status_map.specs.declared.views.EntryKind.{EntryKind}
use Rattle.status_map.specs.declared.views.EntryKind.TheVariants.{Idle, Shared, Owned, Moving}
use Rattle.status_map.specs.declared.views.Delays.{Delays}

-- every core that the entry names is below n
abbrev pub NamesBelow : ℕ → EntryKind → Type 0
NamesBelow n Idle = Unit {0}
NamesBelow n (Shared cores) = cores < 2 ^ n
NamesBelow n (Owned core) = core < n
NamesBelow n (Moving owner requester exclusive) = (owner < n) × (requester < n)

-- each delay is short
abbrev pub AreShort : Delays → Type 0
AreShort d = (d.snoop ≤ 64) × (d.memory ≤ 64) × (d.transfer ≤ 64)
