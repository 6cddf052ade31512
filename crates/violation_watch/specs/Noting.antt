-- The greatest ids that were noted, by line.
use Rattle.std.specs.Prelude.{◌≡◌, ◌==◌, ℕ, Some, if◌then◌else◌}
use Rattle.std.specs.BTreeMap.{BTreeMap, get}
use Rattle.std.specs.Ordering.{nat_cmp}
use Rattle.slack_base.specs.declared.stamps.Id.{Id}
use Rattle.slack_base.specs.HighestIds.{later_of}

-- an id of the line was noted
abbrev pub IsNoted : BTreeMap ℕ Id → (line : ℕ) → Id → BTreeMap ℕ Id → Type 0
IsNoted old line low new = (q : ℕ) → get nat_cmp new q ≡ (if line == q then Some (later_of (get nat_cmp old line) low) else get nat_cmp old q)
