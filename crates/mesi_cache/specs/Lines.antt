-- What happens to one line of a cache.
use Rattle.std.specs.Prelude.{ℕ, Bool, true, false, if◌then◌else◌}
use Rattle.slack_base.specs.declared.messages.Words.{Words}
use Rattle.mesi_cache.specs.declared.lines.Held.{Held}
use Rattle.mesi_cache.specs.declared.lines.Held.TheVariants.{Shared, Exclusive, Modified}
use Rattle.mesi_cache.specs.declared.lines.CacheLine.{CacheLine}
use Rattle.mesi_cache.specs.declared.lines.HeldLine.{HeldLine}
use Rattle.mesi_cache.specs.Words.{with_word}

-- a line may be written in the states Exclusive and Modified
abbrev pub may_write : Held → Bool
may_write Shared = false
may_write Exclusive = true
may_write Modified = true

-- its state and words
abbrev pub held_line : CacheLine → HeldLine
held_line l = record { held = l.held; words = l.words }

-- the line as it comes from a bus
abbrev pub filled : ℕ → Bool → Words → CacheLine
filled line exclusive words = record { line = line; held = if exclusive then Exclusive else Shared; words = words }

-- the line after a write of a word
abbrev pub written : ℕ → ℕ → CacheLine → CacheLine
written place value l = record l { held = Modified; words = with_word l.words place value }

-- the line after another core's read
abbrev pub shared : CacheLine → CacheLine
shared l = record l { held = Shared }
