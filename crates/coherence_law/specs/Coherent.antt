-- When a line is coherent in a machine.
use Rattle.std.specs.Prelude.{ℕ, ◌≡◌, ◌≢◌, true, Option, None, Some, option_map, slice_get}
use Rattle.slack_base.specs.declared.messages.Words.{Words}
use Rattle.slack_base.specs.Inboxes.{CoreValue}
use Rattle.mesi_cache.specs.declared.lines.Held.TheVariants.{Modified}
use Rattle.mesi_cache.specs.declared.lines.HeldLine.{HeldLine}
use Rattle.mesi_cache.specs.Lines.{may_write}
use Rattle.bus_model.specs.Channels.{ChannelValue, found_entry}
use Rattle.timed_core.specs.Accesses.{held_in}
use Rattle.timed_core.specs.Cores.{HartValue}
use Rattle.target_law.specs.Cycles.{StateValue}

-- what a core's cache holds of a line, if there is such a core
abbrev pub held_of : Option (CoreValue HartValue) → ℕ → Option HeldLine
held_of None line = None
held_of (Some core) line = held_in core.inner.cache line

-- what the cache of the core of a number holds of a line
abbrev pub held_at : StateValue HartValue ChannelValue → (core line : ℕ) → Option HeldLine
held_at m core line = held_of (slice_get m.cores core) line

-- the words of a line in memory, as a bus has them that has the line
abbrev pub words_on : ℕ → ChannelValue → Option Words
words_on line chan = option_map (λ entry. entry.words) (found_entry chan line)

-- memory has these words of the line: a bus has them
pub record IsInMemory (m : StateValue HartValue ChannelValue) (line : ℕ) (words : Words) : Type 0 where
  pub number : ℕ
  pub bus : ChannelValue
  pub at : slice_get m.chans number ≡ Some bus
  pub has : words_on line bus ≡ Some words

pub record IsCoherent (m : StateValue HartValue ChannelValue) (line : ℕ) : Type 0 where
  -- where a core holds the line Exclusive or Modified, no other core holds it
  pub alone : (c k : ℕ) (h : HeldLine) → held_at m c line ≡ Some h → may_write h.held ≡ true → k ≢ c → held_at m k line ≡ None
  -- a core that holds the line Shared or Exclusive has memory's words of it
  pub same : (c : ℕ) (h : HeldLine) → held_at m c line ≡ Some h → h.held ≢ Modified → IsInMemory m line h.words
