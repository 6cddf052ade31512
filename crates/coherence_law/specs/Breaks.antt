-- The lines of a machine that are not coherent, as a test finds them.
use Rattle.std.specs.Prelude.{ℕ, ◌<◌, ◌≡◌, ◌==◌, ◌&&◌, ◌||◌, Bool, true, false, not, List, All, AllPairs, Contains, Option, None, Some, count_by, filter, nat_le, sum_by}
use Rattle.std.specs.List.{range_with_len, list_all, list_any}
use Rattle.slack_base.specs.declared.messages.Words.{Words}
use Rattle.slack_base.specs.Inboxes.{CoreValue}
use Rattle.mesi_cache.specs.declared.lines.HeldLine.{HeldLine}
use Rattle.mesi_cache.specs.Lines.{may_write}
use Rattle.bus_model.specs.Channels.{ChannelValue, count_of}
use Rattle.timed_core.specs.Accesses.{held_in}
use Rattle.timed_core.specs.Cores.{HartValue}
use Rattle.timed_core.specs.Posts.{is_modified}
use Rattle.target_law.specs.Cycles.{StateValue}
use Rattle.coherence_law.specs.Coherent.{words_on, IsCoherent}

-- the same four words
abbrev pub are_same : Words → Words → Bool
are_same a b = (a.w0 == b.w0) && ((a.w1 == b.w1) && ((a.w2 == b.w2) && (a.w3 == b.w3)))

-- there are words, and they are these
abbrev pub are_these : Words → Option Words → Bool
are_these words None = false
are_these words (Some others) = are_same others words

-- memory has these words of the line
abbrev pub is_in_memory : List ChannelValue → ℕ → Words → Bool
is_in_memory chans line words = list_any (λ chan. are_these words (words_on line chan)) chans

-- a core holds the line, and may write it
abbrev pub is_held : Option HeldLine → Bool
is_held None = false
is_held (Some h) = true

abbrev pub is_writable : Option HeldLine → Bool
is_writable None = false
is_writable (Some h) = may_write h.held

-- a core that holds the line has written it, or has memory's words of it
abbrev pub is_true_to : List ChannelValue → ℕ → Option HeldLine → Bool
is_true_to chans line None = true
is_true_to chans line (Some h) = is_modified h.held || is_in_memory chans line h.words

-- at most one core holds the line, or none may write it
abbrev pub is_alone : List (CoreValue HartValue) → ℕ → Bool
is_alone cores line =
    nat_le (count_by (λ core. is_held (held_in core.inner.cache line)) cores) 1 || not (list_any (λ core. is_writable (held_in core.inner.cache line)) cores)

unfoldable pub is_coherent : StateValue HartValue ChannelValue → ℕ → Bool
is_coherent m line = is_alone m.cores line && list_all (λ core. is_true_to m.chans line (held_in core.inner.cache line)) m.cores

-- how many lines the channels have
abbrev pub lines_in : List ChannelValue → ℕ
lines_in chans = sum_by count_of chans

-- the lines of memory that are not coherent, in rising order
abbrev pub breaks_of : StateValue HartValue ChannelValue → List ℕ
breaks_of m = filter (λ line. not (is_coherent m line)) (range_with_len 0 (lines_in m.chans))

-- the test passes exactly where the line is coherent
pub record IsTest (m : StateValue HartValue ChannelValue) (line : ℕ) : Type 0 where
  pub complete : IsCoherent m line → is_coherent m line ≡ true
  pub sound : is_coherent m line ≡ true → IsCoherent m line

abbrev pub AllTests : Type 0
AllTests = (m : StateValue HartValue ChannelValue) (line : ℕ) → IsTest m line

-- the line is one of memory, and isn't coherent
pub record IsBroken (m : StateValue HartValue ChannelValue) (line : ℕ) : Type 0 where
  pub inside : line < lines_in m.chans
  pub broken : IsCoherent m line → ⊥

-- the list has all lines that are broken, and no other, in rising order
pub record AreBreaks (m : StateValue HartValue ChannelValue) (lines : List ℕ) : Type 0 where
  pub rising : AllPairs (λ low high. low < high) lines
  pub each : All (IsBroken m) lines
  pub all : (line : ℕ) → IsBroken m line → Contains lines line

abbrev pub AllListed : Type 0
AllListed = (m : StateValue HartValue ChannelValue) → AreBreaks m (breaks_of m)
