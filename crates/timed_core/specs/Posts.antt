-- What a post does to a core.
use Rattle.std.specs.Prelude.{ℕ, ◌==◌, Bool, true, false, Option, Some, None, if◌then◌else◌}
use Rattle.std.specs.Option.{option_map}
use Rattle.slack_base.specs.Growing.{raised}
use Rattle.slack_base.specs.declared.stamps.Id.{Id}
use Rattle.slack_base.specs.declared.messages.Words.{Words}
use Rattle.slack_base.specs.declared.messages.Ask.{Ask}
use Rattle.slack_base.specs.declared.messages.Ask.TheVariants.{WriteBack, Flush}
use Rattle.slack_base.specs.declared.messages.PostKind.{PostKind}
use Rattle.slack_base.specs.declared.messages.PostKind.TheVariants.{Reply, Retry, SnoopShare, SnoopOwn, Invalidate}
use Rattle.mesi_cache.specs.declared.lines.Held.{Held}
use Rattle.mesi_cache.specs.declared.lines.Held.TheVariants.{Shared, Exclusive, Modified}
use Rattle.mesi_cache.specs.declared.lines.CacheLine.{CacheLine}
use Rattle.mesi_cache.specs.Lines.{filled}
use Rattle.mesi_cache.specs.Caches.{CacheValue, line_in, fill_line, victim_of, snoop_line}
use Rattle.timed_core.specs.Cores.{HartValue, line_number}
use Rattle.timed_core.specs.Touches.{touched_at}

-- a reservation in the line is lost
abbrev pub kept : (base line : ℕ) → Option ℕ → Option ℕ
kept base line None = None
kept base line (Some address) = if line_number base address == line then None else Some address

abbrev pub without_reservation : (base line : ℕ) → HartValue → HartValue
without_reservation base line core = record core { reservation = kept base line core.reservation }

abbrev pub is_modified : Held → Bool
is_modified Shared = false
is_modified Exclusive = false
is_modified Modified = true

-- a Modified victim is sent back
abbrev pub written_back : CacheLine → Id → HartValue → HartValue × Option Ask
written_back victim id core =
    if is_modified victim.held
    then (record core { counts = record core.counts { writebacks = raised core.counts.writebacks } }, Some (WriteBack id victim.line victim.words))
    else (core, None)

-- a line fell out of the cache, if one did
unfoldable pub evicted : ℕ → Option CacheLine → Id → HartValue → HartValue × Option Ask
evicted base None id core = (core, None)
evicted base (Some victim) id core = written_back victim id (without_reservation base victim.line core)

-- Reply: the line is filled with these words, Exclusive or Shared, and the core waits no longer
unfoldable pub replied : (base line : ℕ) → Bool → Words → Id → HartValue → HartValue × Option Ask
replied base line exclusive words id core =
    let new = filled line exclusive words in
    evicted base (victim_of core.cache new) id (record core { cache = fill_line core.cache new; waiting = false })

-- Retry: the core waits no longer
abbrev pub retried : HartValue → HartValue
retried core = record core { waiting = false; counts = record core.counts { retries = raised core.counts.retries } }

-- a snoop: another core takes the line (`own`), which then leaves, or reads it, which makes it Shared
abbrev pub snooped : ℕ → (own : Bool) → HartValue → HartValue
snooped line own core = record core { cache = snoop_line core.cache line own; counts = record core.counts { snoops = raised core.counts.snoops } }

-- another core takes the line: a reservation in it is lost too
abbrev pub given_up : (base line : ℕ) → HartValue → HartValue
given_up base line core = without_reservation base line (snooped line true core)

-- the line's words, if the cache holds it
abbrev pub flush_of : Id → ℕ → CacheValue → Ask
flush_of id line cache = Flush id line (option_map (λ l. l.words) (line_in cache line))

-- a post about a line, by its kind: a reply and a snoop touch the line's set, at the clock of the tick
unfoldable pub applied : PostKind → (base line : ℕ) → Id → HartValue → HartValue × Option Ask
applied (Reply exclusive words) base line id core = replied base line exclusive words id (touched_at id.cycle line core)
applied Retry base line id core = (retried core, None)
applied SnoopShare base line id core = (snooped line false (touched_at id.cycle line core), Some (flush_of id line core.cache))
applied SnoopOwn base line id core = (given_up base line (touched_at id.cycle line core), Some (flush_of id line core.cache))
applied Invalidate base line id core = (given_up base line core, None)
