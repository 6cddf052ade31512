-- Each step of the protocol of one line keeps the invariant, and the invariant makes the line coherent. Of a grant it is
-- assumed alone that it isn't before the clock.
use Rattle.std.specs.Prelude.{ℕ, ◌≡◌, ◌≢◌, ◌<◌, ◌≤◌, Bool, true, false, Option, None, Some}
use Rattle.std.specs.Option.{option_map}
use Rattle.slack_base.specs.declared.bounds.TheConstants.{MOST_CORES}
use Rattle.slack_base.specs.declared.stamps.Id.{Id}
use Rattle.slack_base.specs.declared.messages.Words.{Words}
use Rattle.slack_base.specs.declared.messages.Ask.TheVariants.{Read, ReadOwn, WriteBack, Flush}
use Rattle.mesi_cache.specs.declared.lines.Held.TheVariants.{Modified as M}
use Rattle.mesi_cache.specs.declared.lines.HeldLine.{HeldLine}
use Rattle.mesi_cache.specs.Lines.{may_write}
use Rattle.status_map.specs.declared.views.Delays.{Delays}
use Rattle.coherence_law.specs.Invariant.{Invariant, IsPunctualPart}
use Rattle.coherence_law.specs.Lines.{Nothing, Filling, Retrying, Line}
use Rattle.coherence_law.specs.Steps.{with_part, filled_part, retried_part, invalidated_part, lost_part, written_part, snooped_part, asking_part, IsServed}

-- a core that may write the line is the only one that holds it, and a core that hasn't written it has memory's words
pub record AreCoherent (m : Words) (held : ℕ → Option HeldLine) : Type 0 where
  pub alone : (c k : ℕ) (h : HeldLine) → held c ≡ Some h → may_write h.held ≡ true → k ≢ c → held k ≡ None
  pub same : (c : ℕ) (h : HeldLine) → held c ≡ Some h → h.held ≢ M → h.words ≡ m

abbrev pub Coherent : Type 0
Coherent = (t : ℕ) (x : Line) → Invariant t x → AreCoherent x.entry.words (λ c. (x.parts c).held)

-- a Reply that is due is applied
abbrev pub Fills : Type 0
Fills = (t c due : ℕ) (exclusive : Bool) (words : Words) (x : Line)
    → (x.parts c).want ≡ Filling due exclusive words → due ≤ t
    → Invariant t x → Invariant t (with_part c (filled_part exclusive words (x.parts c)) x)

-- a Retry is applied
abbrev pub Retries : Type 0
Retries = (t c due : ℕ) (x : Line) → (x.parts c).want ≡ Retrying due → Invariant t x → Invariant t (with_part c (retried_part (x.parts c)) x)

-- an Invalidate that is due is applied
abbrev pub Invalidates : Type 0
Invalidates = (t c due : ℕ) (x : Line) → (x.parts c).invalidate ≡ Some due → due ≤ t
    → Invariant t x → Invariant t (with_part c (invalidated_part (x.parts c)) x)

-- a line that wasn't written falls out of a cache
abbrev pub Losses : Type 0
Losses = (t c : ℕ) (h : HeldLine) (x : Line) → (x.parts c).held ≡ Some h → h.held ≢ M
    → Invariant t x → Invariant t (with_part c (lost_part (x.parts c)) x)

-- a core writes a line that it may write
abbrev pub Writes : Type 0
Writes = (t c : ℕ) (h : HeldLine) (words : Words) (x : Line) → (x.parts c).held ≡ Some h → may_write h.held ≡ true
    → Invariant t x → Invariant t (with_part c (written_part words (x.parts c)) x)

-- a line that was written falls out of a cache, and its WriteBack is served
abbrev pub WritesBack : Type 0
WritesBack = (t c grant line : ℕ) (d : Delays) (id : Id) (h : HeldLine) (x : Line) → (x.parts c).held ≡ Some h → h.held ≡ M → id.core ≡ c
    → Invariant t x → IsServed t d grant (WriteBack id line h.words) (with_part c (lost_part (x.parts c)) x)

-- a snoop that is due is applied, and its Flush is served
abbrev pub Snoops : Type 0
Snoops = (t c due grant line : ℕ) (own : Bool) (d : Delays) (id : Id) (x : Line) → (x.parts c).snoop ≡ Some (due, own) → due ≤ t
    → t ≤ grant → id.core ≡ c → c < MOST_CORES
    → Invariant t x → IsServed t d grant (Flush id line (option_map (λ h. h.words) (x.parts c).held)) (with_part c (snooped_part own (x.parts c)) x)

-- a core that doesn't hold the line misses it to read, and its Read is served
abbrev pub Reads : Type 0
Reads = (t c grant line : ℕ) (d : Delays) (id : Id) (x : Line) → (x.parts c).held ≡ None → (x.parts c).want ≡ Nothing
    → t ≤ grant → id.core ≡ c → c < MOST_CORES
    → Invariant t x → IsServed t d grant (Read id line) (with_part c (asking_part (x.parts c)) x)

-- the line isn't held so that it may be written
abbrev pub IsUnwritable : Option HeldLine → Type 0
IsUnwritable None = Unit {0}
IsUnwritable (Some h) = may_write h.held ≡ false

-- a core that may not write the line misses it to write, and its ReadOwn is served: a snoop comes sooner than memory
abbrev pub Owns : Type 0
Owns = (t c grant line : ℕ) (d : Delays) (id : Id) (x : Line) → IsUnwritable (x.parts c).held → (x.parts c).want ≡ Nothing
    → t ≤ grant → id.core ≡ c → c < MOST_CORES → d.snoop < d.memory
    → Invariant t x → IsServed t d grant (ReadOwn id line) (with_part c (asking_part (x.parts c)) x)

-- the clock goes on to where nothing is late
abbrev pub Clocks : Type 0
Clocks = (t s : ℕ) (x : Line) → ((c : ℕ) → IsPunctualPart s (x.parts c)) → Invariant t x → Invariant s x
