-- The invariant of the protocol of one line: what is true of it between any two steps, whatever the machine runs. Its
-- entry says who holds the line: no core, some that share it, one alone, or one that is to give it to another. Here m are
-- memory's words, and `settled` is the cycle from which on every Reply that was promised is applied.
use Rattle.std.specs.Prelude.{ℕ, ◌≡◌, ◌≢◌, ◌<◌, ◌≤◌, ◌⊎◌, Bool, true, false, Option, None, Some}
use Rattle.slack_base.specs.declared.bounds.TheConstants.{MOST_CORES}
use Rattle.slack_base.specs.declared.messages.Words.{Words}
use Rattle.mesi_cache.specs.declared.lines.Held.{Held}
use Rattle.mesi_cache.specs.declared.lines.Held.TheVariants.{Shared as S, Exclusive as E, Modified as M}
use Rattle.mesi_cache.specs.declared.lines.HeldLine.{HeldLine}
use Rattle.status_map.specs.declared.views.EntryKind.{EntryKind}
use Rattle.status_map.specs.declared.views.EntryKind.TheVariants.{Idle, Shared, Owned, Moving}
use Rattle.status_map.specs.Cores.{holds}
use Rattle.coherence_law.specs.Lines.{Want, Asked, Filling, Part, Line}

-- no Reply is on its way
abbrev pub NoReply : Want → Type 0
NoReply (Filling due exclusive words) = ⊥
NoReply _ = Unit {0}

-- no snoop is on its way to any core
abbrev pub NoSnoops : (ℕ → Part) → Type 0
NoSnoops parts = (c : ℕ) → (parts c).snoop ≡ None

-- a core that has nothing of the line: it doesn't hold it, and neither a Reply nor an Invalidate is on its way to it
pub record IsClear (p : Part) : Type 0 where
  pub held : p.held ≡ None
  pub reply : NoReply p.want
  pub invalidate : p.invalidate ≡ None

-- IDLE: every core is clear, and no snoop is on its way
abbrev pub IsIdle : (ℕ → Part) → Type 0
IsIdle parts = ((c : ℕ) → IsClear (parts c)) × NoSnoops parts

-- the core is in the set, and has one of the numbers that cores have
pub record IsMember (cores c : ℕ) : Type 0 where
  pub among : holds cores c ≡ true
  pub low : c < MOST_CORES

-- if the core holds the line at all, it is in the set and holds it Shared with memory's words
abbrev pub IsShareHeld : (m : Words) (cores c : ℕ) → Option HeldLine → Type 0
IsShareHeld m cores c None = Unit {0}
IsShareHeld m cores c (Some h) = (h.held ≡ S) × (h.words ≡ m) × IsMember cores c

-- if a Reply is on its way to the core at all, the core is in the set, and is to share memory's words
abbrev pub IsShareReply : (m : Words) (cores c : ℕ) → Want → Type 0
IsShareReply m cores c (Filling due exclusive words) = (exclusive ≡ false) × (words ≡ m) × IsMember cores c
IsShareReply m cores c _ = Unit {0}

pub record IsSharer (m : Words) (cores c : ℕ) (p : Part) : Type 0 where
  pub held : IsShareHeld m cores c p.held
  pub reply : IsShareReply m cores c p.want
  pub invalidate : p.invalidate ≡ None

-- SHARED: only cores of the set hold the line or are to have it, Shared and as memory has it, and neither an Invalidate nor
-- a snoop is on its way
abbrev pub IsShared : (m : Words) (cores : ℕ) → (ℕ → Part) → Type 0
IsShared m cores parts = ((c : ℕ) → IsSharer m cores c (parts c)) × NoSnoops parts

-- held alone: with memory's words, or written since
abbrev pub IsAloneAs : Words → Words → Held → Type 0
IsAloneAs m w S = ⊥
IsAloneAs m w E = w ≡ m
IsAloneAs m w M = Unit {0}

abbrev pub IsHeldAlone : Words → Option HeldLine → Type 0
IsHeldAlone m None = Unit {0}
IsHeldAlone m (Some h) = IsAloneAs m h.words h.held

-- the owner has had its Reply: it holds the line alone, or has lost it since, and every other core is clear
pub record IsThere (m : Words) (owner : ℕ) (parts : ℕ → Part) : Type 0 where
  pub held : IsHeldAlone m (parts owner).held
  pub reply : NoReply (parts owner).want
  pub invalidate : (parts owner).invalidate ≡ None
  pub others : (c : ℕ) → c ≢ owner → IsClear (parts c)

-- held Shared with memory's words, if at all
abbrev pub IsHeldShared : Words → Option HeldLine → Type 0
IsHeldShared m None = Unit {0}
IsHeldShared m (Some h) = (h.held ≡ S) × (h.words ≡ m)

-- the Reply that is on its way, if one is, shares memory's words, and is due before this cycle
abbrev pub IsReplyBefore : (m : Words) (end : ℕ) → Want → Type 0
IsReplyBefore m end (Filling due exclusive words) = (exclusive ≡ false) × (words ≡ m) × (due < end)
IsReplyBefore m end _ = Unit {0}

-- a core that shared the line leaves it: an Invalidate is on its way, due before this cycle, and until then the core may hold
-- the line as it was shared, or have its Reply on its way
pub record IsLeaving (m : Words) (end : ℕ) (p : Part) : Type 0 where
  pub due : ℕ
  pub invalidate : p.invalidate ≡ Some due
  pub before : due < end
  pub held : IsHeldShared m p.held
  pub reply : IsReplyBefore m due p.want

-- a core that is clear, or leaves the line before this cycle
abbrev pub IsGoing : (m : Words) (end : ℕ) → Part → Type 0
IsGoing m end p = IsClear p ⊎ IsLeaving m end p

-- the owner's Reply is on its way, with memory's words: until then it may hold the line as it was shared, and every other
-- core is clear or leaves the line before the Reply is due
pub record IsComing (m : Words) (owner : ℕ) (parts : ℕ → Part) : Type 0 where
  pub due : ℕ
  pub reply : (parts owner).want ≡ Filling due true m
  pub held : IsHeldShared m (parts owner).held
  pub invalidate : (parts owner).invalidate ≡ None
  pub others : (c : ℕ) → c ≢ owner → IsGoing m due (parts c)

-- OWNED: the owner has had its Reply, or it is on its way
abbrev pub IsOwned : (m : Words) (owner : ℕ) → (ℕ → Part) → Type 0
IsOwned m owner parts = IsThere m owner parts ⊎ IsComing m owner parts

-- MOVING: the line is owned, and one snoop is on its way, to the owner, due once every Reply is applied; the core that the
-- line is to go to is another one, which waits with no answer on its way
pub record IsMoving (m : Words) (settled owner requester : ℕ) (exclusive : Bool) (parts : ℕ → Part) : Type 0 where
  pub owned : IsOwned m owner parts
  pub due : ℕ
  pub snoop : (parts owner).snoop ≡ Some (due, exclusive)
  pub late : settled ≤ due
  pub only : (c : ℕ) → c ≢ owner → (parts c).snoop ≡ None
  pub asked : (parts requester).want ≡ Asked
  pub apart : requester ≢ owner
  pub low : requester < MOST_CORES

-- the cores have of the line what its entry says
abbrev pub IsOfKind : (m : Words) (settled : ℕ) → EntryKind → (ℕ → Part) → Type 0
IsOfKind m settled Idle parts = IsIdle parts
IsOfKind m settled (Shared cores) parts = IsShared m cores parts
IsOfKind m settled (Owned owner) parts = IsOwned m owner parts × NoSnoops parts
IsOfKind m settled (Moving owner requester exclusive) parts = IsMoving m settled owner requester exclusive parts

-- the Reply, the Invalidate or the snoop that is on its way, if one is, is due at this clock or later
abbrev pub IsDueReply : ℕ → Want → Type 0
IsDueReply t (Filling due exclusive words) = t ≤ due
IsDueReply t _ = Unit {0}

abbrev pub IsDueAt : ℕ → Option ℕ → Type 0
IsDueAt t None = Unit {0}
IsDueAt t (Some due) = t ≤ due

abbrev pub IsDueSnoop : ℕ → Option (ℕ × Bool) → Type 0
IsDueSnoop t None = Unit {0}
IsDueSnoop t (Some s) = t ≤ s.0

-- nothing that is on its way to the core is late
pub record IsPunctualPart (t : ℕ) (p : Part) : Type 0 where
  pub reply : IsDueReply t p.want
  pub invalidate : IsDueAt t p.invalidate
  pub snoop : IsDueSnoop t p.snoop

-- the Reply that is on its way, if one is, is due before the line is settled
abbrev pub IsSettled : ℕ → Want → Type 0
IsSettled settled (Filling due exclusive words) = due < settled
IsSettled settled _ = Unit {0}

-- THE INVARIANT of a line at clock t: nothing is late, every Reply is due before the line is settled, and the cores have of
-- the line what its entry says
pub record Invariant (t : ℕ) (x : Line) : Type 0 where
  pub punctual : (c : ℕ) → IsPunctualPart t (x.parts c)
  pub settled : (c : ℕ) → IsSettled x.entry.settled (x.parts c).want
  pub kind : IsOfKind x.entry.words x.entry.settled x.entry.kind x.parts
