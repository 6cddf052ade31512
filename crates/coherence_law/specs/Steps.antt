-- The steps of the protocol of one line: what a core does with it, and what its bus does.
use Rattle.std.specs.Prelude.{ℕ, Bool, None, Some, if◌then◌else◌}
use Rattle.std.specs.Option.{option_map}
use Rattle.slack_base.specs.declared.messages.Words.{Words}
use Rattle.slack_base.specs.declared.messages.Ask.{Ask}
use Rattle.mesi_cache.specs.declared.lines.Held.TheVariants.{Shared as S, Exclusive as E, Modified as M}
use Rattle.mesi_cache.specs.declared.lines.HeldLine.{HeldLine}
use Rattle.status_map.specs.declared.views.Delays.{Delays}
use Rattle.status_map.specs.Table.{serve}
use Rattle.coherence_law.specs.Invariant.{Invariant}
use Rattle.coherence_law.specs.Lines.{Nothing, Asked, Part, Line, changed, all_received, AreFresh}

-- the line with the part of a core changed
abbrev pub with_part : ℕ → Part → Line → Line
with_part c p x = record x { parts = changed c p x.parts }

-- a Reply is applied: the core holds the line, and wants no more of it
abbrev pub filled_part : Bool → Words → Part → Part
filled_part exclusive words p = record p { held = Some (record { held = if exclusive then E else S; words = words }); want = Nothing }

-- a Retry is applied: the core wants nothing, and may ask again
abbrev pub retried_part : Part → Part
retried_part p = record p { want = Nothing }

-- an Invalidate is applied: the core doesn't hold the line
abbrev pub invalidated_part : Part → Part
invalidated_part p = record p { held = None; invalidate = None }

-- the line falls out of the cache
abbrev pub lost_part : Part → Part
lost_part p = record p { held = None }

-- a word of the line is written: it has these words then
abbrev pub written_part : Words → Part → Part
written_part words p = record p { held = Some (record { held = M; words = words }) }

abbrev pub shared_held : HeldLine → HeldLine
shared_held h = record h { held = S }

-- a snoop is applied: the line leaves, or is held Shared
abbrev pub snooped_part : Bool → Part → Part
snooped_part own p = record p { held = if own then None else option_map shared_held p.held; snoop = None }

-- an access misses: the core waits for the line
abbrev pub asking_part : Part → Part
asking_part p = record p { want = Asked }

-- an ask is served with this grant: the entry is the one of the table, and the posts of the table are on their way
abbrev pub served_line : Delays → ℕ → Ask → Line → Line
served_line d grant ask x = record { entry = (serve d grant ask x.entry).entry; parts = all_received x.parts (serve d grant ask x.entry).posts }

-- once an ask is served each of its posts found room, and the invariant holds
pub record IsServed (t : ℕ) (d : Delays) (grant : ℕ) (ask : Ask) (x : Line) : Type 0 where
  pub fresh : AreFresh x.parts (serve d grant ask x.entry).posts
  pub kept : Invariant t (served_line d grant ask x)
