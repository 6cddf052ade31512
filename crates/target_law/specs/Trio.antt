-- A small target for tests: three cores that count the posts they get, and one channel that counts its asks.
use Rattle.std.specs.Prelude.{ℕ, ◌+◌, ◌%◌, ◌<◌, ◌==◌, ◌&&◌, List, [], ◌∷◌, nat_lt, nat_le, Option, Some, None, if◌then◌else◌}
use Rattle.slack_base.specs.declared.bounds.TheConstants.{TOP}
use Rattle.slack_base.specs.declared.messages.Ask.{Ask}
use Rattle.slack_base.specs.declared.messages.Ask.TheVariants.{Read}
use Rattle.slack_base.specs.declared.messages.Post.{Post}
use Rattle.slack_base.specs.declared.messages.PostKind.TheVariants.{Retry}
use Rattle.slack_base.specs.declared.stamps.Id.{Id}
use Rattle.slack_base.specs.Inboxes.{CoreValue}
use Rattle.slack_base.specs.Growing.{raised}
use Rattle.slack_base.specs.HighestIds.{later_of, clash_with}
use Rattle.slack_base.specs.Marks.{Marked}
use Rattle.slack_base.specs.Messages.{id_of}
use Rattle.target_law.specs.Cycles.{StateValue}
use Rattle.target_law.specs.Rules.{Rules, Owns}
use Rattle.target_law.specs.Values.{Values}

-- a core: its number, and what it counted
pub record TrioInner : Type 0 where
  pub number : ℕ
  pub count : ℕ

-- a channel: its number, what it counted, and the greatest id that it served since it was closed
pub record TrioChannel : Type 0 where
  pub number : ℕ
  pub total : ℕ
  pub highest : Option Id

-- one more for each post
abbrev pub raised_for : ℕ → List Post → ℕ
raised_for n [] = n
raised_for n (p ∷ posts) = raised_for (raised n) posts

-- the posts that are due are counted; a core asks at each multiple of its number plus 2
abbrev pub trio_tick : TrioInner → ℕ → List Post → TrioInner × List Ask
trio_tick core t due = (
  record core { count = raised_for core.count due },
  if t % (core.number + 2) == 0 then Read (record { cycle = t; core = core.number; number = 0 }) 0 ∷ [] else [],
)

-- the next core is told to ask again, two cycles after the ask
abbrev pub told_next : Ask → Post
told_next ask = record {
  to = ((id_of ask).core + 1) % 3;
  due = (id_of ask).cycle + 2;
  id = id_of ask;
  line = 0;
  kind = Retry;
}

-- an ask is counted, and the next core is told
abbrev pub trio_serve : TrioChannel → Ask → TrioChannel × List Post
trio_serve chan ask = (
  record { number = chan.number; total = raised chan.total; highest = Some (later_of chan.highest (id_of ask)) },
  told_next ask ∷ [],
)

-- an ask clashes with the greatest id since the channel was closed, where that is above its own
abbrev pub trio_clash : TrioChannel → Ask → Option Id
trio_clash chan ask = clash_with chan.highest (id_of ask)

abbrev pub trio_close : TrioChannel → TrioChannel
trio_close chan = record { number = chan.number; total = chan.total; highest = None }

abbrev pub trio_rules : Rules TrioInner TrioChannel
trio_rules = record {
  cores = 3;
  channels = 1;
  lookahead = 2;
  core_number = λ core. core.number;
  chan_number = λ chan. chan.number;
  is_proper_ask = λ ask. nat_lt (id_of ask).core 3 && nat_le (id_of ask).cycle TOP;
  is_proper_post = λ p. nat_lt p.to 3;
  channel_of = λ ask. 0;
  tick = trio_tick;
  serve = trio_serve;
  clash = trio_clash;
  close = trio_close;
  touched = λ core p. TOP;
  has_ended = λ core. nat_le 5 core.count;
}

-- the target's own cores and channels are those with its numbers
abbrev pub trio_owns : Owns TrioInner TrioChannel
trio_owns = record { core = λ core. core.number < 3; chan = λ chan. chan.number < 1 }

-- cores and channels are seen as their present values and those at their marks
abbrev pub trio_values : Values (Marked (CoreValue TrioInner)) (Marked TrioChannel) TrioInner TrioChannel
trio_values = record {
  core = λ core. core.value;
  chan = λ chan. chan.value;
  saved_core = λ core. core.saved;
  saved_chan = λ chan. chan.saved;
}

-- a core, and the channel, before the first cycle: nothing was counted, and no post waits
abbrev pub first_core : ℕ → CoreValue TrioInner
first_core number = record { inner = record { number = number; count = 0 }; inbox = [] }

abbrev pub first_chan : ℕ → TrioChannel
first_chan number = record { number = number; total = 0; highest = None }

abbrev pub trio_start : StateValue TrioInner TrioChannel
trio_start = record {
  clock = 0;
  cores = first_core 0 ∷ first_core 1 ∷ first_core 2 ∷ [];
  chans = first_chan 0 ∷ [];
}
