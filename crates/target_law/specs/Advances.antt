-- A core that goes on by itself.
use Rattle.std.specs.Prelude.{◌≡◌, ℕ, ◌-◌, ◌<◌, ◌≤◌, []}
use Rattle.slack_base.specs.Inboxes.{CoreValue}
use Rattle.target_law.specs.Cycles.{ticks_of}
use Rattle.target_law.specs.Rules.{Rules}

module _ {Inner Chan : Type 0} (rules : Rules Inner Chan) where
  -- a core may tick from one clock up to another that is no later than `until`: it ticks, and only in the last of its ticks
  -- it sends something
  pub record MayAdvance (from until : ℕ) (core : CoreValue Inner) (clock : ℕ) : Type 0 where
    pub ticks : from < clock
    pub within : clock ≤ until
    pub last : (ticks_of rules from (clock - from - 1) core).1 ≡ []
