-- What contracts see of a stored core and of a stored channel.
use Rattle.std.specs.Prelude.{Option}
use Rattle.slack_base.specs.Inboxes.{CoreValue}

pub record Values (Core Chan Inner Channel : Type 0) : Type 0 where
  pub core : Core → CoreValue Inner
  pub chan : Chan → Channel
  -- the value at the mark, where there is one
  pub saved_core : Core → Option (CoreValue Inner)
  pub saved_chan : Chan → Option Channel
