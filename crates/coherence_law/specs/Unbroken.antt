-- Lockstep keeps every line coherent.
use Rattle.std.specs.Prelude.{ℕ, ◌≡◌, [], None}
use Rattle.slack_base.specs.declared.configs.Config.{Config}
use Rattle.slack_base.specs.declared.configs.RawConfig.{RawConfig}
use Rattle.slack_base.specs.declared.images.Image.{Image}
use Rattle.slack_base.specs.Bounds.{fault_of}
use Rattle.slack_base.specs.Numbers.{numbers_of}
use Rattle.bus_model.specs.Channels.{ChannelValue}
use Rattle.timed_core.specs.Code.{code_of}
use Rattle.timed_core.specs.Cores.{HartValue}
use Rattle.target_law.specs.Cycles.{StateValue, lockstep}
use Rattle.lockstep_model.specs.Rules.{rules_of}
use Rattle.lockstep_model.specs.Start.{start_of}
use Rattle.coherence_law.specs.Breaks.{breaks_of}
use Rattle.coherence_law.specs.Coherent.{IsCoherent}

-- the machine of an image after k cycles from the start
abbrev pub machine_after : RawConfig → Image → ℕ → StateValue HartValue ChannelValue
machine_after config image k = lockstep (rules_of config (code_of image config)) (start_of config image) k

-- for numbers that break no bound, and every image: every line is coherent after every number of cycles
abbrev pub AllCoherent : Type 0
AllCoherent = (config : RawConfig) (image : Image) (k line : ℕ) → fault_of config ≡ None → IsCoherent (machine_after config image k) line

-- so no line breaks
abbrev pub NoBreaks : Type 0
NoBreaks = (config : RawConfig) (image : Image) (k : ℕ) → fault_of config ≡ None → breaks_of (machine_after config image k) ≡ []

-- the same of a configuration, whose numbers are within their bounds
abbrev pub NoBreaksOf : Type 0
NoBreaksOf = (config : Config) (image : Image) (k : ℕ) → breaks_of (machine_after (numbers_of config) image k) ≡ []
