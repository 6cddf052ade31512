use Rattle.std.proofs.Common.{◌≡◌, None, map}
use Rattle.std.specs.List.{All, range_with_len}
use Rattle.slack_base.specs.Numbers.{numbers_of}
use Rattle.bus_model.specs.Channels.{AsBus}
use Rattle.bus_model.specs.Starting.{first_bus}
use Rattle.target_law.specs.Numbered.{AllNumbered}
use Rattle.lockstep_model.specs.Start.{IsFirstChannel}
use Rattle.lockstep_model.specs.Views.{values_of}
use Rattle.lockstep_model.proofs.starting.first_buses.Given as goal

-- the buses so far
abbrev pub invariant-loop-number : goal.invariant-loop-number
invariant-loop-number l =
    record {
      chans : values_of l.chans ≡ map (λ number. AsBus (first_bus (numbers_of l.config) l.image number)) (range_with_len 0 l.number);
      each : AllNumbered (IsFirstChannel (numbers_of l.config)) 0 (values_of l.chans);
      unmarked : All (λ chan. chan.saved ≡ None) l.chans;
    }
