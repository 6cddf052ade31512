use Rattle.std.proofs.Common.{◌≡◌, None, map}
use Rattle.std.specs.List.{All, range_with_len}
use Rattle.slack_base.specs.Numbers.{numbers_of}
use Rattle.lockstep_model.specs.Start.{first_core_value}
use Rattle.lockstep_model.specs.Views.{cores_of}
use Rattle.lockstep_model.proofs.starting.first_cores.Given as goal

-- the cores so far
abbrev pub invariant-loop-number : goal.invariant-loop-number
invariant-loop-number l =
    record {
      cores : cores_of l.cores ≡ map (first_core_value (numbers_of l.config) l.entry) (range_with_len 0 l.number);
      unmarked : All (λ core. core.saved ≡ None) l.cores;
    }
