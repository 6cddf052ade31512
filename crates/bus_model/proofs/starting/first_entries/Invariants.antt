use Rattle.std.proofs.Common.{◌≡◌, ◌+◌, ◌*◌, map}
use Rattle.std.specs.List.{range_with_len}
use Rattle.slack_base.specs.Numbers.{numbers_of}
use Rattle.bus_model.specs.Starting.{first_entry}
use Rattle.bus_model.proofs.starting.first_entries.Given as goal

-- the entries of the lines so far
abbrev pub invariant-loop-place : goal.invariant-loop-place
invariant-loop-place l =
    l.entries.items ≡ map (λ place. first_entry (numbers_of l.config) l.image (l.index + l.config.buses * place)) (range_with_len 0 l.place)
