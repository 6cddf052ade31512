use Rattle.std.proofs.Common.{◌≡◌, ◌++◌, take}
use Rattle.std.specs.List.{flat_map}
use Rattle.pacing.proofs.turns.gather.Given as goal

-- the asks of the lanes so far are appended
abbrev pub invariant-loop-lane : goal.invariant-loop-lane
invariant-loop-lane g l = l.asks.items ≡ l.fn.asks.items ++ flat_map (λ lane. lane.asks) (take l.lane-index l.lanes)
