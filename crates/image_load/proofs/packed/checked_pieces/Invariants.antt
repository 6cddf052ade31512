use Rattle.image_load.proofs.PieceSteps.{IsUpTo}
use Rattle.image_load.proofs.packed.checked_pieces.Given as goal

-- the pieces so far have no fault, and those that are left come behind them
abbrev pub invariant-loop-index : goal.invariant-loop-index
invariant-loop-index l = IsUpTo l.config.base l.config.memory l.bytes l.header l.loads l.index l.offset
