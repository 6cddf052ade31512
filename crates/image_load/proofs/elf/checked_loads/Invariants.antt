use Rattle.std.proofs.Common.{length}
use Rattle.image_load.specs.Elf.{program_headers, loads_of}
use Rattle.image_load.proofs.LoadSteps.{IsSplit, rest_of}
use Rattle.image_load.proofs.elf.checked_loads.Given as goal

-- the pieces so far have no fault, and those that are left come behind them
abbrev pub invariant-loop-index : goal.invariant-loop-index
invariant-loop-index l =
    IsSplit l.config.base l.config.memory (length l.bytes) (loads_of (program_headers l.bytes l.header)) l.loads (rest_of l.bytes l.header l.index)
