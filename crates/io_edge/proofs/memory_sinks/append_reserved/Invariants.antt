use Rattle.std.proofs.Common.{◌≡◌, ◌++◌, take}
use Rattle.std.specs.Vec.{vec_capacity}
use Rattle.io_edge.proofs.memory_sinks.append_reserved.Given as goal

-- the bytes so far are appended
abbrev pub invariant-loop-byte : goal.invariant-loop-byte
invariant-loop-byte l = (l.bytes.items ≡ l.initial.bytes.items ++ take l.byte-index l.piece) × (vec_capacity l.bytes ≡ vec_capacity l.initial.bytes)
