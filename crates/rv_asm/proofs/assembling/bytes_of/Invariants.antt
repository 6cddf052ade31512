use Rattle.std.proofs.Common.{length}
use Rattle.rv_asm.specs.LabelTables.{places_in}
use Rattle.rv_asm.proofs.SoFar.{IsSoFar}
use Rattle.rv_asm.proofs.assembling.bytes_of.Given as goal

abbrev pub invariant-loop-rest : goal.invariant-loop-rest
invariant-loop-rest l =
    IsSoFar (places_in l.labels) l.fn.text (places_in l.before) l.number l.place l.rest l.bytes.items

abbrev pub decreases-loop-rest : goal.decreases-loop-rest
decreases-loop-rest l = length l.rest
