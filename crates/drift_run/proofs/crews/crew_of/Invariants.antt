use Rattle.std.proofs.Common.{◌≡◌, ◌++◌, List}
use Rattle.core_gate.specs.declared.pacers.Pacer.{Pacer}
use Rattle.drift_run.specs.Crews.{IsCrew}
use Rattle.drift_run.proofs.crews.crew_of.Given as goal

-- the crew so far is of the first cores and pacers, and the others are left
abbrev pub invariant-loop-core : goal.invariant-loop-core
invariant-loop-core g l = (front : List g.row.C.Denot) × (first : List Pacer) × (front ++ l.core-iterator.a.rest.items ≡ l.fn.cores.items) × (first ++ l.core-iterator.b.rest.items ≡ l.fn.pacers.items) × IsCrew front first l.crew
