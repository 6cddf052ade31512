use Rattle.std.proofs.Common.{◌-◌, ◌≤◌}
use Rattle.pacing.specs.Open.{IsOpen}
use Rattle.pacing.specs.Pieces.{UnderwayValue, ByPieces}
use Rattle.pacing.specs.Views.{underway_of}
use Rattle.pacing.proofs.underway.Underway.pieces.Given as goal

-- whatever the pieces that are left lead to from here, all pieces lead to from the first
abbrev pub invariant-loop-self : goal.invariant-loop-self
invariant-loop-self g l =
    let rules = g.T.Target.rules l.target in
    let now = underway_of g.T.Target.values l.self in
    record {
      here : IsOpen rules (g.T.Target.owns l.target) now;
      low : l.self.clock ≤ l.end;
      leads : (e : UnderwayValue g.T.Target.Inner g.T.Target.Channel) → ByPieces rules l.quantum l.end now e → ByPieces rules l.quantum l.end (underway_of g.T.Target.values l.fn.self) e;
    }

abbrev pub decreases-loop-self : goal.decreases-loop-self
decreases-loop-self g l = l.end - l.self.clock
