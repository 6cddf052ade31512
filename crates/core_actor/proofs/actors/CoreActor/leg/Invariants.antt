use Rattle.std.proofs.Common.{◌+◌, ◌-◌, ◌*◌, ◌<◌, ◌≤◌, ◌⊎◌, ℕ, IsTrue, IsFalse}
use Rattle.core_actor.specs.Actors.{HasTurned, Went}
use Rattle.core_actor.proofs.actors.CoreActor.leg.Given as goal

-- after a turn messages have passed, and after an idle turn the core could go no further
abbrev pub invariant-loop-self : goal.invariant-loop-self
invariant-loop-self g l = record {
  went : Went (g.T.Target.rules l.target) (g.T.Target.owns l.target) g.T.Target.values l.end l.fn.self l.self;
  turned : l.fn.self.lane.clock < l.self.lane.clock + l.idle → HasTurned (g.T.Target.rules l.target) l.fn.self l.self;
  unheld : (t : ℕ) → l.fn.self.lane.clock ≤ t → t < l.self.lane.clock → IsFalse (g.G.Gate.must_hold l.gate l.fn.self.pacer.number t);
  idle : l.idle ≤ l.patience + 1;
  held : 0 < l.idle → (l.self.pacer.seen + l.self.pacer.slack ≤ l.self.lane.clock) ⊎ IsTrue (g.G.Gate.may_hold l.gate l.fn.self.pacer.number l.self.lane.clock);
}

abbrev pub decreases-loop-self : goal.decreases-loop-self
decreases-loop-self g l = (l.end - l.self.lane.clock) * (l.patience + 2) + ((l.patience + 1) - l.idle)
