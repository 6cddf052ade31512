use Rattle.core_actor.specs.Actors.{Ran}
use Rattle.target_law.proofs.OneByOne.{Changed}
use Rattle.drift_run.proofs.legs.legs_in_turn.Given as goal

-- the legs of the cores so far have run
abbrev pub invariant-loop-actor : goal.invariant-loop-actor
invariant-loop-actor g l = Changed (Ran (g.T.Target.rules l.target) (g.T.Target.owns l.target) g.T.Target.values (record { may = g.G.Gate.may_hold l.gate; must = g.G.Gate.must_hold l.gate }) l.end) l.actor-index l.fn.actors l.actors
