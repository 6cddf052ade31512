use Rattle.std.proofs.Common.{◌≡◌, length}
use Rattle.core_actor.specs.Actors.{Went}
use Rattle.core_actor.proofs.actors.CoreActor.take_proper.Given as goal

abbrev pub invariant-loop-self : goal.invariant-loop-self
invariant-loop-self g l = record {
  went : Went (g.T.Target.rules l.target) (g.T.Target.owns l.target) g.T.Target.values l.end l.fn.self l.self;
  clock : l.self.lane.clock ≡ l.fn.self.lane.clock;
  ends : (l.self.asks ≡ l.fn.self.asks) × (l.self.posts ≡ l.fn.self.posts);
}

abbrev pub decreases-loop-self : goal.decreases-loop-self
decreases-loop-self g l = length l.self.lane.posts.items
