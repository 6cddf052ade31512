use Rattle.std.proofs.Common.{◌≡◌, ◌++◌, map, take, length}
use Rattle.target_law.specs.Cycles.{through}
use Rattle.target_law.specs.Numbered.{AllNumbered}
use Rattle.target_law.specs.Proper.{IsChanOf}
use Rattle.pacing.proofs.turns.serve_all.Given as goal

-- the asks so far were served
abbrev pub invariant-loop-ask : goal.invariant-loop-ask
invariant-loop-ask g l =
    let rules = g.T.Target.rules l.target in
    let view = g.T.Target.values.chan in
    let out = through rules (map view l.fn.chans.items) (take l.ask-index l.asks) in
    record {
      count : length l.chans.items ≡ rules.channels;
      are : AllNumbered (IsChanOf rules (g.T.Target.owns l.target)) 0 (map view l.chans.items);
      chans : map view l.chans.items ≡ out.chans;
      served : l.served ≡ l.fn.served ++ take l.ask-index l.asks;
      clashes : l.clashes ≡ l.fn.clashes ++ out.clashes;
      posts : l.posts ≡ l.fn.posts ++ out.posts;
    }
