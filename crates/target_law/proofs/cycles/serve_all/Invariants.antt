use Rattle.std.proofs.Common.{◌≡◌, ◌++◌, map, drop, length}
use Rattle.target_law.specs.Cycles.{through}
use Rattle.target_law.specs.Numbered.{AllNumbered}
use Rattle.target_law.specs.Proper.{IsChanOf}
use Rattle.target_law.proofs.cycles.serve_all.Given as goal

-- what is left to be served leads from here to where all of it led from the first
abbrev pub invariant-loop-ask : goal.invariant-loop-ask
invariant-loop-ask g l =
    let rules = g.T.Target.rules l.target in
    let here = map g.T.Target.values.chan l.chans in
    let first = map g.T.Target.values.chan l.fn.chans in
    record {
      count : length l.chans ≡ rules.channels;
      are : AllNumbered (IsChanOf rules (g.T.Target.owns l.target)) 0 here;
      chans : (through rules here (drop l.ask-index l.asks)).chans ≡ (through rules first l.asks).chans;
      posts : l.posts ++ (through rules here (drop l.ask-index l.asks)).posts ≡ l.fn.posts ++ (through rules first l.asks).posts;
    }
