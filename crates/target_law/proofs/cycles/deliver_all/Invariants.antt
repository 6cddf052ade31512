use Rattle.std.proofs.Common.{◌≡◌, map, drop, length}
use Rattle.target_law.specs.Cycles.{delivered}
use Rattle.target_law.specs.Numbered.{AllNumbered}
use Rattle.target_law.proofs.cycles.deliver_all.Given as goal

-- what is left to be delivered leads from here to where all of it led from the first
abbrev pub invariant-loop-post : goal.invariant-loop-post
invariant-loop-post g l =
    let rules = g.T.Target.rules l.target in
    let here = map g.T.Target.values.core l.cores in
    record {
      count : length l.cores ≡ rules.cores;
      numbers : AllNumbered (λ place core. rules.core_number core.inner ≡ place) 0 here;
      cores : delivered here (drop l.post-index l.posts) ≡ delivered (map g.T.Target.values.core l.fn.cores) l.posts;
    }
