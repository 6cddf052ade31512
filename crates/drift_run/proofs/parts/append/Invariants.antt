use Rattle.std.proofs.Common.{◌≡◌, ◌++◌, take}
use Rattle.drift_run.proofs.parts.append.Given as goal

-- the violations so far stand behind the others
abbrev pub invariant-loop-one : goal.invariant-loop-one
invariant-loop-one l = l.list ≡ l.fn.list ++ take l.one-index l.more
