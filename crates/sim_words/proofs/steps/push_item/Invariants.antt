use Rattle.std.proofs.Common.{◌≡◌, ◌++◌, replicate}
use Rattle.sim_words.proofs.steps.push_item.Given as goal

-- the step was put so often
abbrev pub invariant-loop : goal.invariant-loop
invariant-loop l = l.steps ≡ l.initial.steps ++ replicate l.counter l.item.step
