use Rattle.std.proofs.Common.{◌-◌, List, length}
use Rattle.sim_words.specs.declared.options.OptionName.{OptionName}
use Rattle.sim_words.proofs.SoFar.{IsSoFar}
use Rattle.sim_words.proofs.pairs.settings_in.Given as goal

-- some options stood in the pairs so far
abbrev pub invariant-loop-place : goal.invariant-loop-place
invariant-loop-place l = (before : List OptionName) × IsSoFar l.command l.words l.place l.given.flags l.settings before

abbrev pub decreases-loop-place : goal.decreases-loop-place
decreases-loop-place l = length l.words - l.place
