use Rattle.std.proofs.Common.{◌≡◌, length}
use Rattle.bus_model.specs.Journals.{restored}
use Rattle.bus_model.proofs.lines.Lines.put_back.Given as goal

-- what is left of the journal leads to the same entries
abbrev pub invariant-loop-place : goal.invariant-loop-place
invariant-loop-place l = restored l.self.entries l.self.journal ≡ restored l.fn.self.entries l.fn.self.journal

abbrev pub decreases-loop-place : goal.decreases-loop-place
decreases-loop-place l = length l.self.journal
