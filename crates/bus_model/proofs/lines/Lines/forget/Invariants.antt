use Rattle.std.proofs.Common.{◌≡◌, length}
use Rattle.bus_model.proofs.lines.Lines.forget.Given as goal

abbrev pub invariant-loop : goal.invariant-loop
invariant-loop l = l.self.entries ≡ l.fn.self.entries

abbrev pub decreases-loop : goal.decreases-loop
decreases-loop l = length l.self.journal
