use Rattle.std.proofs.Common.{◌≤◌, length, subst, arith}
use Rattle.bus_model.specs.Journals.{LinesValue}
use Rattle.bus_model.proofs.Flagging.{count_up-most}
use Rattle.bus_model.proofs.lines.Lines.noted.Goals as goal

pub returns-clause-few : goal.returns-clause-few
returns-clause-few c =
    subst (λ (v : LinesValue). c.len.result ≤ length v.entries) c.self.view_is
    (omega (arith, c.len.ensures, c.self.invariant.few, c.self.invariant.each, count_up-most c.self.inside.flags.items))
