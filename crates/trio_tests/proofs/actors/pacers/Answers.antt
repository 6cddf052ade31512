use Rattle.std.proofs.Common.{◌≡◌, ◌∙◌, Some}
use Rattle.std.specs.List.{slice_get}
use Rattle.core_gate.specs.declared.pacers.Pacer.{Pacer}
use Rattle.trio_tests.proofs.actors.pacers.Goals as goal

pub returns : goal.returns
returns c =
    let of = c.in_ok-table.ensures.of in
    let given = c.in_ok-pacers.ensures.pacers in record {
      count = given.0 ∙ of.0;
      first = λ (p : Pacer) (e : slice_get c.in_ok-pacers.pacers 0 ≡ Some p). ((given.1 0 p e).1, (given.1 0 p e).2 ∙ of.1);
    }
