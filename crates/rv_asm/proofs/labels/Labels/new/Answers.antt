use Rattle.std.proofs.Common.{ap}
use Rattle.std.specs.Map.{lookup}
use Rattle.std.specs.BTreeMap.{is_at}
use Rattle.std.specs.Cmp.Lexicographic.{slice_cmp}
use Rattle.std.specs.Ordering.{nat_cmp}
use mathlib.Core.Path.{fun_ext}
use Rattle.rv_asm.specs.LabelTables.{places_in}
use Rattle.rv_asm.proofs.labels.Labels.new.Goals as goal

pub returns : goal.returns
unfolding places_in
returns c = fun_ext (λ name. ap (lookup (is_at (λ k. slice_cmp nat_cmp name k.now))) c.new.ensures.empty)
