use Rattle.std.proofs.Common.{rules}
use Rattle.rv_asm.specs.LabelTables.{places_in}
use Rattle.rv_asm.proofs.labels.Labels.place_of.Goals as goal

pub returns : goal.returns
unfolding places_in
returns c = search rules
