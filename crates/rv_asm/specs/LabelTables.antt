-- What a table of labels says.
use Rattle.std.specs.BTreeMap.{get_by}
use Rattle.std.specs.Cmp.Lexicographic.{slice_cmp}
use Rattle.std.specs.Ordering.{nat_cmp}
use Rattle.rv_asm.specs.declared.labels.Labels.{Labels}
use Rattle.rv_asm.specs.Operands.{Places}

unfoldable pub places_in : Labels → Places
places_in labels name = get_by (λ k. slice_cmp nat_cmp name k.now) labels.places
