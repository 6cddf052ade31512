use Rattle.std.proofs.Common.{◌≡◌, sym, ◌<◌, length, ◌∙◌, ap, arith}
use Rattle.std.specs.Str.Lines.{lines}
use Rattle.std.proofs.lemmas.Bool.Decides.{nat_tests}
use Rattle.rv_asm.specs.Labels.{with_labels}
use Rattle.rv_asm.specs.LabelTables.{places_in}
use Rattle.rv_asm.specs.Lines.{names, statement, places_from}
use Rattle.rv_asm.proofs.Steps.{places_step, places_end, rest_shorter, moved, moved_le}
use Rattle.rv_asm.proofs.assembling.labels_of.Goals as goal

pub loop-rest-smaller : goal.loop-rest-smaller
loop-rest-smaller c =
    let some : 0 < length c.loop-rest.rest.now = grind (arith, nat_tests) in
    omega (arith, rest_shorter c.loop-rest.rest.now some, ap length c.first_line.ensures.after)

pub loop-rest-preserved : goal.loop-rest-preserved
loop-rest-preserved c =
    let rest = c.loop-rest.rest.now in
    let some : 0 < length rest = grind (arith, nat_tests) in
    let defined = c.in_ok-labelled.ensures.places ∙ ap (λ line. with_labels c.loop-rest.place (places_in c.loop-rest.labels) (names line)) c.first_line.ensures.line in
    let said = c.in_ok-labelled.ensures.statement ∙ ap statement c.first_line.ensures.line in
    let after = moved c.loop-rest.place c.place_after-place.result _ _ c.place_after-place.ensures said in
    let step = places_step (places_in c.loop-rest.labels) (places_in c.define_line.new.labels) c.loop-rest.place c.place_after-place.result rest some defined after in
    let near = moved_le c.loop-rest.place c.place_after-place.result _ c.place_after-place.ensures in (
      ap (λ r. places_from (places_in c.define_line.new.labels) c.place_after-place.result (lines r)) c.first_line.ensures.after ∙ step ∙ c.loop-rest.invariant.0,
      omega (arith, rest_shorter rest some, ap length c.first_line.ensures.after, near, c.loop-rest.invariant.1),
    )

pub returns : goal.returns
returns c =
    let none : length c.loop-rest.rest.now ≡ 0 = grind (arith, nat_tests) in
    sym (places_end (places_in c.loop-rest.labels) c.loop-rest.place c.loop-rest.rest.now none) ∙ c.loop-rest.invariant.0
