use Rattle.std.proofs.Common.{◌≡◌, ◌∙◌, drop, ap, arith}
use Rattle.first_memory.specs.Memory.{reach}
use Rattle.first_memory.proofs.Reached.{all-reached}
use Rattle.first_memory.proofs.loading.lines_reached.Goals as goal

pub returns-clause-inside : goal.returns-clause-inside
returns-clause-inside c =
    let segments = c.args.image.now.segments in
    let done : c.loop-place.place ≡ 0 = omega arith in
    let same : c.loop-place.reached ≡ reach segments c.args.base =
    c.loop-place.invariant.reached ∙ ap (λ n. reach (drop n c.as_slice-segments.result.now) c.args.base) done ∙ ap (λ xs. reach xs c.args.base) c.as_slice-segments.ensures in
    all-reached segments c.args.base _ (omega arith)
