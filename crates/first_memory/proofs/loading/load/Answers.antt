use Rattle.std.proofs.Common.{◌≡◌, ◌+◌, ◌-◌, ◌∙◌, min, length, replicate, sym, refl, ap, arith}
use Rattle.first_memory.proofs.Segments.{length_rest, written_at}
use Rattle.first_memory.proofs.loading.load.Goals as goal

pub returns : goal.returns
returns c = λ k lt.
    let start = c.args.segment.now.address - c.args.base in
    let middle = start + c.len.result in
    let rest = c.min-end.result - middle in
    let upto : rest ≡ min (start + c.args.segment.now.size) (length c.args.bytes.now) - middle = omega arith in
    let copied = c.copy_from_slice.ensures.after ∙ c.as_slice.ensures in
    let count = length_rest c.args.bytes.now c.copy_from_slice.new.self start c.len.result (middle - start) rest rest
    (ap length copied ∙ sym c.len.ensures) (omega arith) refl (omega (arith, c.requires.low, c.requires.size, c.requires.inside)) in
    let filled : c.fill.new.self ≡ replicate rest 0 = c.fill.ensures.after (λ y h. h) ∙ ap (λ m. replicate m 0) count in
    written_at c.args.bytes.now c.copy_from_slice.new.self c.fill.new.self c.args.segment.now c.args.base start c.len.result rest
    c.requires.low c.requires.size c.requires.inside refl c.len.ensures upto copied filled k lt (middle - start) rest (omega arith) refl
