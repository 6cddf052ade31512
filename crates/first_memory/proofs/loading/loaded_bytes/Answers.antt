use Rattle.std.proofs.Common.{◌≡◌, ◌+◌, ◌≤◌, ◌<◌, ◌∙◌, ℕ, drop, get_or, length, ap, arith}
use Rattle.first_memory.specs.Memory.{byte_at, reach}
use Rattle.first_memory.proofs.Reached.{filled-up}
use Rattle.first_memory.proofs.loading.loaded_bytes.Goals as goal

pub returns-clause-held : goal.returns-clause-held
returns-clause-held c =
    let segments = c.args.image.now.segments in
    let held = c.loop-left.invariant.held in
    let done : c.loop-left.left ≡ 0 = omega arith in
    let all : (k : ℕ) → k < length c.loop-left.bytes.items → get_or c.loop-left.bytes.items k 0 ≡ byte_at segments (c.args.base + k) =
    λ k lt. held k (omega (arith, c.loop-left.invariant.count)) ∙ ap (λ n. byte_at (drop n c.as_slice-segments.result.now) (c.args.base + k)) done ∙ ap (λ xs. byte_at xs (c.args.base + k)) c.as_slice-segments.ensures in
    let far : reach segments c.args.base ≤ length c.loop-left.bytes.items = omega (arith, c.loop-left.invariant.count, c.lines_reached-count.ensures.count) in
    filled-up segments c.args.base c.args.memory c.loop-left.bytes.items (omega (arith, c.loop-left.invariant.count, c.lines_reached-count.ensures.within)) far all
