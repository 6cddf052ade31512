-- What fits a memory lies in the address space.
use Rattle.std.proofs.Common.{ℕ, ◌+◌, ◌^◌, ◌≤◌, All, arith}
use Rattle.std.specs.List.{AllPairs}
use Rattle.std.proofs.lemmas.List.Elements.{All-weaker}
use Rattle.slack_base.specs.declared.images.Image.{Image}
use Rattle.slack_base.specs.declared.images.Segment.{Segment}
use Rattle.slack_base.specs.Images.{IsInMemory, IsApart, Fits}

within : (base memory : ℕ) → base + memory ≤ 2 ^ 32 → (s : Segment) → IsInMemory base memory s → IsInMemory 0 (2 ^ 32) s
within base memory ends s lies = record {
  size = lies.size;
  bytes = lies.bytes;
  low = omega arith;
  high = omega (arith, lies.high);
}

pub can_be_listed : (base memory : ℕ) (image : Image) → base + memory ≤ 2 ^ 32 → Fits base memory image → All (IsInMemory 0 (2 ^ 32)) image.segments × AllPairs IsApart image.segments
can_be_listed base memory image ends fits =
    (All-weaker (IsInMemory base memory) (IsInMemory 0 (2 ^ 32)) (within base memory ends) image.segments fits.segments, fits.apart)
