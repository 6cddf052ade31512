-- The size of a generated program, and that its image fits a memory.
use Rattle.std.proofs.Common.{◌≡◌, ℕ, ◌*◌, ◌%◌, ◌≤◌, List, length, map, arith, ◌∙◌, ap, [], rules}
use Rattle.std.proofs.Common.{length-append}
use Rattle.std.proofs.lemmas.List.{length-map}
use Rattle.std.proofs.lemmas.List.Elements.{All-nil, All-cons}
use Rattle.std.proofs.lemmas.List.Kept.{AllPairs-cons}
use Rattle.slack_base.specs.Images.{Fits, IsInMemory, IsApart, one_piece}
use Rattle.slack_base.specs.declared.bounds.TheConstants.{GENERATED_MEMORY}
use Rattle.workload_gen.specs.Choices.{instruction}
use Rattle.workload_gen.specs.Draws.{draws}
use Rattle.workload_gen.specs.Programs.{AreBytesOf, program, tail}
use Rattle.workload_gen.proofs.Coding.{length-bytes}
use Rattle.workload_gen.proofs.Drawing.{length-draws}

length-program : (seed base : ℕ) → length (program seed base) ≡ 1005
unfolding program
length-program seed base =
    let drawn = map instruction (draws seed 1000) in
    omega (arith, length-append drawn tail, length-map (draws seed 1000) instruction, length-draws seed 1000)

pub program_size : (seed base : ℕ) (bytes : List ℕ) → AreBytesOf (program seed base) bytes → length bytes ≡ 4020
program_size seed base bytes coded = length-bytes (program seed base) bytes coded ∙ ap (λ n. 4 * n) (length-program seed base)

pub image_fits : (base memory : ℕ) (bytes : List ℕ) → length bytes ≡ 4020 → base % 4096 ≡ 0 → GENERATED_MEMORY ≤ memory → Fits base memory (one_piece base base bytes)
image_fits base memory bytes size page large = record {
  segments = All-cons (IsInMemory base memory) _ [] (record { size = omega arith; bytes = omega arith; low = omega arith; high = omega arith }) (All-nil (IsInMemory base memory));
  apart = AllPairs-cons IsApart _ [] (All-nil _) (search rules);
  entry = record { aligned = omega arith; low = omega arith; high = omega arith };
}
