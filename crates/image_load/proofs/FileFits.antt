-- The image of a file without a fault fits.
use Rattle.std.proofs.Common.{◌≡◌, ◌≤◌, ℕ, true, false, cond, List, Some, None, Ok, subst, length, nat_lt}
use Rattle.std.proofs.lemmas.List.Elements.{All-weaker}
use Rattle.slack_base.specs.declared.images.Segment.{Segment}
use Rattle.slack_base.specs.declared.faults.ImageFault.TheVariants.{Short, Magic}
use Rattle.slack_base.specs.declared.images.Image.{Image}
use Rattle.slack_base.specs.Images.{IsInMemory, Fits}
use Rattle.slack_base.specs.Checks.{first_fault}
use Rattle.image_load.specs.Elf.{is_elf, elf_header, elf_checks, elf_layout}
use Rattle.image_load.specs.Flat.{is_flat, flat_header, flat_checks, flat_layout}
use Rattle.image_load.specs.Packed.{is_packed, packed_header, packed_checks, packed_layout}
use Rattle.image_load.specs.Layouts.{image_in}
use Rattle.image_load.specs.Reading.{fault_of, layout_of, image_of}
use Rattle.image_load.specs.Writing.{IsStored, IsPackable}
use Rattle.image_load.proofs.Accepted.{accepted, IsLoadableLayout, image_fits}
use Rattle.image_load.proofs.ElfFits.{elf_loadable}
use Rattle.image_load.proofs.FlatFits.{flat_loadable}
use Rattle.image_load.proofs.PackedFits.{packed_loadable}

layout_loadable : (base memory : ℕ) (bytes : List ℕ) → fault_of base memory bytes ≡ None → IsLoadableLayout base memory (layout_of bytes)
unfolding fault_of layout_of
layout_loadable base memory bytes =
    let flat = flat_layout (flat_header bytes) in
    let packed = packed_layout bytes (packed_header bytes) in
    let elf = elf_layout bytes (elf_header bytes) in
    let flat_fault = first_fault (flat_checks base memory bytes) in
    let packed_fault = first_fault (packed_checks base memory bytes) in
    let elf_fault = cond (is_elf bytes) (first_fault (elf_checks base memory bytes)) (Some Magic) in
    let other_fault = cond (is_packed bytes) packed_fault elf_fault in
    let other = cond (is_packed bytes) packed elf in
    elim (nat_lt (length bytes) 4) as (λ short. cond short (Some (Short (length bytes) 4)) (cond (is_flat bytes) flat_fault other_fault) ≡ None → IsLoadableLayout base memory (cond (is_flat bytes) flat other)) [
      | true ↦ λ h. absurd cc
      | false ↦
          elim (is_flat bytes) as (λ b. cond b flat_fault other_fault ≡ None → IsLoadableLayout base memory (cond b flat other)) [
            | true ↦ flat_loadable base memory bytes
            | false ↦
                elim (is_packed bytes) as (λ b. cond b packed_fault elf_fault ≡ None → IsLoadableLayout base memory (cond b packed elf)) [
                  | true ↦ packed_loadable base memory bytes
                  | false ↦
                      elim (is_elf bytes) as (λ b. cond b (first_fault (elf_checks base memory bytes)) (Some Magic) ≡ None → IsLoadableLayout base memory elf) [
                        | true ↦ elf_loadable base memory bytes
                        | false ↦ λ h. absurd cc
                      ]
                ]
          ]
    ]

-- every image that a file gives fits
pub read_fits : (base memory : ℕ) (bytes : List ℕ) (image : Image) → image_of base memory bytes ≡ Ok image → Fits base memory image
unfolding image_of
read_fits base memory bytes image h =
    let a = accepted (fault_of base memory bytes) (image_in bytes (layout_of bytes)) image h in
    subst (Fits base memory) a.1 (image_fits base memory bytes (layout_of bytes) (layout_loadable base memory bytes a.0))

stored : (base memory : ℕ) (s : Segment) → IsInMemory base memory s → IsStored s
stored base memory s h = record { size = h.size; bytes = h.bytes }

-- an image that fits, with no more segments than a file has, has an SLK2 file
pub fits_packed : (base memory : ℕ) (image : Image) → length image.segments ≤ 64 → Fits base memory image → IsPackable image
fits_packed base memory image few fits = record {
  few = few;
  stored = All-weaker (IsInMemory base memory) IsStored (stored base memory) image.segments fits.segments;
}
