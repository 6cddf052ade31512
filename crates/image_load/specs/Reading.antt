-- Reading an image: the format is named by the first four bytes.
use Rattle.std.specs.Prelude.{ℕ, List, Option, Some, Result, nat_lt, length, if◌then◌else◌}
use Rattle.slack_base.specs.declared.images.Image.{Image}
use Rattle.slack_base.specs.declared.faults.ImageFault.{ImageFault}
use Rattle.slack_base.specs.declared.faults.ImageFault.TheVariants.{Short, Magic}
use Rattle.image_load.specs.declared.layouts.Layout.{Layout}
use Rattle.slack_base.specs.Checks.{first_fault, unless_fault}
use Rattle.image_load.specs.Elf.{is_elf, elf_header, elf_checks, elf_layout}
use Rattle.image_load.specs.Flat.{is_flat, flat_header, flat_checks, flat_layout}
use Rattle.image_load.specs.Packed.{is_packed, packed_header, packed_checks, packed_layout}
use Rattle.image_load.specs.Layouts.{image_in}

-- the first fault of a file
unfoldable pub fault_of : (base memory : ℕ) → List ℕ → Option ImageFault
fault_of base memory bytes =
    if nat_lt (length bytes) 4 then Some (Short (length bytes) 4)
    else if is_flat bytes then first_fault (flat_checks base memory bytes)
    else if is_packed bytes then first_fault (packed_checks base memory bytes)
    else if is_elf bytes then first_fault (elf_checks base memory bytes)
    else Some Magic

-- what a file says of the image, where it has no fault
unfoldable pub layout_of : List ℕ → Layout
layout_of bytes =
    if is_flat bytes then flat_layout (flat_header bytes)
    else if is_packed bytes then packed_layout bytes (packed_header bytes)
    else elf_layout bytes (elf_header bytes)

-- the image of a file for a memory of so many bytes from base on, or the file's first fault
unfoldable pub image_of : (base memory : ℕ) → List ℕ → Result Image ImageFault
image_of base memory bytes = unless_fault (fault_of base memory bytes) (image_in bytes (layout_of bytes))
