-- The image that a file describes.
use Rattle.std.specs.Prelude.{ℕ, List, map, take, drop}
use Rattle.slack_base.specs.declared.images.Segment.{Segment}
use Rattle.slack_base.specs.declared.images.Image.{Image}
use Rattle.image_load.specs.declared.layouts.Load.{Load}
use Rattle.image_load.specs.declared.layouts.Layout.{Layout}

-- the bytes of the file that go to a piece of memory
abbrev pub file_bytes : List ℕ → Load → List ℕ
file_bytes bytes load = take load.file_size (drop load.offset bytes)

abbrev pub segment_of : List ℕ → Load → Segment
segment_of bytes load = record { address = load.address; bytes = file_bytes bytes load; size = load.memory_size }

-- the image of these bytes under a layout
abbrev pub image_in : List ℕ → Layout → Image
image_in bytes layout = record { entry = layout.entry; segments = map (segment_of bytes) layout.loads }
