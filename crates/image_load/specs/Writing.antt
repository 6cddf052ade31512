-- The images that have an SLK1 file, and those that have an SLK2 file.
use Rattle.std.specs.Prelude.{◌≡◌, ◌<◌, ◌≤◌, ◌^◌, All, [], ◌∷◌, length}
use Rattle.slack_base.specs.declared.images.Segment.{Segment}
use Rattle.slack_base.specs.declared.images.Image.{Image}

-- there is one segment, and all of its bytes are given
pub record IsOnePiece (image : Image) : Type 0 where
  pub segment : Segment
  pub only : image.segments ≡ segment ∷ []
  pub given : segment.size ≡ length segment.bytes

-- the segment has a byte of memory, and gives no more bytes than it has
pub record IsStored (s : Segment) : Type 0 where
  pub size : 1 ≤ s.size
  pub bytes : length s.bytes ≤ s.size

-- there are at most 64 segments, and they are such
pub record IsPackable (image : Image) : Type 0 where
  pub few : length image.segments ≤ 64
  pub stored : All IsStored image.segments

-- the numbers of the segment have at most 32 bits
pub record HasWords (s : Segment) : Type 0 where
  pub address : s.address < 2 ^ 32
  pub given : length s.bytes < 2 ^ 32
  pub size : s.size < 2 ^ 32
