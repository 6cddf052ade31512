-- The checks of the pieces that an executable loads, each after those before it.
use Rattle.std.specs.Prelude.{ℕ, ◌+◌, ◌==◌, ◌&&◌, ◌||◌, Bool, List, [], ◌∷◌, ◌++◌, length, map, nat_le, nat_lt}
use Rattle.slack_base.specs.declared.faults.ImageFault.TheVariants.{Short, Segment, Outside, Overlap}
use Rattle.image_load.specs.declared.layouts.Load.{Load}
use Rattle.image_load.specs.Checks.{Check, is_in_memory}

-- no address lies in both
abbrev pub are_apart : Load → Load → Bool
are_apart a b = nat_le (a.address + a.memory_size) b.address || nat_le (b.address + b.memory_size) a.address

abbrev pub overlap_check : Load → Load → Check
overlap_check load other = (are_apart other load, Overlap other.index load.index)

-- the checks of a piece, in a file of so many bytes: of those before it there are fewer than 64, and each is apart
-- from it
unfoldable pub checks_of : (base memory have : ℕ) (earlier : List Load) → Load → List Check
checks_of base memory have earlier load =
    (nat_le load.file_size load.memory_size && nat_lt (length earlier) 64, Segment load.index)
    ∷ ((load.file_size == 0) || nat_le (load.offset + load.file_size) have, Short have (load.offset + load.file_size))
    ∷ (is_in_memory base memory load.address load.memory_size, Outside load.index)
    ∷ map (overlap_check load) earlier

-- the checks of all pieces
unfoldable pub load_checks : (base memory have : ℕ) (earlier loads : List Load) → List Check
load_checks base memory have earlier [] = []
load_checks base memory have earlier (load ∷ loads) =
    checks_of base memory have earlier load ++ load_checks base memory have (earlier ++ load ∷ []) loads
