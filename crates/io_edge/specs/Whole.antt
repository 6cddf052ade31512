-- What calls over a whole source or a whole text do to the bytes that are told.
use Rattle.std.specs.Prelude.{ℕ, ◌≡◌, ◌<◌, ◌≤◌, List, Option, Some, None, take, drop, length}
use Rattle.io_edge.specs.Streams.{with_after}

-- the first n bytes that were left were taken, and the others are left
abbrev pub IsFront : Option (List ℕ) → Option (List ℕ) → ℕ → Type 0
IsFront None new n = new ≡ None
IsFront (Some bytes) new n = (n ≤ length bytes) × (new ≡ Some (drop n bytes))

-- some front of the bytes was appended, and not all of them
abbrev pub AppendsFront : Option (List ℕ) → Option (List ℕ) → List ℕ → Type 0
AppendsFront old new bytes = (n : ℕ) × (n < length bytes) × (new ≡ with_after old (take n bytes))
