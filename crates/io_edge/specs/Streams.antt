-- What a call of a source or a sink does to the bytes that it tells. One that tells none before a call tells none
-- after it.
use Rattle.std.specs.Prelude.{ℕ, ◌≡◌, ◌<◌, ◌≤◌, List, [], ◌++◌, Option, Some, None, take, drop, length}

-- the first n bytes that were left stand at the front of the buffer, and the others are left; n is 0 exactly where
-- none was left
abbrev pub MovesFirst : Option (List ℕ) → Option (List ℕ) → ℕ → List ℕ → Type 0
MovesFirst None new n buffer = (n ≤ length buffer) × (new ≡ None)
MovesFirst (Some bytes) new n buffer =
    (n ≤ length buffer) × (n ≤ length bytes) × (new ≡ Some (drop n bytes)) × (take n buffer ≡ take n bytes) × (n ≡ 0 → bytes ≡ [])

-- no byte is moved
abbrev pub MovesNothing : Option (List ℕ) → Option (List ℕ) → ℕ → ℕ → Type 0
MovesNothing old new taken_old taken_new = (new ≡ old) × (taken_new ≡ taken_old)

-- the bytes with these after them, where they are told
abbrev pub with_after : Option (List ℕ) → List ℕ → Option (List ℕ)
with_after None bytes = None
with_after (Some before) bytes = Some (before ++ bytes)

-- the first n bytes of the piece are appended; n is 0 only for an empty piece
abbrev pub Appends : Option (List ℕ) → Option (List ℕ) → ℕ → List ℕ → Type 0
Appends old new n piece = (n ≤ length piece) × (0 < length piece → 0 < n) × (new ≡ with_after old (take n piece))

-- nothing is appended
abbrev pub AppendsNothing : Option (List ℕ) → Option (List ℕ) → Type 0
AppendsNothing old new = new ≡ old
