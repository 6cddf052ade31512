-- The bytes of a text and its parts.
use Rattle.std.specs.Prelude.{ℕ, ◌-◌, ◌==◌, ◌||◌, ◌&&◌, Bool, false, List, [], ◌∷◌, Option, Some, None, length, nat_le, nat_lt, drop, take, if◌then◌else◌}
use Rattle.std.specs.List.{prefix_len, suffix_len, position_or_len, before_first, after_first, list_all}
use Rattle.std.specs.Str.{bytes_eq}

abbrev pub is_within : ℕ → ℕ → ℕ → Bool
is_within low high byte = nat_le low byte && nat_le byte high

-- a space or a tab
abbrev pub is_blank : ℕ → Bool
is_blank byte = (byte == 32) || (byte == 9)

-- a tab, or a printable character of ASCII
abbrev pub is_printable : ℕ → Bool
is_printable byte = (byte == 9) || is_within 32 126 byte

-- a letter or `_`
abbrev pub begins_name : ℕ → Bool
begins_name byte = is_within 65 90 byte || is_within 97 122 byte || (byte == 95)

-- a letter, `_`, a digit or `.`
abbrev pub continues_name : ℕ → Bool
continues_name byte = begins_name byte || is_within 48 57 byte || (byte == 46)

abbrev pub is_name : List ℕ → Bool
is_name [] = false
is_name (byte ∷ bytes) = begins_name byte && list_all continues_name bytes

-- the text without the blanks at its start, at its end, at both
unfoldable pub trim_start : List ℕ → List ℕ
trim_start text = drop (prefix_len is_blank text) text

unfoldable pub trim_end : List ℕ → List ℕ
trim_end text = take (length text - suffix_len is_blank text) text

unfoldable pub trim : List ℕ → List ℕ
trim text = trim_end (trim_start text)

-- what stands before the first such byte, and after it
unfoldable pub parts_at : ℕ → List ℕ → Option (List ℕ × List ℕ)
parts_at byte text =
    if nat_lt (position_or_len (λ b. b == byte) text) (length text) then Some (before_first (λ b. b == byte) text, after_first (λ b. b == byte) text)
    else None

-- the rest of a text that begins so
unfoldable pub without_prefix : List ℕ → List ℕ → Option (List ℕ)
without_prefix prefix text = if bytes_eq (take (length prefix) text) prefix then Some (drop (length prefix) text) else None

-- the front of a text that ends so
unfoldable pub without_suffix : List ℕ → List ℕ → Option (List ℕ)
without_suffix suffix text =
    if bytes_eq (drop (length text - length suffix) text) suffix then Some (take (length text - length suffix) text) else None
