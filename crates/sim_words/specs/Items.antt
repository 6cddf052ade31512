-- The items of a list of steps.
use denote.Ref.{Bor}
use Rattle.std.specs.Prelude.{◌≡◌, ℕ, ◌==◌, Bool, List, [], ◌∷◌, Option, Some, None, length, nat_le, nat_lt, option_and_then, if◌then◌else◌}
use Rattle.std.specs.List.{position_or_len, before_first, after_first}
use Rattle.slack_base.specs.declared.steps.Step.{Step}
use Rattle.slack_base.specs.declared.steps.Step.TheVariants.{Tick, Serve, Take}
use Rattle.sim_words.specs.declared.items.Item.{Item}
use Rattle.sim_words.specs.Numerals.{short_numeral}

infixl 10 ◌>>=◌
abbrev pub ◌>>=◌ : {A B : Type 0} → Option A → (A → Option B) → Option B
o >>= f = option_and_then f o

-- the step of a letter: `t`, `s` or `p`
abbrev pub step_of : ℕ → ℕ → Option Step
step_of core letter =
    if letter == 116 then Some (Tick core)
    else if letter == 115 then Some (Serve core)
    else if letter == 112 then Some (Take core)
    else None

-- the byte is an `x`
abbrev pub is_times : ℕ → Bool
is_times byte = byte == 120

-- what stands before the first `x`, and after it
unfoldable pub parts_of : List ℕ → Option (List ℕ × List ℕ)
parts_of text = if nat_lt (position_or_len is_times text) (length text) then Some (before_first is_times text, after_first is_times text) else None

-- how often: a number of one to five digits, from 1
unfoldable pub count_of : List ℕ → Option ℕ
count_of text = short_numeral 5 text >>= λ count. if nat_le 1 count then Some count else None

-- a core, of one or two digits, and how often: once where there is no `x`
abbrev pub core_and_count : List ℕ → Option (List ℕ × List ℕ) → Option (ℕ × ℕ)
core_and_count text None = short_numeral 2 text >>= λ core. Some (core, 1)
core_and_count text (Some parts) = short_numeral 2 parts.0 >>= λ core. count_of parts.1 >>= λ count. Some (core, count)

-- a letter, and then a core and how often
unfoldable pub item_of : List ℕ → Option Item
item_of [] = None
item_of (letter ∷ text) =
    core_and_count text (parts_of text) >>= λ numbers.
    step_of numbers.0 letter >>= λ step.
    Some (record { step = step; count = numbers.1 })

-- what a function returned has these parts
abbrev pub GivesParts : Option (Bor (List ℕ) × Bor (List ℕ)) → Option (List ℕ × List ℕ) → Type 0
GivesParts (Some parts) read = read ≡ Some (parts.0.now, parts.1.now)
GivesParts None read = read ≡ None
