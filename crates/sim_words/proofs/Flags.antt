-- The flags of the options that were given.
use Rattle.std.proofs.Common.{◌≡◌, ℕ, ◌+◌, ◌<◌, ◌≤◌, Bool, true, false, List, [], ◌∷◌, length, slice_index_or, slice_set, refl, ap, arith, zero, suc}
use Rattle.sim_words.specs.declared.options.OptionName.{OptionName}
use Rattle.sim_words.specs.declared.options.OptionName.TheVariants.{Number, Mode, Format, Notes, Check, Steps}
use Rattle.sim_words.specs.declared.options.NumberOption.TheVariants.{Base, Memory, Cores, Sets, Ways, Buses, Snoop, MemoryDelay, Transfer, Occupancy, Slack, Interval, Limit, Quantum, Seed}
use Rattle.sim_words.specs.Given.{is_given, flags_of, is_flagged}
use Rattle.sim_words.specs.Options.{index_of}

-- an option's flag says whether it was given
pub flag_is : (before : List OptionName) (option : OptionName) → is_flagged (flags_of before) option ≡ is_given before option
unfolding flags_of
flag_is before (Number Base) = refl
flag_is before (Number Memory) = refl
flag_is before (Number Cores) = refl
flag_is before (Number Sets) = refl
flag_is before (Number Ways) = refl
flag_is before (Number Buses) = refl
flag_is before (Number Snoop) = refl
flag_is before (Number MemoryDelay) = refl
flag_is before (Number Transfer) = refl
flag_is before (Number Occupancy) = refl
flag_is before (Number Slack) = refl
flag_is before (Number Interval) = refl
flag_is before (Number Limit) = refl
flag_is before (Number Quantum) = refl
flag_is before (Number Seed) = refl
flag_is before Mode = refl
flag_is before Format = refl
flag_is before Notes = refl
flag_is before Check = refl
flag_is before Steps = refl

-- the flags with an option more
pub flags_more : (before : List OptionName) (option : OptionName) → slice_set (flags_of before) (index_of option) true ≡ flags_of (option ∷ before)
unfolding flags_of
flags_more before (Number Base) = refl
flags_more before (Number Memory) = refl
flags_more before (Number Cores) = refl
flags_more before (Number Sets) = refl
flags_more before (Number Ways) = refl
flags_more before (Number Buses) = refl
flags_more before (Number Snoop) = refl
flags_more before (Number MemoryDelay) = refl
flags_more before (Number Transfer) = refl
flags_more before (Number Occupancy) = refl
flags_more before (Number Slack) = refl
flags_more before (Number Interval) = refl
flags_more before (Number Limit) = refl
flags_more before (Number Quantum) = refl
flags_more before (Number Seed) = refl
flags_more before Mode = refl
flags_more before Format = refl
flags_more before Notes = refl
flags_more before Check = refl
flags_more before Steps = refl

-- an option's number is that of a flag
pub index_small : (option : OptionName) → index_of option < 20
index_small (Number Base) = omega arith
index_small (Number Memory) = omega arith
index_small (Number Cores) = omega arith
index_small (Number Sets) = omega arith
index_small (Number Ways) = omega arith
index_small (Number Buses) = omega arith
index_small (Number Snoop) = omega arith
index_small (Number MemoryDelay) = omega arith
index_small (Number Transfer) = omega arith
index_small (Number Occupancy) = omega arith
index_small (Number Slack) = omega arith
index_small (Number Interval) = omega arith
index_small (Number Limit) = omega arith
index_small (Number Quantum) = omega arith
index_small (Number Seed) = omega arith
index_small Mode = omega arith
index_small Format = omega arith
index_small Notes = omega arith
index_small Check = omega arith
index_small Steps = omega arith

-- how many flags are set
abbrev pub set_count : List Bool → ℕ
set_count [] = 0
set_count (true ∷ flags) = set_count flags + 1
set_count (false ∷ flags) = set_count flags

-- no more flags are set than there are
count_le_length : (flags : List Bool) → set_count flags ≤ length flags
count_le_length [] = omega arith
count_le_length (true ∷ flags) = omega (arith, count_le_length flags)
count_le_length (false ∷ flags) = omega (arith, count_le_length flags)

pub count_le : (before : List OptionName) → set_count (flags_of before) ≤ 20
unfolding flags_of
count_le before = count_le_length (flags_of before)

pub length_flags : (before : List OptionName) → length (flags_of before) ≡ 20
unfolding flags_of
length_flags before = refl

-- a flag that wasn't set is one more
pub count_more : (flags : List Bool) (i : ℕ) → i < length flags → slice_index_or flags i false ≡ false → set_count (slice_set flags i true) ≡ set_count flags + 1
count_more [] i low off = absurd (omega arith)
count_more (true ∷ flags) zero low off = absurd cc
count_more (false ∷ flags) zero low off = refl
count_more (true ∷ flags) (suc i) low off = ap (λ n. n + 1) (count_more flags i (omega arith) off)
count_more (false ∷ flags) (suc i) low off = count_more flags i (omega arith) off
