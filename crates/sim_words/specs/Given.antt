-- The options that were given.
use Rattle.std.specs.Prelude.{Bool, false, List, ◌==◌, map, slice_index_or}
use Rattle.std.specs.List.{list_any, range_with_len}
use Rattle.sim_words.specs.declared.options.OptionName.{OptionName}
use Rattle.sim_words.specs.Options.{index_of}

-- the option is one of these
abbrev pub is_given : List OptionName → OptionName → Bool
is_given before option = list_any (λ other. index_of other == index_of option) before

-- for each option, by its number, whether it is one of these
unfoldable pub flags_of : List OptionName → List Bool
flags_of before = map (λ index. list_any (λ other. index_of other == index) before) (range_with_len 0 20)

-- the flag of an option is set
abbrev pub is_flagged : List Bool → OptionName → Bool
is_flagged flags option = slice_index_or flags (index_of option) false
