-- The dump of memory.
use Rattle.std.specs.Prelude.{ℕ, ◌+◌, ◌*◌, ◌==◌, ◌&&◌, Bool, List, [], ◌++◌, Option, None, Some, codes, flat_map, option_map, slice_get, sum_by, if◌then◌else◌}
use Rattle.std.specs.List.{range_with_len, filter_map}
use Rattle.slack_base.specs.declared.messages.Words.{Words}
use Rattle.mesi_cache.specs.declared.lines.Held.{Held}
use Rattle.mesi_cache.specs.declared.lines.Held.TheVariants.{Shared, Exclusive, Modified}
use Rattle.mesi_cache.specs.declared.lines.HeldLine.{HeldLine}
use Rattle.bus_model.specs.Channels.{ChannelValue, count_of, found_entry}
use Rattle.timed_core.specs.Accesses.{held_in}
use Rattle.slack_base.specs.Inboxes.{CoreValue}
use Rattle.timed_core.specs.Cores.{HartValue}
use Rattle.target_law.specs.Cycles.{StateValue}
use Rattle.plain_text.specs.Pieces.{hex_word}
use Rattle.plain_text.specs.Pieces.{hex_field}

abbrev pub words_if_modified : Held → Words → Option Words
words_if_modified Shared words = None
words_if_modified Exclusive words = None
words_if_modified Modified words = Some words

abbrev pub modified_words : Option HeldLine → Option Words
modified_words None = None
modified_words (Some l) = words_if_modified l.held l.words

-- the words of a line in the cache of a core that holds it Modified
abbrev pub words_of_core : ℕ → CoreValue HartValue → Option Words
words_of_core line core = modified_words (held_in core.inner.cache line)

-- those of the first core that holds the line Modified
unfoldable pub written_words : ℕ → List (CoreValue HartValue) → Option Words
written_words line cores = slice_get (filter_map (words_of_core line) cores) 0

-- the words of a line in memory, as a bus has them that has the line
abbrev pub words_of_chan : ℕ → ChannelValue → Option Words
words_of_chan line chan = option_map (λ entry. entry.words) (found_entry chan line)

unfoldable pub memory_words : ℕ → List ChannelValue → Option Words
memory_words line chans = slice_get (filter_map (words_of_chan line) chans) 0

-- the first where there are such words, else the second
abbrev pub first_of : Option Words → Option Words → Option Words
first_of (Some words) others = Some words
first_of None others = others

-- the words of a line, as the cores wrote them last
unfoldable pub words_at : StateValue HartValue ChannelValue → ℕ → Option Words
words_at m line = first_of (written_words line m.cores) (memory_words line m.chans)

abbrev pub is_zero : Words → Bool
is_zero words = (words.w0 == 0) && ((words.w1 == 0) && ((words.w2 == 0) && (words.w3 == 0)))

-- the line of an address and its four words: none where these are all 0
unfoldable pub dump_line : ℕ → Words → List ℕ
dump_line address words =
    if is_zero words then []
    else hex_field address ++ hex_field words.w0 ++ hex_field words.w1 ++ hex_field words.w2 ++ hex_word words.w3 ++ codes "\n"

abbrev pub dumped : ℕ → Option Words → List ℕ
dumped address None = []
dumped address (Some words) = dump_line address words

-- the text of a line of memory, which begins at a base
unfoldable pub dump_at : ℕ → StateValue HartValue ChannelValue → ℕ → List ℕ
dump_at base m line = dumped (base + 16 * line) (words_at m line)

-- how many lines the channels have
abbrev pub lines_in : List ChannelValue → ℕ
lines_in chans = sum_by count_of chans

-- memory, line by line
unfoldable pub dump_of : ℕ → StateValue HartValue ChannelValue → List ℕ
dump_of base m = flat_map (dump_at base m) (range_with_len 0 (lines_in m.chans))
