-- The words of a line, and the lines that are left of a dump.
use Rattle.std.proofs.Common.{◌≡◌, ◌∙◌, ℕ, ◌+◌, ◌<◌, ◌≤◌, List, ◌++◌, Option, Some, None, length, drop, get_or, map, sym, ap, arith}
use Rattle.std.specs.List.{cons_option, filter_map, flat_map, range_with_len, slice_get}
use Rattle.std.proofs.lemmas.List.{at_drop_more, at_drop_all}
use Rattle.slack_base.specs.declared.messages.Words.{Words}
use Rattle.bus_model.specs.Channels.{ChannelValue}
use Rattle.timed_core.specs.Cores.{HartValue}
use Rattle.target_law.specs.Cycles.{StateValue}
use Rattle.stat_report.specs.Dump.{dump_at, dump_of, lines_in}
use Rattle.stat_report.proofs.Places.{from, from_more}

-- the first words that any of these give, as they are now
abbrev pub first_given : {M X : Type 0} → (M → X) → (X → Option Words) → List M → Option Words
first_given value f xs = slice_get (filter_map f (map value xs)) 0

module _ {M X : Type 0} (value : M → X) (f : X → Option Words) (xs : List M) (i : ℕ) where
  -- the words of the first that is left, or those of the others
  first_left : (d : M) → i < length xs → first_given value f (drop i xs) ≡ slice_get (cons_option (f (value (get_or xs i d))) (filter_map f (map value (drop (i + 1) xs)))) 0
  first_left d within = at_drop_more (first_given value f) xs i d within

  pub given_here : (d : M) (words : Words) → i < length xs → f (value (get_or xs i d)) ≡ Some words → first_given value f (drop i xs) ≡ Some words
  given_here d words within found = first_left d within ∙ ap (λ o. slice_get (cons_option o (filter_map f (map value (drop (i + 1) xs)))) 0) found

  pub given_later : (d : M) → i < length xs → f (value (get_or xs i d)) ≡ None → first_given value f (drop (i + 1) xs) ≡ first_given value f (drop i xs)
  given_later d within none = sym (first_left d within ∙ ap (λ o. slice_get (cons_option o (filter_map f (map value (drop (i + 1) xs)))) 0) none)

  pub given_nowhere : length xs ≤ i → first_given value f (drop i xs) ≡ None
  given_nowhere past = at_drop_all (first_given value f) xs i past

module _ (base : ℕ) (m : StateValue HartValue ChannelValue) where
  pub dump_start : dump_of base m ≡ from (dump_at base m) (lines_in m.chans) 0
  unfolding dump_of
  dump_start = ap (λ n. flat_map (dump_at base m) (range_with_len 0 n)) (omega arith)

  pub dump_more : (line : ℕ) → line < lines_in m.chans → from (dump_at base m) (lines_in m.chans) line ≡ dump_at base m line ++ from (dump_at base m) (lines_in m.chans) (line + 1)
  dump_more line inside = from_more (dump_at base m) (lines_in m.chans) line inside
