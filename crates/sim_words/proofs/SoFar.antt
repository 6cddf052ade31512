-- The pairs so far and those that are left.
use Rattle.std.proofs.Common.{◌≡◌, ℕ, ◌+◌, ◌*◌, ◌<◌, ◌≤◌, Bool, true, false, not, List, [], ◌∷◌, ◌++◌, length, drop, get_or, slice_set, fold, Option, Some, None, is_some, refl, ap, sym, ◌∙◌, arith, cond, add-zero}
use Rattle.std.specs.Option.{option_to_list}
use Rattle.std.proofs.lemmas.List.{drop-drop, get_or-drop, length-drop, drop_all}
use Rattle.slack_base.specs.declared.faults.WordFault.{WordFault}
use Rattle.slack_base.specs.declared.faults.WordFault.TheVariants as fault
use Rattle.sim_words.specs.declared.commands.Command.{Command}
use Rattle.sim_words.specs.declared.options.OptionName.{OptionName}
use Rattle.slack_base.specs.Checks.{first_fault, or_else}
use Rattle.sim_words.specs.Given.{is_given, flags_of, is_flagged}
use Rattle.sim_words.specs.Options.{option_of, index_of}
use Rattle.sim_words.specs.Pairs.{pairs_from, pairs_fault, pair_fault, word_checks, checks_for, is_again, is_dashed, with_pair, with_value_of}
use Rattle.sim_words.specs.Settings.{Choices, defaults, with_value, value_checks}
use Rattle.sim_words.proofs.Flags.{flag_is, flags_more, index_small, set_count, count_le, length_flags, count_more}

-- the pairs before a place have no fault, these options stood in them, and they say this
pub record IsSoFar (command : Command) (words : List (List ℕ)) (place : ℕ) (flags : List Bool) (choices : Choices) (before : List OptionName) : Type 0 where
  pub flagged : flags ≡ flags_of before
  pub counted : place ≡ 2 * set_count flags + 1
  pub faults : pairs_fault command before (pairs_from place (drop place words)) ≡ pairs_fault command [] (pairs_from 1 (drop 1 words))
  pub says : fold (with_pair command) choices (pairs_from place (drop place words)) ≡ fold (with_pair command) defaults (pairs_from 1 (drop 1 words))

pub start : (command : Command) (words : List (List ℕ)) (flags : List Bool) (choices : Choices) → flags ≡ flags_of [] → choices ≡ defaults → IsSoFar command words 1 flags choices []
unfolding flags_of
start command words flags choices none same = record {
  flagged = none;
  counted = ap (λ f. 2 * set_count f + 1) (sym none);
  faults = refl;
  says = ap (λ c. fold (with_pair command) c (pairs_from 1 (drop 1 words))) same;
}

-- the place stays small
pub place_small : {command : Command} {words : List (List ℕ)} {place : ℕ} {flags : List Bool} {choices : Choices} {before : List OptionName} → IsSoFar command words place flags choices before → place ≤ 41
place_small {place = place} {flags = flags} {before = before} so =
    omega (arith, so.counted, ap set_count so.flagged, count_le before)

-- the first pair and the others
first_pair : (place : ℕ) (words : List (List ℕ)) → 0 < length words → pairs_from place words ≡ record { place = place; option = get_or words 0 []; value = get_or words 1 [] } ∷ pairs_from (place + 2) (drop 2 words)
first_pair place [] some = absurd (omega arith)
first_pair place (option ∷ []) some = refl
first_pair place (option ∷ value ∷ words) some = refl

-- the pair of these words at a place, and those behind it
pair_at : (place : ℕ) (words : List (List ℕ)) (word value : List ℕ) → place < length words → word ≡ get_or words place [] → value ≡ get_or words (place + 1) [] → pairs_from place (drop place words) ≡ record { place = place; option = word; value = value } ∷ pairs_from (place + 2) (drop (place + 2) words)
pair_at place words word value low here there =
    first_pair place (drop place words) (omega (arith, length-drop place words))
    ∙ ap (λ w. record { place = place; option = w; value = get_or (drop place words) 1 [] } ∷ pairs_from (place + 2) (drop 2 (drop place words))) (get_or-drop place words 0 [] ∙ ap (λ i. get_or words i []) (add-zero place) ∙ sym here)
    ∙ ap (λ w. record { place = place; option = word; value = w } ∷ pairs_from (place + 2) (drop 2 (drop place words))) (get_or-drop place words 1 [] ∙ sym there)
    ∙ ap (λ ws. record { place = place; option = word; value = value } ∷ pairs_from (place + 2) ws) (drop-drop 2 place words)

-- checks in two parts
both_parts : (xs ys : List (Bool × WordFault)) → first_fault (xs ++ ys) ≡ or_else (first_fault xs) (first_fault ys)
both_parts [] ys = refl
both_parts (check ∷ xs) ys =
    elim check.0 as (λ b. cond b (first_fault (xs ++ ys)) (Some check.1) ≡ or_else (cond b (first_fault xs) (Some check.1)) (first_fault ys)) [ true ↦ both_parts xs ys | false ↦ refl ]

-- the flags stand for the options
again_is : (before : List OptionName) (flags : List Bool) (option : Option OptionName) → flags ≡ flags_of before → is_again (is_given before) option ≡ is_again (is_flagged flags) option
again_is before flags None same = refl
again_is before flags (Some option) same = sym (ap (λ f. is_flagged f option) same ∙ flag_is before option)

-- the faults of a pair's words
abbrev pub word_fault_of : Command → List Bool → ℕ → List ℕ → Option WordFault
word_fault_of command flags place word = first_fault (word_checks command (is_flagged flags) place word)

abbrev pub value_fault_of : Option OptionName → ℕ → List ℕ → Option WordFault
value_fault_of option place value = first_fault (checks_for option (place + 1) value)

word_fault_is : (command : Command) (before : List OptionName) (flags : List Bool) (place : ℕ) (word : List ℕ) → flags ≡ flags_of before → first_fault (word_checks command (is_given before) place word) ≡ word_fault_of command flags place word
word_fault_is command before flags place word same =
    ap (λ again. first_fault ((is_dashed word, fault.Form place) ∷ (is_some (option_of command word), fault.Option place) ∷ (not again, fault.Twice place) ∷ [])) (again_is before flags (option_of command word) same)

pair_fault_is : (command : Command) (before : List OptionName) (flags : List Bool) (place : ℕ) (word value : List ℕ) → flags ≡ flags_of before → pair_fault command before (record { place = place; option = word; value = value }) ≡ or_else (word_fault_of command flags place word) (value_fault_of (option_of command word) place value)
pair_fault_is command before flags place word value same =
    both_parts (word_checks command (is_given before) place word) (checks_for (option_of command word) (place + 1) value)
    ∙ ap (λ f. or_else f (value_fault_of (option_of command word) place value)) (word_fault_is command before flags place word same)

-- the faults of the pairs behind a place
abbrev pub rest_fault : Command → List OptionName → ℕ → List (List ℕ) → Option WordFault
rest_fault command before place words = pairs_fault command before (pairs_from (place + 2) (drop (place + 2) words))

-- the fault of all pairs is that of the pair at the place, or else of those behind it
next_fault : {command : Command} {words : List (List ℕ)} {place : ℕ} {flags : List Bool} {choices : Choices} {before : List OptionName} → IsSoFar command words place flags choices before → (word value : List ℕ) → place < length words → word ≡ get_or words place [] → value ≡ get_or words (place + 1) [] → pairs_fault command [] (pairs_from 1 (drop 1 words)) ≡ or_else (or_else (word_fault_of command flags place word) (value_fault_of (option_of command word) place value)) (rest_fault command (option_to_list (option_of command word) ++ before) place words)
next_fault {command} {words} {place} {flags} {choices} {before} so word value low here there =
    sym so.faults
    ∙ ap (pairs_fault command before) (pair_at place words word value low here there)
    ∙ ap (λ f. or_else f (rest_fault command (option_to_list (option_of command word) ++ before) place words)) (pair_fault_is command before flags place word value so.flagged)

-- a fault of a pair's first word
pub word_fault : {command : Command} {words : List (List ℕ)} {place : ℕ} {flags : List Bool} {choices : Choices} {before : List OptionName} → IsSoFar command words place flags choices before → (word : List ℕ) (wrong : WordFault) → place < length words → word ≡ get_or words place [] → word_fault_of command flags place word ≡ Some wrong → pairs_fault command [] (pairs_from 1 (drop 1 words)) ≡ Some wrong
word_fault {command} {words} {place} {flags} {choices} {before} so word wrong low here faulty =
    next_fault so word (get_or words (place + 1) []) low here refl
    ∙ ap (λ f. or_else (or_else f (value_fault_of (option_of command word) place (get_or words (place + 1) []))) (rest_fault command (option_to_list (option_of command word) ++ before) place words)) faulty

-- the faults of all pairs, where the first word of the pair at the place has none
after_word : {command : Command} {words : List (List ℕ)} {place : ℕ} {flags : List Bool} {choices : Choices} {before : List OptionName} → IsSoFar command words place flags choices before → (word value : List ℕ) (option : OptionName) → place < length words → word ≡ get_or words place [] → value ≡ get_or words (place + 1) [] → word_fault_of command flags place word ≡ None → option_of command word ≡ Some option → pairs_fault command [] (pairs_from 1 (drop 1 words)) ≡ or_else (value_fault_of (Some option) place value) (rest_fault command (option ∷ before) place words)
after_word {command} {words} {place} {flags} {choices} {before} so word value option low here there right known =
    next_fault so word value low here there
    ∙ ap (λ f. or_else (or_else f (value_fault_of (option_of command word) place value)) (rest_fault command (option_to_list (option_of command word) ++ before) place words)) right
    ∙ ap (λ o. or_else (value_fault_of o place value) (rest_fault command (option_to_list o ++ before) place words)) known

-- a fault of a pair's value
pub value_fault : {command : Command} {words : List (List ℕ)} {place : ℕ} {flags : List Bool} {choices : Choices} {before : List OptionName} → IsSoFar command words place flags choices before → (word value : List ℕ) (option : OptionName) (wrong : WordFault) → place < length words → word ≡ get_or words place [] → value ≡ get_or words (place + 1) [] → word_fault_of command flags place word ≡ None → option_of command word ≡ Some option → first_fault (value_checks option (place + 1) value) ≡ Some wrong → pairs_fault command [] (pairs_from 1 (drop 1 words)) ≡ Some wrong
value_fault {command} {words} {place} {flags} {choices} {before} so word value option wrong low here there right known faulty =
    after_word so word value option low here there right known
    ∙ ap (λ f. or_else f (rest_fault command (option ∷ before) place words)) faulty

-- a pair without a fault
pub pair_read : {command : Command} {words : List (List ℕ)} {place : ℕ} {flags : List Bool} {choices : Choices} {before : List OptionName} → IsSoFar command words place flags choices before → (word value : List ℕ) (option : OptionName) (flags_then : List Bool) (choices_then : Choices) → place < length words → word ≡ get_or words place [] → value ≡ get_or words (place + 1) [] → word_fault_of command flags place word ≡ None → option_of command word ≡ Some option → is_flagged flags option ≡ false → first_fault (value_checks option (place + 1) value) ≡ None → flags_then ≡ slice_set flags (index_of option) true → choices_then ≡ with_value option value choices → IsSoFar command words (place + 2) flags_then choices_then (option ∷ before)
pair_read {command} {words} {place} {flags} {choices} {before} so word value option flags_then choices_then low here there right known off fits added chosen =
    let within : index_of option < length flags = omega (arith, index_small option, length_flags before, ap length so.flagged) in
    let more = count_more flags (index_of option) within off in
    let rest = pairs_from (place + 2) (drop (place + 2) words) in record {
      flagged = added ∙ ap (λ f. slice_set f (index_of option) true) so.flagged ∙ flags_more before option;
      counted = omega (arith, so.counted, more, ap set_count added);
      faults = sym (after_word so word value option low here there right known ∙ ap (λ f. or_else f (rest_fault command (option ∷ before) place words)) fits);
      says = ap (λ c. fold (with_pair command) c rest) chosen
          ∙ sym (ap (λ o. fold (with_pair command) (with_value_of o value choices) rest) known)
          ∙ sym (ap (fold (with_pair command) choices) (pair_at place words word value low here there))
          ∙ so.says;
    }

-- no pairs are left
pub all_read : {command : Command} {words : List (List ℕ)} {place : ℕ} {flags : List Bool} {choices : Choices} {before : List OptionName} → IsSoFar command words place flags choices before → length words ≤ place → (pairs_fault command [] (pairs_from 1 (drop 1 words)) ≡ None) × (choices ≡ fold (with_pair command) defaults (pairs_from 1 (drop 1 words)))
all_read {command} {words} {place} {flags} {choices} {before} so end =
    let none = drop_all place words end in
    (sym so.faults ∙ ap (λ ws. pairs_fault command before (pairs_from place ws)) none, sym (ap (λ ws. fold (with_pair command) choices (pairs_from place ws)) none) ∙ so.says)
