use Rattle.std.proofs.Common.{◌≡◌, Some, [], ◌∷◌, drop, get_or, ◌∙◌, arith, rules}
use Rattle.std.proofs.lemmas.List.{get_or_default}
use Rattle.sim_words.specs.Pairs.{pairs_from, pairs_fault}
use Rattle.sim_words.proofs.SoFar.{start, place_small, word_fault, value_fault, pair_read, all_read}
use Rattle.sim_words.proofs.pairs.settings_in.Goals as goal

pub loop-place-init : goal.loop-place-init
loop-place-init c =
    ([], start c.args.command c.args.words.now _ _ c.none-given.ensures c.defaults-settings.ensures)

pub overflow_cast-at : goal.overflow_cast-at
overflow_cast-at c = let small = place_small c.loop-place.invariant.1 in omega arith

pub overflow_add-at : goal.overflow_add-at
overflow_add-at c = let small = place_small c.loop-place.invariant.1 in omega arith

pub returns-in_err-option : goal.returns-in_err-option
returns-in_err-option c =
    let here : c.bytes.result.now ≡ get_or c.args.words.now c.loop-place.place [] = c.bytes.ensures ∙ c.index-words-place.is ∙ get_or_default c.args.words.now c.loop-place.place _ [] c.loop-place-test.true in
    let wrong : pairs_fault c.args.command [] (pairs_from 1 (drop 1 c.args.words.now)) ≡ Some c.in_err-option.field-0.0 = word_fault c.loop-place.invariant.1 c.bytes.result.now c.in_err-option.field-0.0 c.loop-place-test.true here c.in_err-option.ensures in
    search rules

pub returns-in_err-settings : goal.returns-in_err-settings
returns-in_err-settings c =
    let here : c.bytes.result.now ≡ get_or c.args.words.now c.loop-place.place [] = c.bytes.ensures ∙ c.index-words-place.is ∙ get_or_default c.args.words.now c.loop-place.place _ [] c.loop-place-test.true in
    let wrong : pairs_fault c.args.command [] (pairs_from 1 (drop 1 c.args.words.now)) ≡ Some c.in_err-settings.field-0.0 = value_fault c.loop-place.invariant.1 c.bytes.result.now c.value_at.result.now c.in_ok-option.option c.in_err-settings.field-0.0 c.loop-place-test.true here c.value_at.ensures c.in_ok-option.ensures.0 c.in_ok-option.ensures.1 c.in_err-settings.ensures in
    search rules

pub loop-place-preserved : goal.loop-place-preserved
loop-place-preserved c =
    let here : c.bytes.result.now ≡ get_or c.args.words.now c.loop-place.place [] = c.bytes.ensures ∙ c.index-words-place.is ∙ get_or_default c.args.words.now c.loop-place.place _ [] c.loop-place-test.true in
    let known = c.in_ok-option.ensures in
    let read = c.in_ok-settings.ensures in
    (c.in_ok-option.option ∷ c.loop-place.invariant.0, pair_read c.loop-place.invariant.1 c.bytes.result.now c.value_at.result.now c.in_ok-option.option _ _ c.loop-place-test.true here c.value_at.ensures known.0 known.1 known.2 read.0 c.add.ensures read.1)

pub returns : goal.returns
returns c = all_read c.loop-place.invariant.1 c.loop-place-test.false
