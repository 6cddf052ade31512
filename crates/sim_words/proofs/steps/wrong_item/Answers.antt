use Rattle.std.proofs.Common.{◌≡◌, ◌+◌, true, false, Some, None, sym, ap, ◌∙◌, length, drop, arith, rules, tests, refl}
use Rattle.std.proofs.lemmas.Bool.Decides.{nat_tests}
use Rattle.std.proofs.lemmas.Iterator.Consumers.{YieldsList-turn, YieldsList-end}
use Rattle.std.proofs.lemmas.Iterator.Splits.{YieldsList-from_slice_split}
use Rattle.std.proofs.lemmas.List.{length_push, drop_all}
use Rattle.sim_words.specs.Steps.{is_comma, is_allowed, pieces_of, placed_from, first_wrong, wrong_item}
use Rattle.sim_words.proofs.Pieces.{wrong_from}
use Rattle.sim_words.proofs.steps.wrong_item.Goals as goal

pub loop-piece-init : goal.loop-piece-init
unfolding wrong_item
loop-piece-init c = (refl, omega arith, omega arith)

pub returns-in_default : goal.returns-in_default
returns-in_default c =
    let t = YieldsList-turn (YieldsList-from_slice_split _ is_comma c.args.value.now (cc) (cc) (cc) (λ x b q k. search (rules, tests))) c.loop-piece.yielded _ c.loop-piece.yielded_by _ _ c.in-Some.piece c.in-Some.is c.next.ensures.steps in
    let item = sym c.in_default.is ∙ c.item_of.ensures.item in
    sym (wrong_from c.loop-piece.total c.loop-piece.at _ (length c.loop-piece.yielded) c.in-Some.piece.now None false t.0 t.1 item refl) ∙ c.loop-piece.invariant.0

pub returns-then-item-total : goal.returns-then-item-total
returns-then-item-total c =
    let t = YieldsList-turn (YieldsList-from_slice_split _ is_comma c.args.value.now (cc) (cc) (cc) (λ x b q k. search (rules, tests))) c.loop-piece.yielded _ c.loop-piece.yielded_by _ _ c.in-Some.piece c.in-Some.is c.next.ensures.steps in
    let item = sym c.in-Some-item_of.is ∙ c.item_of.ensures.item in
    let many : is_allowed c.loop-piece.total (Some c.in-Some-item_of.item) ≡ false = grind (arith, nat_tests) in
    sym (wrong_from c.loop-piece.total c.loop-piece.at _ (length c.loop-piece.yielded) c.in-Some.piece.now (Some c.in-Some-item_of.item) false t.0 t.1 item many) ∙ c.loop-piece.invariant.0

pub loop-piece-preserved : goal.loop-piece-preserved
loop-piece-preserved c =
    let t = YieldsList-turn (YieldsList-from_slice_split _ is_comma c.args.value.now (cc) (cc) (cc) (λ x b q k. search (rules, tests))) c.loop-piece.yielded _ c.loop-piece.yielded_by _ _ c.in-Some.piece c.in-Some.is c.next.ensures.steps in
    let item = sym c.in-Some-item_of.is ∙ c.item_of.ensures.item in
    let few : is_allowed c.loop-piece.total (Some c.in-Some-item_of.item) ≡ true = grind (arith, nat_tests) in
    let short = c.in-Some-item_of.ensures.short in
    let step = wrong_from c.loop-piece.total c.loop-piece.at _ (length c.loop-piece.yielded) c.in-Some.piece.now (Some c.in-Some-item_of.item) true t.0 t.1 item few in
    let next = ap (λ n. first_wrong (c.loop-piece.total + c.in-Some-item_of.item.count) (placed_from (c.loop-piece.at + (length c.in-Some.piece.now + 1)) (drop n (pieces_of c.args.value.now)))) (length_push c.loop-piece.yielded c.in-Some.piece) in
    (next ∙ sym step ∙ c.loop-piece.invariant.0, omega arith, omega (arith, short.0, short.1))

pub returns : goal.returns
returns c =
    let t = YieldsList-end (YieldsList-from_slice_split _ is_comma c.args.value.now (cc) (cc) (cc) (λ x b q k. search (rules, tests))) c.loop-piece.yielded _ c.loop-piece.yielded_by _ _ c.in-None.is c.next.ensures.steps in
    let none = drop_all (length c.loop-piece.yielded) (pieces_of c.args.value.now) (omega (arith, t.1)) in
    sym (ap (λ ps. first_wrong c.loop-piece.total (placed_from c.loop-piece.at ps)) none) ∙ c.loop-piece.invariant.0
