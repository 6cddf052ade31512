use Rattle.std.proofs.Common.{◌+◌, ◌++◌, sym, ap, ◌∙◌, length, drop, flat_map, arith, rules, tests, append-nil}
use Rattle.std.proofs.lemmas.Iterator.Consumers.{YieldsList-turn, YieldsList-end}
use Rattle.std.proofs.lemmas.Iterator.Splits.{YieldsList-from_slice_split}
use Rattle.std.proofs.lemmas.List.{length_push, drop_all}
use Rattle.sim_words.specs.Items.{item_of}
use Rattle.sim_words.specs.Steps.{is_comma, pieces_of, repeated, steps_of}
use Rattle.sim_words.proofs.Pieces.{steps_from}
use Rattle.sim_words.proofs.steps.steps_of.Goals as goal

pub loop-piece-init : goal.loop-piece-init
unfolding steps_of
loop-piece-init c = ap (λ steps. steps ++ flat_map (λ p. repeated (item_of p)) (pieces_of c.args.value.now)) c.new-steps.ensures

pub loop-piece-preserved : goal.loop-piece-preserved
loop-piece-preserved c =
    let t = YieldsList-turn (YieldsList-from_slice_split _ is_comma c.args.value.now (cc) (cc) (cc) (λ x b q k. search (rules, tests))) c.loop-piece.yielded _ c.loop-piece.yielded_by _ _ c.in-Some.piece c.in-Some.is c.next.ensures.steps in
    let step = steps_from c.loop-piece.steps _ (length c.loop-piece.yielded) c.in-Some.piece.now t.0 t.1 in
    let next = ap (λ n. c.push_piece.new.steps ++ flat_map (λ p. repeated (item_of p)) (drop n (pieces_of c.args.value.now))) (length_push c.loop-piece.yielded c.in-Some.piece) in
    let pushed = ap (λ steps. steps ++ flat_map (λ p. repeated (item_of p)) (drop (length c.loop-piece.yielded + 1) (pieces_of c.args.value.now))) c.in_ok-push_piece.ensures in
    next ∙ pushed ∙ sym step ∙ c.loop-piece.invariant

pub returns : goal.returns
returns c =
    let t = YieldsList-end (YieldsList-from_slice_split _ is_comma c.args.value.now (cc) (cc) (cc) (λ x b q k. search (rules, tests))) c.loop-piece.yielded _ c.loop-piece.yielded_by _ _ c.in-None.is c.next.ensures.steps in
    let none = drop_all (length c.loop-piece.yielded) (pieces_of c.args.value.now) (omega (arith, t.1)) in
    sym (append-nil c.loop-piece.steps) ∙ sym (ap (λ ps. c.loop-piece.steps ++ flat_map (λ p. repeated (item_of p)) ps) none) ∙ c.loop-piece.invariant
