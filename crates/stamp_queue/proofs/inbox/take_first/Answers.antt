use Rattle.std.proofs.Common.{◌≡◌, ◌∙◌, [], ◌∷◌, MatchOption, None, Option, Some, subst, sym}
use Rattle.slack_base.specs.declared.messages.Post.{Post}
use Rattle.stamp_queue.specs.Whole.{IsTaken, IsNoneTaken}
use Rattle.stamp_queue.proofs.Wholes.{on_within, take_on, take_off, take_none}
use Rattle.stamp_queue.proofs.inbox.take_first.Goals as goal

either : (o : Option Post) (P R : Type 0) (Q S : Post → Type 0) → (P → R) → ((p : Post) → Q p → S p) → MatchOption o P Q → MatchOption o R S
either None P R Q S f g h = f h
either (Some p) P R Q S f g h = g p h

pub take_due-requires : goal.take_due-requires
take_due-requires c = on_within _ _ _ _ c.requires

pub returns-in-Some : goal.returns-in-Some
returns-in-Some c = take_on _ _ _ _ _ c.in-Some.post c.requires c.in-Some.ensures.first.1 c.in-Some.ensures.first.0

pub returns : goal.returns
returns c =
    let on = c.args.wheel.now in
    let off = c.args.off_wheel.now in
    let behind = c.in_default.ensures.none.0 in
    let same = c.in_default.ensures.none.1 in
    either c.take_first.result ((off ≡ []) × (c.take_first.new.self ≡ [])) (IsNoneTaken on off c.take_due.new.self c.take_first.new.self)
    (λ p. off ≡ p ∷ c.take_first.new.self) (IsTaken on off c.take_due.new.self c.take_first.new.self)
    (λ h. (take_none on off _ _ c.requires h.0 behind, (same, h.1 ∙ sym h.0)))
    (λ p h. subst (λ now. IsTaken on off now c.take_first.new.self p) (sym same) (take_off on off c.take_first.new.self _ _ p c.requires h behind))
    c.take_first.ensures
