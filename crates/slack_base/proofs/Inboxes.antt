-- What holds of each post of an inbox, with one more.
use Rattle.std.proofs.Common.{List, [], ◌∷◌, true, false, cond}
use Rattle.std.specs.List.{All}
use Rattle.std.proofs.lemmas.List.Elements.{All-nil, All-cons, All-head, All-tail}
use Rattle.slack_base.specs.declared.messages.Post.{Post}
use Rattle.slack_base.specs.Inboxes.{is_later, with_post}

pub all_with_post : (P : Post → Type 0) (inbox : List Post) (p : Post) → All P inbox → P p → All P (with_post inbox p)
all_with_post P [] p all h = All-cons P p [] h (All-nil P)
all_with_post P (q ∷ inbox) p all h = elim (is_later q p) as (λ b. All P (cond b (p ∷ q ∷ inbox) (q ∷ with_post inbox p))) [
  | true ↦ All-cons P p (q ∷ inbox) h all
  | false ↦ All-cons P q (with_post inbox p) (All-head P q inbox all) (all_with_post P inbox p (All-tail P q inbox all) h)
]
