-- Where a post is put into a list in order.
use Rattle.std.proofs.Common.{◌≡◌, true, false, cond, List, [], ◌∷◌, refl, sym, ◌∙◌, ap}
use Rattle.std.specs.List.{AllByRecursion}
use Rattle.slack_base.specs.declared.messages.Post.{Post}
use Rattle.slack_base.specs.Inboxes.{is_later, with_post}
use Rattle.stamp_queue.specs.Inbox.{IsInOrder, IsPutBetween}
use Rattle.stamp_queue.proofs.Order.{no_later_than, no_later_back}

-- each of the list
pub weaker : (P Q : Post → Type 0) → ((p : Post) → P p → Q p) → (inbox : List Post) → AllByRecursion P inbox → AllByRecursion Q inbox
weaker P Q f [] h = tt
weaker P Q f (p ∷ inbox) h = (f p h.0, weaker P Q f inbox h.1)

-- each of the list, by two facts
pub both_weaker : (P Q R : Post → Type 0) → ((p : Post) → P p → Q p → R p) → (inbox : List Post) → AllByRecursion P inbox → AllByRecursion Q inbox → AllByRecursion R inbox
both_weaker P Q R f [] h g = tt
both_weaker P Q R f (p ∷ inbox) h g = (f p h.0 g.0, both_weaker P Q R f inbox h.1 g.1)

-- one post of the list compared
pub with_post-pass : (p q : Post) (inbox : List Post) → is_later q p ≡ false → with_post (q ∷ inbox) p ≡ q ∷ with_post inbox p
with_post-pass p q inbox h = ap (λ b. cond b (p ∷ q ∷ inbox) (q ∷ with_post inbox p)) h

pub with_post-stop : (p q : Post) (inbox : List Post) → is_later q p ≡ true → with_post (q ∷ inbox) p ≡ p ∷ q ∷ inbox
with_post-stop p q inbox h = ap (λ b. cond b (p ∷ q ∷ inbox) (q ∷ with_post inbox p)) h

-- a post that all of the list come after
pub later_all : (p q : Post) (inbox : List Post) → is_later q p ≡ true → AllByRecursion (λ r. is_later q r ≡ false) inbox → AllByRecursion (λ r. is_later r p ≡ true) inbox
later_all p q [] h o = tt
later_all p q (r ∷ inbox) h o =
    let one : is_later r p ≡ true = elim (is_later r p) as (λ b. is_later r p ≡ b → b ≡ true) [
      | true ↦ λ _. refl
      | false ↦ λ e. sym (no_later_than q r p o.0 e) ∙ h
    ] refl in
    (one, later_all p q inbox h o.1)

-- the new post stands between those that are no later and those that are
pub put_between : (inbox : List Post) (p : Post) → IsInOrder inbox → IsPutBetween inbox p (with_post inbox p)
put_between [] p o = record { before = []; behind = []; old_is = refl; new_is = refl; no_later = tt; later = tt }
put_between (q ∷ inbox) p o =
    elim (is_later q p) as (λ b. is_later q p ≡ b → IsPutBetween (q ∷ inbox) p (with_post (q ∷ inbox) p)) [
      | true ↦ λ h. record {
        before = [];
        behind = q ∷ inbox;
        old_is = refl;
        new_is = with_post-stop p q inbox h;
        no_later = tt;
        later = (h, later_all p q inbox h o.0);
      }
      | false ↦ λ h. let rest = put_between inbox p o.1 in record {
        before = q ∷ rest.before;
        behind = rest.behind;
        old_is = ap (λ s. q ∷ s) rest.old_is;
        new_is = with_post-pass p q inbox h ∙ ap (λ s. q ∷ s) rest.new_is;
        no_later = (h, rest.no_later);
        later = rest.later;
      }
    ] refl

-- a fact of all posts stays one with a post more
pub all_with : (P : Post → Type 0) (inbox : List Post) (p : Post) → P p → AllByRecursion P inbox → AllByRecursion P (with_post inbox p)
all_with P [] p h all = (h, tt)
all_with P (q ∷ inbox) p h all =
    elim (is_later q p) as (λ b. AllByRecursion P (cond b (p ∷ q ∷ inbox) (q ∷ with_post inbox p))) [
      | true ↦ (h, (all.0, all.1))
      | false ↦ (all.0, all_with P inbox p h all.1)
    ]

-- the list stays in order
pub in_order-with_post : (inbox : List Post) (p : Post) → IsInOrder inbox → IsInOrder (with_post inbox p)
in_order-with_post [] p o = (tt, tt)
in_order-with_post (q ∷ inbox) p o =
    elim (is_later q p) as (λ b. is_later q p ≡ b → IsInOrder (cond b (p ∷ q ∷ inbox) (q ∷ with_post inbox p))) [
      | true ↦ λ h. let back = no_later_back q p h in
          ((back, weaker (λ r. is_later q r ≡ false) (λ r. is_later p r ≡ false) (λ r no_later. no_later_than p q r back no_later) inbox o.0), o)
      | false ↦ λ h. (all_with (λ r. is_later q r ≡ false) inbox p h o.0, in_order-with_post inbox p o.1)
    ] refl
