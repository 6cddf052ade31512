-- An inbox with one post more: the post stands somewhere in between, also after further posts came.
use Rattle.std.proofs.Common.{◌≡◌, true, false, cond, List, [], ◌∷◌, ◌++◌, refl, sym, ap, subst}
use Rattle.std.specs.List.{AllByRecursion as Each}
use Rattle.slack_base.specs.declared.messages.Post.{Post}
use Rattle.slack_base.specs.Inboxes.{with_post, is_later}
use Rattle.stamp_queue.proofs.Order.{no_later_than, no_later_back}

-- the post is put in front, or later
put_case : (p q : Post) (inbox : List Post) (R : List Post → Type 0) → (is_later q p ≡ true → R (p ∷ q ∷ inbox)) → (is_later q p ≡ false → R (q ∷ with_post inbox p)) → R (with_post (q ∷ inbox) p)
put_case p q inbox R stops passes =
    elim (is_later q p) as (λ b. is_later q p ≡ b → R (cond b (p ∷ q ∷ inbox) (q ∷ with_post inbox p))) [ true ↦ stops | false ↦ passes ] refl

-- the first of these doesn't come before the post
abbrev pub IsBefore : Post → List Post → Type 0
IsBefore p [] = Unit {0}
IsBefore p (v ∷ vs) = is_later p v ≡ false

pub record IsBetween (p : Post) (us vs fewer more : List Post) : Type 0 where
  pub fewer_is : fewer ≡ us ++ vs
  pub more_is : more ≡ us ++ p ∷ vs
  pub next : IsBefore p vs

pub record HasBetween (p : Post) (fewer more : List Post) : Type 0 where
  pub us : List Post
  pub vs : List Post
  pub is : IsBetween p us vs fewer more
  -- before it no later one
  pub early : Each (λ u. is_later u p ≡ false) us

one_more : (p q : Post) (fewer more : List Post) → is_later q p ≡ false → HasBetween p fewer more → HasBetween p (q ∷ fewer) (q ∷ more)
one_more p q fewer more h b = record {
  us = q ∷ b.us;
  vs = b.vs;
  is = record { fewer_is = ap (λ l. q ∷ l) b.is.fewer_is; more_is = ap (λ l. q ∷ l) b.is.more_is; next = b.is.next };
  early = (h, b.early);
}

pub put_between : (p : Post) (inbox : List Post) → HasBetween p inbox (with_post inbox p)
put_between p [] = record { us = []; vs = []; is = record { fewer_is = refl; more_is = refl; next = tt }; early = tt }
put_between p (q ∷ inbox) =
    put_case p q inbox (HasBetween p (q ∷ inbox))
    (λ stops. record { us = []; vs = q ∷ inbox; is = record { fewer_is = refl; more_is = refl; next = no_later_back q p stops }; early = tt })
    (λ passes. one_more p q inbox (with_post inbox p) passes (put_between p inbox))

-- a post that comes before p goes to the front of what follows p
front_of : (p q : Post) (vs : List Post) → is_later p q ≡ true → IsBefore p vs → with_post vs q ≡ q ∷ vs
front_of p q [] h next = refl
front_of p q (v ∷ vs) h next =
    put_case q v vs (λ l. l ≡ q ∷ v ∷ vs)
    (λ stops. refl)
    (λ passes. let low = no_later_than p v q next passes in absurd (cc))

behind : (p q : Post) (vs : List Post) → is_later p q ≡ false → IsBefore p vs → IsBefore p (with_post vs q)
behind p q [] h next = h
behind p q (v ∷ vs) h next = put_case q v vs (IsBefore p) (λ stops. h) (λ passes. next)

-- one post more
more_between : (p q : Post) (us vs : List Post) → IsBefore p vs → Each (λ u. is_later u p ≡ false) us → HasBetween p (with_post (us ++ vs) q) (with_post (us ++ p ∷ vs) q)
more_between p q [] vs next early =
    put_case q p vs (HasBetween p (with_post vs q))
    (λ stops. record {
      us = q ∷ [];
      vs = vs;
      is = record { fewer_is = front_of p q vs stops next; more_is = refl; next = next };
      early = (no_later_back p q stops, tt);
    })
    (λ passes. record {
      us = [];
      vs = with_post vs q;
      is = record { fewer_is = refl; more_is = refl; next = behind p q vs passes next };
      early = tt;
    })
more_between p q (u ∷ us) vs next early =
    elim (is_later u q) as (λ b. is_later u q ≡ b → HasBetween p (with_post (u ∷ us ++ vs) q) (with_post (u ∷ us ++ p ∷ vs) q)) [
      | true ↦ λ on. rw on (one_more p q (u ∷ us ++ vs) (u ∷ us ++ p ∷ vs) (no_later_than q u p (no_later_back u q on) early.0)
          (record { us = u ∷ us; vs = vs; is = record { fewer_is = refl; more_is = refl; next = next }; early = early }))
      | false ↦ λ off. rw off (one_more p u (with_post (us ++ vs) q) (with_post (us ++ p ∷ vs) q) early.0 (more_between p q us vs next early.1))
    ] refl

pub put_more : (p q : Post) (fewer more : List Post) → HasBetween p fewer more → HasBetween p (with_post fewer q) (with_post more q)
put_more p q fewer more b =
    subst (λ fs. HasBetween p (with_post fs q) (with_post more q)) (sym b.is.fewer_is)
    (subst (λ m. HasBetween p (with_post (b.us ++ b.vs) q) (with_post m q)) (sym b.is.more_is) (more_between p q b.us b.vs b.is.next b.early))

-- what is so of each post and of one more is so of each with it
pub each_put : (P : Post → Type 0) (p : Post) (inbox : List Post) → P p → Each P inbox → Each P (with_post inbox p)
each_put P p [] h all = (h, tt)
each_put P p (q ∷ inbox) h all = put_case p q inbox (Each P) (λ _. (h, all)) (λ _. (all.0, each_put P p inbox h all.1))
