-- Posts put into an inbox: a tick sees nothing of those that aren't due, and their order matters not.
use Rattle.std.proofs.Common.{◌≡◌, ◌≢◌, ◌∙◌, ℕ, ◌<◌, ◌≤◌, List, [], ◌∷◌, Bool, true, false, cond, refl, sym, ap, arith, nat_le, nat_lt, ◌||◌, ◌&&◌, ◌==◌}
use Rattle.std.specs.List.{filter, AllByRecursion as Each}
use Rattle.std.proofs.lemmas.Bool.Decides.{nat_tests}
use Rattle.slack_base.specs.declared.messages.Post.{Post}
use Rattle.slack_base.specs.Inboxes.{with_post, is_later}
use Rattle.slack_base.specs.Stamps.{is_above}
use Rattle.stamp_queue.proofs.Order.{no_later_than, no_later_back, due_no_later}
use Rattle.target_law.specs.Schedules.{with_posts}
use Rattle.target_law.specs.Served.{Pairwise, Perm, none, more, swap, join}
use Rattle.target_law.proofs.Lists.{filter_case, filter-yes, filter-no}
use Rattle.violation_watch.proofs.Ids.{same_id}
use Rattle.violation_watch.proofs.Perms.{perm_pairwise}

-- the post is put in front, or later
pub put_case : (p q : Post) (inbox : List Post) (R : List Post → Type 0) → (is_later q p ≡ true → R (p ∷ q ∷ inbox)) → (is_later q p ≡ false → R (q ∷ with_post inbox p)) → R (with_post (q ∷ inbox) p)
put_case p q inbox R stops passes =
    elim (is_later q p) as (λ b. is_later q p ≡ b → R (cond b (p ∷ q ∷ inbox) (q ∷ with_post inbox p))) [ true ↦ stops | false ↦ passes ] refl

with_post-pass : (p q : Post) (inbox : List Post) → is_later q p ≡ false → with_post (q ∷ inbox) p ≡ q ∷ with_post inbox p
with_post-pass p q inbox h = ap (λ b. cond b (p ∷ q ∷ inbox) (q ∷ with_post inbox p)) h

with_post-stop : (p q : Post) (inbox : List Post) → is_later q p ≡ true → with_post (q ∷ inbox) p ≡ p ∷ q ∷ inbox
with_post-stop p q inbox h = ap (λ b. cond b (p ∷ q ∷ inbox) (q ∷ with_post inbox p)) h

not_due : (t due : ℕ) → t < due → nat_le due t ≡ false
not_due t due h = grind (arith, nat_tests)

still_due : (t due : ℕ) → t < due → nat_lt t due ≡ true
still_due t due h = grind (arith, nat_tests)

-- whoever comes later than a post that isn't due isn't due either
later_due : (p q : Post) → is_later q p ≡ true → p.due ≤ q.due
later_due p q h = due_no_later p q (no_later_back q p h)

module _ (t : ℕ) (p : Post) (late : t < p.due) where
  -- a tick doesn't see a post that isn't due
  pub due-with_post : (inbox : List Post) → filter (λ q. nat_le q.due t) (with_post inbox p) ≡ filter (λ q. nat_le q.due t) inbox
  due-with_post [] = filter-no (λ q. nat_le q.due t) p [] (not_due t p.due late)
  due-with_post (q ∷ inbox) =
      put_case p q inbox (λ l. filter (λ q. nat_le q.due t) l ≡ filter (λ q. nat_le q.due t) (q ∷ inbox))
      (λ _. filter-no (λ q. nat_le q.due t) p (q ∷ inbox) (not_due t p.due late))
      (λ _. ap (λ l. cond (nat_le q.due t) (q ∷ l) l) (due-with_post inbox))

  -- and leaves it in its place
  pub left-with_post : (inbox : List Post) → filter (λ q. nat_lt t q.due) (with_post inbox p) ≡ with_post (filter (λ q. nat_lt t q.due) inbox) p
  left-with_post [] = filter-yes (λ q. nat_lt t q.due) p [] (still_due t p.due late)
  left-with_post (q ∷ inbox) =
      put_case p q inbox (λ l. filter (λ q. nat_lt t q.due) l ≡ with_post (filter (λ q. nat_lt t q.due) (q ∷ inbox)) p)
      (λ stops.
      let after = later_due p q stops in
      let kept : filter (λ q. nat_lt t q.due) (q ∷ inbox) ≡ q ∷ filter (λ q. nat_lt t q.due) inbox = filter-yes (λ q. nat_lt t q.due) q inbox (still_due t q.due (omega arith)) in
      filter-yes (λ q. nat_lt t q.due) p (q ∷ inbox) (still_due t p.due late)
      ∙ ap (λ l. p ∷ l) kept
      ∙ sym (with_post-stop p q (filter (λ q. nat_lt t q.due) inbox) stops)
      ∙ ap (λ l. with_post l p) (sym kept))
      (λ passes. filter_case (λ q. nat_lt t q.due) q (with_post inbox p) (λ l. l ≡ with_post (filter (λ q. nat_lt t q.due) (q ∷ inbox)) p)
      (λ on. ap (λ l. q ∷ l) (left-with_post inbox)
      ∙ sym (with_post-pass p q (filter (λ q. nat_lt t q.due) inbox) passes)
      ∙ ap (λ l. with_post l p) (sym (filter-yes (λ q. nat_lt t q.due) q inbox on)))
      (λ off. left-with_post inbox ∙ ap (λ l. with_post l p) (sym (filter-no (λ q. nat_lt t q.due) q inbox off))))

module _ (t : ℕ) where
  pub due-with_posts : (inbox posts : List Post) → Each (λ p. t < p.due) posts → filter (λ q. nat_le q.due t) (with_posts inbox posts) ≡ filter (λ q. nat_le q.due t) inbox
  due-with_posts inbox [] h = refl
  due-with_posts inbox (p ∷ posts) h = due-with_posts (with_post inbox p) posts h.1 ∙ due-with_post t p h.0 inbox

  pub left-with_posts : (inbox posts : List Post) → Each (λ p. t < p.due) posts → filter (λ q. nat_lt t q.due) (with_posts inbox posts) ≡ with_posts (filter (λ q. nat_lt t q.due) inbox) posts
  left-with_posts inbox [] h = refl
  left-with_posts inbox (p ∷ posts) h = left-with_posts (with_post inbox p) posts h.1 ∙ ap (λ l. with_posts l posts) (left-with_post t p h.0 inbox)

-- two posts with different ids, in either order
later_by : (a b : ℕ) (x : Bool) → (nat_lt b a || ((b == a) && x)) ≡ false → b ≡ a → x ≡ false
later_by a b x h e = grind (arith, nat_tests)

later_due_by : (a b : ℕ) (x : Bool) → (nat_lt b a || ((b == a) && x)) ≡ false → a ≤ b
later_due_by a b x h = grind (arith, nat_tests)

same_posts : (p q : Post) → is_later p q ≡ false → is_later q p ≡ false → p.id ≡ q.id
same_posts p q h k =
    let a : p.due ≤ q.due = later_due_by p.due q.due (is_above p.id q.id) h in
    let b : q.due ≤ p.due = later_due_by q.due p.due (is_above q.id p.id) k in
    same_id p.id q.id (later_by p.due q.due (is_above p.id q.id) h (omega arith)) (later_by q.due p.due (is_above q.id p.id) k (omega arith))

-- both go in front
swap_front : (p q : Post) → p.id ≢ q.id → (rest : List Post) → with_post rest p ≡ p ∷ rest → with_post rest q ≡ q ∷ rest → with_post (p ∷ rest) q ≡ with_post (q ∷ rest) p
swap_front p q apart rest ep eq =
    put_case q p rest (λ l. l ≡ with_post (q ∷ rest) p)
    (λ stops. ap (λ l. q ∷ l) (sym ep) ∙ sym (with_post-pass p q rest (no_later_back p q stops)))
    (λ passes. put_case p q rest (λ l. p ∷ with_post rest q ≡ l)
    (λ _. ap (λ l. p ∷ l) eq)
    (λ also. absurd (apart (same_posts p q passes also))))

pub put_swap : (p q : Post) → p.id ≢ q.id → (inbox : List Post) → with_post (with_post inbox p) q ≡ with_post (with_post inbox q) p
put_swap p q apart [] = swap_front p q apart [] refl refl
put_swap p q apart (r ∷ l) =
    put_case p r l (λ m. with_post m q ≡ with_post (with_post (r ∷ l) q) p)
    (λ p_stops. put_case q r l (λ m. with_post (p ∷ r ∷ l) q ≡ with_post m p)
    (λ q_stops. swap_front p q apart (r ∷ l) (with_post-stop p r l p_stops) (with_post-stop q r l q_stops))
    (λ q_passes.
    with_post-pass q p (r ∷ l) (no_later_than p r q (no_later_back r p p_stops) q_passes)
    ∙ ap (λ m. p ∷ m) (with_post-pass q r l q_passes)
    ∙ sym (with_post-stop p r (with_post l q) p_stops)))
    (λ p_passes. put_case q r l (λ m. with_post (r ∷ with_post l p) q ≡ with_post m p)
    (λ q_stops.
    with_post-stop q r (with_post l p) q_stops
    ∙ ap (λ m. q ∷ m) (sym (with_post-pass p r l p_passes))
    ∙ sym (with_post-pass p q (r ∷ l) (no_later_than q r p (no_later_back r q q_stops) p_passes)))
    (λ q_passes.
    with_post-pass q r (with_post l p) q_passes
    ∙ ap (λ m. r ∷ m) (put_swap p q apart l)
    ∙ sym (with_post-pass p r (with_post l q) p_passes)))

abbrev pub AreApart : List Post → Type 0
AreApart posts = Pairwise (λ p q. p.id ≢ q.id) posts

-- posts of different asks go into an inbox in any order
pub with_posts_perm : {ps qs : List Post} → Perm Post ps qs → AreApart ps → (inbox : List Post) → with_posts inbox ps ≡ with_posts inbox qs
with_posts_perm none apart inbox = refl
with_posts_perm (more p h) apart inbox = with_posts_perm h apart.1 (with_post inbox p)
with_posts_perm (swap p q ps) apart inbox = ap (λ l. with_posts l ps) (put_swap p q apart.0.0 inbox)
with_posts_perm (join h k) apart inbox = with_posts_perm h apart inbox ∙ with_posts_perm k (perm_pairwise (λ p q d e. d (sym e)) h apart) inbox
