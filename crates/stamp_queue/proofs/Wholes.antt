-- An inbox as the posts on its wheel and those off it.
use Rattle.std.proofs.Common.{◌≡◌, ◌≢◌, ◌∙◌, ℕ, ◌+◌, ◌^◌, ◌<◌, ◌≤◌, min, true, false, List, [], ◌∷◌, length, inl, inr, refl, sym, ap, subst, arith}
use Rattle.std.specs.List.{AllByRecursion}
use Rattle.std.proofs.lemmas.Bool.{cases_lt}
use Rattle.slack_base.specs.declared.messages.Post.{Post}
use Rattle.slack_base.specs.Inboxes.{is_later, with_post}
use Rattle.stamp_queue.specs.Inbox.{IsInOrder, next_due}
use Rattle.stamp_queue.specs.Merged.{with_posts}
use Rattle.stamp_queue.specs.OffWheel.{NoneHasDue}
use Rattle.stamp_queue.specs.Whole.{IsSplit, IsWhole, IsPut, IsTaken}
use Rattle.stamp_queue.proofs.Order.{no_later_back, due_no_later}
use Rattle.stamp_queue.proofs.Places.{weaker, both_weaker, all_with, in_order-with_post}
use Rattle.stamp_queue.proofs.Merged.{later_due, put_among, past_dues, stays_first, put_first, in_order-with_posts, all_with_posts, all_of_with_posts, none_sooner, next_due-with_post, next_due-with_posts, length-with_post, length-with_posts}

-- the list is in order
pub whole_order : (on off : List Post) (first count : ℕ) → IsWhole on off first count → IsInOrder (with_posts off on)
whole_order on off first count w = in_order-with_posts on off w.split.off_order

-- no post is due before the first
pub whole_first : (on off : List Post) (first count : ℕ) → IsWhole on off first count → AllByRecursion (λ p. first ≤ p.due) (with_posts off on)
whole_first on off first count w =
    subst (λ d. AllByRecursion (λ p. d ≤ p.due) (with_posts off on)) (sym w.least) (none_sooner (with_posts off on) (whole_order on off first count w))

-- ---- a post is put

-- into the wheel, where none off it has the due
pub put_on : (on off now : List Post) (p : Post) → IsSplit on off → NoneHasDue off p.due → now ≡ with_post on p → IsPut on off now off p
put_on on off now p s none is = record {
  split = record {
    on_order = subst IsInOrder (sym is) (in_order-with_post on p s.on_order);
    off_order = s.off_order;
    apart = subst (AllByRecursion (λ q. NoneHasDue off q.due)) (sym is) (all_with (λ q. NoneHasDue off q.due) on p none s.apart);
  };
  list = ap (with_posts off) is ∙ put_among on off p s.on_order;
}

-- off the wheel, where none on it has the due
pub put_off : (on off now : List Post) (p : Post) → IsSplit on off → AllByRecursion (λ q. q.due ≢ p.due) on → now ≡ with_post off p → IsPut on off on now p
put_off on off now p s none is = record {
  split = record {
    on_order = s.on_order;
    off_order = subst IsInOrder (sym is) (in_order-with_post off p s.off_order);
    apart = subst (λ posts. AllByRecursion (λ q. NoneHasDue posts q.due) on) (sym is)
        (both_weaker (λ q. NoneHasDue off q.due) (λ q. q.due ≢ p.due) (λ q. NoneHasDue (with_post off p) q.due)
        (λ q had other. all_with (λ r. r.due ≢ q.due) off p (λ e. other (sym e)) had) on s.apart none);
  };
  list = ap (λ posts. with_posts posts on) is ∙ past_dues on off p none;
}

-- a due that is off the wheel isn't on it
pub off_not_on : (on off : List Post) (due : ℕ) → IsSplit on off → (NoneHasDue off due → ⊥) → AllByRecursion (λ q. q.due ≢ due) on
off_not_on on off due s has = weaker (λ q. NoneHasDue off q.due) (λ q. q.due ≢ due) (λ q none e. has (subst (NoneHasDue off) e none)) on s.apart

-- the inbox after it
pub put_whole : (on off on_now off_now : List Post) (first count first_now count_now : ℕ) (p : Post) → IsWhole on off first count → IsPut on off on_now off_now p
    → p.due < 2 ^ 64 → first_now ≡ min first p.due → count_now ≡ count + 1 → IsWhole on_now off_now first_now count_now
put_whole on off on_now off_now first count first_now count_now p w put fits first_is count_is = record {
  split = put.split;
  least = first_is ∙ ap (λ d. min d p.due) w.least ∙ sym (next_due-with_post (with_posts off on) p fits) ∙ ap next_due (sym put.list);
  counted = count_is ∙ ap (λ n. n + 1) w.counted ∙ sym (length-with_post (with_posts off on) p) ∙ ap length (sym put.list);
}

-- ---- the first post is taken

-- there are no more posts on the wheel than in all
pub on_within : (on off : List Post) (first count : ℕ) → IsWhole on off first count → length on ≤ count
on_within on off first count w = let size = length-with_posts on off in omega (arith, size, w.counted)

-- from the wheel
pub take_on : (on now off : List Post) (first count : ℕ) (p : Post) → IsWhole on off first count → on ≡ p ∷ now → p.due ≤ first → IsTaken on off now off p
take_on on now off first count p w is due =
    let order : IsInOrder (p ∷ now) = subst IsInOrder is w.split.on_order in
    let apart = subst (AllByRecursion (λ q. NoneHasDue off q.due)) is w.split.apart in
    let later : AllByRecursion (λ q. is_later q p ≡ true) off =
    both_weaker (λ q. q.due ≢ p.due) (λ q. first ≤ q.due) (λ q. is_later q p ≡ true)
    (λ q other from. later_due q p (let no : q.due ≢ p.due = other in omega (arith, from, due))) off apart.0
    (all_of_with_posts (λ q. first ≤ q.due) on off (whole_first on off first count w)).0 in
    record {
      split = record { on_order = order.1; off_order = w.split.off_order; apart = apart.1 };
      list = ap (with_posts off) is ∙ ap (λ posts. with_posts posts now) (put_first off p later) ∙ stays_first now off p order.0;
    }

-- a list has no post that is sooner than its first
none_above : (list : List Post) → AllByRecursion (λ q. next_due list < q.due) list → list ≡ []
none_above [] all = refl
none_above (p ∷ list) all = absurd (omega (arith, all.0))

-- from off it
pub take_off : (on off now : List Post) (first count : ℕ) (p : Post) → IsWhole on off first count → off ≡ p ∷ now → AllByRecursion (λ q. first < q.due) on → IsTaken on off on now p
take_off on off now first count p w is behind =
    let order : IsInOrder (p ∷ now) = subst IsInOrder is w.split.off_order in
    let list = with_posts off on in
    let due : p.due ≤ first = elim (cases_lt first p.due) [
      | inr le ↦ le
      | inl above ↦
          let rest = weaker (λ q. is_later p q ≡ false) (λ q. first < q.due) (λ q h. let d = due_no_later p q h in omega (arith, d, above)) now order.0 in
          let off_all : AllByRecursion (λ q. first < q.due) off = subst (AllByRecursion (λ q. first < q.due)) (sym is) (above, rest) in
          let all : AllByRecursion (λ q. next_due list < q.due) list = subst (λ d. AllByRecursion (λ q. d < q.due) list) w.least (all_with_posts (λ q. first < q.due) on off off_all behind) in
          absurd (subst (AllByRecursion (λ q. ⊥)) is (all_of_with_posts (λ q. ⊥) on off (subst (AllByRecursion (λ q. ⊥)) (sym (none_above list all)) tt)).0).0
    ] in
    let sooner : AllByRecursion (λ q. is_later p q ≡ false) on = weaker (λ q. first < q.due) (λ q. is_later p q ≡ false) (λ q h. no_later_back q p (later_due q p (omega (arith, due, h)))) on behind in
    record {
      split = record {
        on_order = w.split.on_order;
        off_order = order.1;
        apart = weaker (λ q. NoneHasDue off q.due) (λ q. NoneHasDue now q.due) (λ q none. (subst (λ posts. NoneHasDue posts q.due) is none).1) on w.split.apart;
      };
      list = ap (λ posts. with_posts posts on) is ∙ stays_first on now p sooner;
    }

-- neither has a post
pub take_none : (on off : List Post) (first count : ℕ) → IsWhole on off first count → off ≡ [] → AllByRecursion (λ q. first < q.due) on → with_posts off on ≡ []
take_none on off first count w none behind =
    let list = with_posts off on in
    none_above list (subst (λ d. AllByRecursion (λ q. d < q.due) list) w.least
    (all_with_posts (λ q. first < q.due) on off (subst (AllByRecursion (λ q. first < q.due)) (sym none) tt) behind))

-- the inbox after a take
pub taken_whole : (on off on_now off_now : List Post) (first count first_now count_now : ℕ) (p : Post) → IsWhole on off first count → IsTaken on off on_now off_now p
    → next_due on_now < 2 ^ 64 → next_due off_now < 2 ^ 64 → first_now ≡ min (next_due on_now) (next_due off_now) → count_now + 1 ≡ count → IsWhole on_now off_now first_now count_now
taken_whole on off on_now off_now first count first_now count_now p w t on_fits off_fits first_is count_is =
    let size : length (with_posts off on) ≡ length (with_posts off_now on_now) + 1 = ap length t.list ∙ omega arith in
    record {
      split = t.split;
      least = first_is ∙ sym (next_due-with_posts on_now off_now t.split.on_order t.split.off_order on_fits off_fits);
      counted = omega (arith, size, count_is, w.counted);
    }

-- that there was a post to take
pub taken_some : (on off on_now off_now : List Post) (first count : ℕ) (p : Post) → IsWhole on off first count → IsTaken on off on_now off_now p → 0 < count
taken_some on off on_now off_now first count p w t = let size = ap length t.list in omega (arith, size, w.counted)

-- no post is due before the first is
pub none_due_yet : (on off : List Post) (first count cycle : ℕ) → IsWhole on off first count → cycle < first → AllByRecursion (λ q. cycle < q.due) (with_posts off on)
none_due_yet on off first count cycle w h =
    weaker (λ q. first ≤ q.due) (λ q. cycle < q.due) (λ q from. omega (arith, from, h)) (with_posts off on) (whole_first on off first count w)
