-- A tick of a core with an Invalidate among the posts that wait for it, and one of a core without the line.
use Rattle.std.proofs.Common.{◌≡◌, ◌∙◌, ◌⊎◌, ℕ, ◌<◌, ◌≤◌, Bool, true, false, cond, List, [], ◌∷◌, ◌++◌, nat_le, nat_lt, refl, sym, ap, subst, inl, inr, arith}
use Rattle.std.specs.List.{filter, AllByRecursion as Each}
use Rattle.std.proofs.lemmas.Bool.Decides.{nat_tests}
use Rattle.std.proofs.lemmas.List.Elements.{filter-append}
use Rattle.slack_base.specs.declared.messages.Ask.{Ask}
use Rattle.slack_base.specs.declared.messages.Post.{Post}
use Rattle.slack_base.specs.declared.messages.PostKind.TheVariants.{Invalidate}
use Rattle.slack_base.specs.Inboxes.{CoreValue, with_put, with_post, is_later, tick_by}
use Rattle.stamp_queue.proofs.Order.{due_no_later}
use Rattle.timed_core.specs.Code.{CodeValue}
use Rattle.timed_core.specs.Cores.{HartValue}
use Rattle.timed_core.specs.Ticks.{applied_all, tick}
use Rattle.timed_core.specs.Touches.{touch_of}
use Rattle.timed_core.proofs.late.Between.{HasBetween, put_between}
use Rattle.timed_core.proofs.late.GivenUp.{less}
use Rattle.timed_core.proofs.late.Places.{IsApart}
use Rattle.timed_core.proofs.late.Quiet.{IsFine, some_sets, tick_back, tick_fine, quiet_tick}
use Rattle.timed_core.proofs.late.SetCount.{count_of}
use Rattle.timed_core.proofs.late.Ticks.{invalidate_apart, late_tick, soon_tick}
use Rattle.timed_core.proofs.late.Touched.{line_of_step}
use Rattle.timed_core.proofs.late.Rising.{AreApart, apart_last}

due_is : (due t : ℕ) → due ≤ t → nat_le due t ≡ true
due_is due t h = grind (arith, nat_tests)

not_left : (due t : ℕ) → due ≤ t → nat_lt t due ≡ false
not_left due t h = grind (arith, nat_tests)

left_is : (due t : ℕ) → nat_lt t due ≡ true → t < due
left_is due t h = grind (arith, nat_tests)

filter_case : (f : Post → Bool) (x : Post) (xs : List Post) (R : List Post → Type 0) → (f x ≡ true → R (x ∷ filter f xs)) → (f x ≡ false → R (filter f xs)) → R (filter f (x ∷ xs))
filter_case f x xs R on off = elim (f x) as (λ b. f x ≡ b → R (cond b (x ∷ filter f xs) (filter f xs))) [ true ↦ on | false ↦ off ] refl

-- the posts of a tick that sees p too, and those that it leaves
filter_with : (f : Post → Bool) (us vs : List Post) (p : Post) → f p ≡ true → filter f (us ++ p ∷ vs) ≡ filter f us ++ p ∷ filter f vs
filter_with f us vs p on = filter-append f us (p ∷ vs) ∙ ap (λ b. filter f us ++ cond b (p ∷ filter f vs) (filter f vs)) on

filter_without : (f : Post → Bool) (us vs : List Post) (p : Post) → f p ≡ false → filter f (us ++ p ∷ vs) ≡ filter f (us ++ vs)
filter_without f us vs p off = filter-append f us (p ∷ vs) ∙ ap (λ b. filter f us ++ cond b (p ∷ filter f vs) (filter f vs)) off ∙ sym (filter-append f us vs)

each_first : (P : Post → Type 0) (xs ys : List Post) → Each P (xs ++ ys) → Each P xs
each_first P [] ys h = tt
each_first P (x ∷ xs) ys h = (h.0, each_first P xs ys h.1)

-- all but Invalidates are due after d
abbrev pub IsLater : ℕ → Post → Type 0
IsLater d q = (q.kind ≡ Invalidate) ⊎ (d < q.due)

-- what is no later than p, due at d, is an Invalidate, and touches nothing
early_apart : (n d line t : ℕ) (p : Post) (us : List Post) → p.due ≡ d → Each (λ u. is_later u p ≡ false) us → Each (IsLater d) us → AreApart n (filter (λ q. nat_le q.due t) us) line
early_apart n d line t p [] at early later = tt
early_apart n d line t p (u ∷ us) at early later =
    filter_case (λ q. nat_le q.due t) u us (λ l. AreApart n l line)
    (λ on. (
      elim later.0 [
        | inl is ↦ invalidate_apart n u.line line u.kind is
        | inr late ↦ let low = due_no_later u p early.0 in absurd (omega arith)
      ],
      early_apart n d line t p us at early.1 later.1,
    ))
    (λ off. early_apart n d line t p us at early.1 later.1)

pub left_later : (d t : ℕ) (inbox : List Post) → d ≤ t → Each (IsLater d) (filter (λ q. nat_lt t q.due) inbox)
left_later d t [] late = tt
left_later d t (q ∷ inbox) late =
    filter_case (λ q. nat_lt t q.due) q inbox (Each (IsLater d))
    (λ on. (inr (let h = left_is q.due t on in omega arith), left_later d t inbox late))
    (λ off. left_later d t inbox late)

module _ (code : CodeValue) (d line : ℕ) where
  -- the core without the line
  abbrev pub LessCore : CoreValue HartValue → CoreValue HartValue
  LessCore core = record core { inner = less code.base line core.inner }

  abbrev pub LessOf : CoreValue HartValue × List Ask → CoreValue HartValue × List Ask
  LessOf r = (LessCore r.0, r.1)

  abbrev pub Low : CoreValue HartValue → Type 0
  Low core = touch_of core.inner.touches line ≤ d

  abbrev due_at : ℕ → CoreValue HartValue → List Post
  due_at t core = filter (λ p. nat_le p.due t) core.inbox

  pub value_fine : (t : ℕ) (core : CoreValue HartValue) → IsFine core.inner → IsFine (tick_by (tick code) t core).0.inner
  value_fine t core fine = tick_fine code core.inner t (due_at t core) fine

  pub value_back : (t : ℕ) (core : CoreValue HartValue) → d ≤ t → IsFine core.inner → Low (tick_by (tick code) t core).0 → Low core
  value_back t core late fine low = (tick_back code d line t core.inner (due_at t core) late fine low).earlier

  pub value_passes : (t : ℕ) (core : CoreValue HartValue) → d ≤ t → IsFine core.inner → Low (tick_by (tick code) t core).0
      → tick_by (tick code) t (LessCore core) ≡ LessOf (tick_by (tick code) t core)
  value_passes t core late fine low =
      ap (λ (r : HartValue × List Ask). (record { inner = r.0; inbox = filter (λ p. nat_lt t p.due) core.inbox }, r.1))
      (quiet_tick code d line t core.inner (due_at t core) fine (tick_back code d line t core.inner (due_at t core) late fine low))

module _ (code : CodeValue) (d : ℕ) (p : Post) (kind : p.kind ≡ Invalidate) (at : p.due ≡ d) where
  -- the two ticks of a core with p in between, by the posts that they see and leave
  abbrev after_tick : ℕ → List Post → HartValue × List Ask → CoreValue HartValue × List Ask
  after_tick t inbox ticked = (record { inner = ticked.0; inbox = filter (λ q. nat_lt t q.due) inbox }, ticked.1)

  abbrev seen : ℕ → List Post → List Post
  seen t inbox = filter (λ q. nat_le q.due t) inbox

  step_of : (inner : HartValue) (xs ys : List Post) → ys ≡ xs → IsApart (count_of inner) (line_of_step code (applied_all code.base d 0 inner ys).0) p.line
      → IsApart (count_of inner) (line_of_step code (applied_all code.base d 0 inner xs).0) p.line
  step_of inner xs ys e h = subst (λ l. IsApart (count_of inner) (line_of_step code (applied_all code.base d 0 inner l).0) p.line) e h

  -- at its due: a tick with p, and one without it that touches its set no more
  pub soon_value : (inner : HartValue) (fewer more : List Post) → IsFine inner → HasBetween p fewer more
      → touch_of (tick_by (tick code) d (record { inner = inner; inbox = fewer })).0.inner.touches p.line ≤ d
      → tick_by (tick code) d (record { inner = inner; inbox = more }) ≡ LessOf code d p.line (tick_by (tick code) d (record { inner = inner; inbox = fewer }))
  soon_value inner fewer more fine b low =
      let us = b.us in
      let vs = b.vs in
      let quiet = tick_back code d p.line d inner (seen d fewer) (omega arith) fine low in
      let parts : seen d fewer ≡ seen d us ++ seen d vs = ap (seen d) b.is.fewer_is ∙ filter-append (λ q. nat_le q.due d) us vs in
      let whole : seen d more ≡ seen d us ++ p ∷ seen d vs = ap (seen d) b.is.more_is ∙ filter_with (λ q. nat_le q.due d) us vs p (due_is p.due d (omega arith)) in
      let left : filter (λ q. nat_lt d q.due) more ≡ filter (λ q. nat_lt d q.due) fewer =
      ap (filter (λ q. nat_lt d q.due)) b.is.more_is ∙ filter_without (λ q. nat_lt d q.due) us vs p (not_left p.due d (omega arith)) ∙ ap (filter (λ q. nat_lt d q.due)) (sym b.is.fewer_is) in
      let posts : AreApart (count_of inner) (seen d us ++ seen d vs) p.line = subst (λ l. AreApart (count_of inner) l p.line) parts quiet.posts in
      ap (λ l. after_tick d more (tick code inner d l)) whole
      ∙ ap (after_tick d more) (soon_tick code p.line d p kind refl inner (seen d us) (seen d vs) (some_sets inner fine)
      (apart_last (count_of inner) p.line (seen d us) (seen d vs) posts) (step_of inner (seen d us ++ seen d vs) (seen d fewer) parts quiet.step))
      ∙ ap (λ l. after_tick d more (less code.base p.line (tick code inner d l).0, (tick code inner d l).1)) (sym parts)
      ∙ ap (λ l. (record { inner = less code.base p.line (tick code inner d (seen d fewer)).0; inbox = l }, (tick code inner d (seen d fewer)).1)) left

  -- later: a tick with p, and one of the core without the line
  pub late_value : (t : ℕ) (core : CoreValue HartValue) → d ≤ t → IsFine core.inner → Each (IsLater d) core.inbox
      → tick_by (tick code) t (with_put p core) ≡ tick_by (tick code) t (LessCore code d p.line core)
  late_value t core late fine later =
      let b = put_between p core.inbox in
      let us = b.us in
      let vs = b.vs in
      let more = with_post core.inbox p in
      let parts : seen t core.inbox ≡ seen t us ++ seen t vs = ap (seen t) b.is.fewer_is ∙ filter-append (λ q. nat_le q.due t) us vs in
      let whole : seen t more ≡ seen t us ++ p ∷ seen t vs = ap (seen t) b.is.more_is ∙ filter_with (λ q. nat_le q.due t) us vs p (due_is p.due t (omega arith)) in
      let left : filter (λ q. nat_lt t q.due) more ≡ filter (λ q. nat_lt t q.due) core.inbox =
      ap (filter (λ q. nat_lt t q.due)) b.is.more_is ∙ filter_without (λ q. nat_lt t q.due) us vs p (not_left p.due t (omega arith)) ∙ ap (filter (λ q. nat_lt t q.due)) (sym b.is.fewer_is) in
      let calm = early_apart (count_of core.inner) d p.line t p us at b.early (each_first (IsLater d) us vs (subst (Each (IsLater d)) b.is.fewer_is later)) in
      ap (λ l. after_tick t more (tick code core.inner t l)) whole
      ∙ ap (after_tick t more) (late_tick code p.line t p kind refl core.inner (seen t us) (seen t vs) (some_sets core.inner fine) calm)
      ∙ ap (λ l. after_tick t more (tick code (less code.base p.line core.inner) t l)) (sym parts)
      ∙ ap (λ l. (record { inner = (tick code (less code.base p.line core.inner) t (seen t core.inbox)).0; inbox = l }, (tick code (less code.base p.line core.inner) t (seen t core.inbox)).1)) left
