-- A late Invalidate of a set that the core didn't touch meanwhile is as if it had come in time.
use Rattle.std.proofs.Common.{◌≡◌, ◌∙◌, ℕ, ◌+◌, ◌<◌, ◌≤◌, zero, suc, true, false, List, [], ◌∷◌, ◌++◌, refl, sym, ap, subst, inl, inr, arith}
use Rattle.std.specs.List.{AllByRecursion as Each}
use Rattle.std.proofs.lemmas.Bool.{cases_Bool}
use Rattle.slack_base.specs.declared.configs.RawConfig.{RawConfig}
use Rattle.slack_base.specs.declared.messages.Ask.{Ask}
use Rattle.slack_base.specs.declared.messages.Post.{Post}
use Rattle.slack_base.specs.declared.messages.PostKind.{PostKind}
use Rattle.slack_base.specs.declared.messages.PostKind.TheVariants.{Reply, Retry, SnoopShare, SnoopOwn, Invalidate}
use Rattle.slack_base.specs.Inboxes.{CoreValue, with_post}
use Rattle.timed_core.specs.Code.{CodeValue}
use Rattle.timed_core.specs.Cores.{HartValue}
use Rattle.timed_core.specs.Touches.{touch_of}
use Rattle.timed_core.proofs.late.Between.{HasBetween, put_between, put_more, each_put}
use Rattle.timed_core.proofs.late.Quiet.{IsFine, sound_fine}
use Rattle.timed_core.proofs.late.Waiting.{IsLater, LessCore, LessOf, left_later, value_fine, value_back, value_passes, soon_value, late_value}
use Rattle.target_law.specs.Cycles.{tick_of}
use Rattle.target_law.specs.Laws.{IsLatePut, IsUnseen}
use Rattle.target_law.specs.Schedules.{with_posts, with_puts, is_invalidate, alone_by}
use Rattle.target_law.proofs.Lists.{each_weaker}
use Rattle.lockstep_model.specs.Rules.{rules_of, owns_of}

kind_is : (kind : PostKind) → is_invalidate kind ≡ true → kind ≡ Invalidate
kind_is (Reply exclusive words) h = absurd (cc)
kind_is Retry h = absurd (cc)
kind_is SnoopShare h = absurd (cc)
kind_is SnoopOwn h = absurd (cc)
kind_is Invalidate h = refl

-- posts that are put one after another
puts_between : (p : Post) (posts fewer more : List Post) → HasBetween p fewer more → HasBetween p (with_posts fewer posts) (with_posts more posts)
puts_between p [] fewer more b = b
puts_between p (q ∷ posts) fewer more b = puts_between p posts (with_post fewer q) (with_post more q) (put_more p q fewer more b)

each_puts : (P : Post → Type 0) (posts inbox : List Post) → Each P posts → Each P inbox → Each P (with_posts inbox posts)
each_puts P [] inbox h all = all
each_puts P (p ∷ posts) inbox h all = each_puts P posts (with_post inbox p) h.1 (each_put P p inbox h.0 all)

-- a post that is no Invalidate comes after d
later_of : (d e : ℕ) (q : Post) → d < e → (is_invalidate q.kind ≡ false → e ≤ q.due) → IsLater d q
later_of d e q late h = elim (cases_Bool (is_invalidate q.kind)) [
  | inl is ↦ inl (kind_is q.kind is)
  | inr other ↦ inr (let low = h other in omega arith)
]

module _ (config : RawConfig) (code : CodeValue) (d line : ℕ) (taken : ℕ → List Post) where
  abbrev Lacks : CoreValue HartValue → CoreValue HartValue
  Lacks core = LessCore code d line core

  abbrev LacksOf : CoreValue HartValue × List Ask → CoreValue HartValue × List Ask
  LacksOf r = LessOf code d line r

  abbrev Low : CoreValue HartValue → Type 0
  Low core = touch_of core.inner.touches line ≤ d

  abbrev run : (a k : ℕ) → CoreValue HartValue → CoreValue HartValue × List Ask
  run a k core = alone_by (rules_of config code) a k core taken

  abbrev now_at : ℕ → CoreValue HartValue → CoreValue HartValue × List Ask
  now_at a core = tick_of (rules_of config code) a (with_puts core (taken a))

  abbrev goes : (a k : ℕ) → CoreValue HartValue × List Ask → CoreValue HartValue × List Ask
  goes a k now = let rest = alone_by (rules_of config code) (a + 1) k now.0 taken in (rest.0, now.1 ++ rest.1)

  now_fine : (a : ℕ) (core : CoreValue HartValue) → IsFine core.inner → IsFine (now_at a core).0.inner
  now_fine a core fine = value_fine code d line a (with_puts core (taken a)) fine

  run_fine : (k a : ℕ) (core : CoreValue HartValue) → IsFine core.inner → IsFine (run a k core).0.inner
  run_fine zero a core fine = fine
  run_fine (suc k) a core fine = run_fine k (a + 1) (now_at a core).0 (now_fine a core fine)

  run_back : (k a : ℕ) (core : CoreValue HartValue) → d ≤ a → IsFine core.inner → Low (run a k core).0 → Low core
  run_back zero a core late fine low = low
  run_back (suc k) a core late fine low =
      value_back code d line a (with_puts core (taken a)) late fine (run_back k (a + 1) (now_at a core).0 (omega arith) (now_fine a core fine) low)

  -- the runs of a core with the line and without it, as long as its set isn't touched
  now_passes : (k a : ℕ) (core : CoreValue HartValue) → d ≤ a → IsFine core.inner → Low (run a (suc k) core).0 → now_at a (Lacks core) ≡ LacksOf (now_at a core)
  now_passes k a core late fine low =
      value_passes code d line a (with_puts core (taken a)) late fine (run_back k (a + 1) (now_at a core).0 (omega arith) (now_fine a core fine) low)

  run_passes : (k a : ℕ) (core : CoreValue HartValue) → d ≤ a → IsFine core.inner → Low (run a k core).0 → run a k (Lacks core) ≡ LacksOf (run a k core)
  run_passes zero a core late fine low = refl
  run_passes (suc k) a core late fine low =
      let now = now_at a core in
      ap (goes a k) (now_passes k a core late fine low)
      ∙ ap (λ (r : CoreValue HartValue × List Ask). (r.0, now.1 ++ r.1)) (run_passes k (a + 1) now.0 (omega arith) (now_fine a core fine) low)

  run_touches : (k j a m : ℕ) (core : CoreValue HartValue) → d ≤ a → IsFine core.inner → Low (run a k core).0 → j ≤ k → touch_of (run a j (Lacks core)).0.inner.touches m ≡ touch_of (run a j core).0.inner.touches m
  run_touches k zero a m core late fine low within = refl
  run_touches zero (suc j) a m core late fine low within = absurd (omega arith)
  run_touches (suc k) (suc j) a m core late fine low within =
      ap (λ (n : CoreValue HartValue × List Ask). touch_of (run (a + 1) j n.0).0.inner.touches m) (now_passes k a core late fine low)
      ∙ run_touches k j (a + 1) m (now_at a core).0 (omega arith) (now_fine a core fine) low (omega arith)

  -- the posts that wait at the end of a run
  run_later : (k a e : ℕ) (core : CoreValue HartValue) → e ≡ a + k → d ≤ a → Each (IsLater d) core.inbox → Each (IsLater d) (taken e) → Each (IsLater d) (run a k core).0.inbox
  run_later zero a e core e_is late h last = let same : e ≡ a = omega arith in each_puts (IsLater d) (taken a) core.inbox (subst (λ t. Each (IsLater d) (taken t)) same last) h
  run_later (suc k) a e core e_is late h last =
      run_later k (a + 1) e (now_at a core).0 (omega arith) (omega arith) (left_later d a (with_posts core.inbox (taken a)) late) last

module _ (config : RawConfig) (code : CodeValue) (d : ℕ) (p : Post) (kind : p.kind ≡ Invalidate) (at : p.due ≡ d) (taken : ℕ → List Post) (core : CoreValue HartValue) (fine : IsFine core.inner) where
  abbrev with_p : CoreValue HartValue
  with_p = with_puts core (p ∷ [])

  abbrev alone : ℕ → CoreValue HartValue → CoreValue HartValue × List Ask
  alone k c = alone_by (rules_of config code) d k c taken

  abbrev first : CoreValue HartValue × List Ask
  first = tick_of (rules_of config code) d (with_puts core (taken d))

  first_fine : IsFine first.0.inner
  first_fine = value_fine code d p.line d (with_puts core (taken d)) fine

  abbrev Untouched : ℕ → Type 0
  Untouched k = touch_of (alone (suc k) core).0.inner.touches p.line ≤ d

  first_passes : (k : ℕ) → Untouched k → tick_of (rules_of config code) d (with_puts with_p (taken d)) ≡ LessOf code d p.line first
  first_passes k low =
      soon_value code d p kind at core.inner (with_posts core.inbox (taken d)) (with_posts (with_post core.inbox p) (taken d)) fine
      (puts_between p (taken d) core.inbox (with_post core.inbox p) (put_between p core.inbox))
      (run_back config code d p.line taken k (d + 1) first.0 (omega arith) first_fine low)

  whole_passes : (k : ℕ) → Untouched k → alone (suc k) with_p ≡ LessOf code d p.line (alone (suc k) core)
  whole_passes k low =
      ap (goes config code d p.line taken d k) (first_passes k low)
      ∙ ap (λ (r : CoreValue HartValue × List Ask). (r.0, first.1 ++ r.1)) (run_passes config code d p.line taken k (d + 1) first.0 (omega arith) first_fine low)

  whole_touches : (k j m : ℕ) → Untouched k → j ≤ suc k → touch_of (alone j with_p).0.inner.touches m ≡ touch_of (alone j core).0.inner.touches m
  whole_touches k zero m low within = refl
  whole_touches k (suc j) m low within =
      ap (λ (n : CoreValue HartValue × List Ask). touch_of (alone_by (rules_of config code) (d + 1) j n.0 taken).0.inner.touches m) (first_passes k low)
      ∙ run_touches config code d p.line taken k j (d + 1) m first.0 (omega arith) first_fine low (omega arith)

  whole_tick : (k : ℕ) → Untouched k → Each (IsLater d) (taken (d + suc k))
      → tick_of (rules_of config code) (d + suc k) (alone (suc k) with_p).0 ≡ tick_of (rules_of config code) (d + suc k) (with_puts (alone (suc k) core).0 (p ∷ []))
  whole_tick k low last =
      let end = (alone (suc k) core).0 in
      let e : d + suc k ≡ (d + 1) + k = omega arith in
      ap (λ (r : CoreValue HartValue × List Ask). tick_of (rules_of config code) (d + suc k) r.0) (whole_passes k low)
      ∙ sym (late_value code d p kind at (d + suc k) end (omega arith) (run_fine config code d p.line taken (suc k) d core fine)
      (run_later config code d p.line taken k (d + 1) (d + suc k) first.0 e (omega arith) (left_later d d (with_posts core.inbox (taken d)) (omega arith)) last))

pub unseen : (config : RawConfig) (code : CodeValue) → 1 ≤ config.sets → (place due k : ℕ) (core : CoreValue HartValue) (taken : ℕ → List Post) (p : Post)
    → IsLatePut (rules_of config code) (owns_of config) place due k core taken p → IsUnseen (rules_of config code) due k core taken p
unseen config code sets place due zero core taken p late = let some = late.some in absurd (omega arith)
unseen config code sets place due (suc k) core taken p late =
    let fine = sound_fine config core.inner sets late.is.own in
    let kind = kind_is p.kind late.kind in
    record {
      asks = ap (λ (r : CoreValue HartValue × List Ask). r.1) (whole_passes config code due p kind late.at taken core fine k late.untouched);
      touches = λ j q within. whole_touches config code due p kind late.at taken core fine k j q.line late.untouched within;
      tick = whole_tick config code due p kind late.at taken core fine k late.untouched
          (each_weaker (λ q h. later_of due (due + suc k) q (omega arith) h) (taken (due + suc k)) (late.posts (suc k) (omega arith)));
    }
