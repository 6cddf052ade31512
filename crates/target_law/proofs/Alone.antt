-- A core alone does what the literal reading says, clock by clock, and so has one outcome; and a drift has one end.
use Rattle.std.proofs.Common.{◌≡◌, ◌∙◌, ℕ, ◌+◌, ◌<◌, ◌≤◌, zero, suc, List, [], ◌∷◌, ◌++◌, refl, sym, ap, arith, append_assoc, ⊎_elim}
use Rattle.std.specs.List.{AllByRecursion as Each}
use Rattle.std.proofs.lemmas.Bool.{cases_lt}
use Rattle.std.proofs.lemmas.List.{append-nil}
use Rattle.slack_base.specs.declared.histories.Drift.{Drift}
use Rattle.slack_base.specs.declared.histories.Taken.{Taken}
use Rattle.slack_base.specs.declared.messages.Ask.{Ask}
use Rattle.slack_base.specs.declared.messages.Post.{Post}
use Rattle.slack_base.specs.Inboxes.{CoreValue, with_post, with_put}
use Rattle.target_law.specs.Alone.{Alone, begins, takes, ticks, touch_of, taking}
use Rattle.target_law.specs.AloneLaw.{taken_at, alone, IsLiteral, AllLiteral, AllOneOutcome, AllOneEnd}
use Rattle.target_law.specs.Cycles.{StateValue, tick_of}
use Rattle.target_law.specs.Drifts.{IsPartOf}
use Rattle.target_law.specs.Numbered.{AllNumberedTriples}
use Rattle.target_law.specs.Rules.{Rules}
use Rattle.target_law.specs.Schedules.{with_posts, with_puts, alone_by}
use Rattle.target_law.proofs.Clocks.{taken_at-now, taken_at-not, taken_at-append, taken_at-over, clocks_higher, clocks_below, clocks_more}
use Rattle.target_law.proofs.Lists.{each_weaker, each_append}
use Rattle.target_law.proofs.Lockstep.{state_path}

pub with_posts-append : (inbox ps qs : List Post) → with_posts inbox (ps ++ qs) ≡ with_posts (with_posts inbox ps) qs
with_posts-append inbox [] qs = refl
with_posts-append inbox (p ∷ ps) qs = with_posts-append (with_post inbox p) ps qs

module _ {Inner Chan : Type 0} (rules : Rules Inner Chan) where
  abbrev pub after : CoreValue Inner × List Ask → CoreValue Inner × List Ask → CoreValue Inner × List Ask
  after now rest = (rest.0, now.1 ++ rest.1)

  -- the inner value depends on the posts up to the last tick only
  pub same_inner : (a k : ℕ) (core : CoreValue Inner) (σ τ : ℕ → List Post) → ((t : ℕ) → a ≤ t → t < a + k → σ t ≡ τ t) → (alone_by rules a k core σ).0.inner ≡ (alone_by rules a k core τ).0.inner
  same_inner a zero core σ τ h = refl
  same_inner a (suc k) core σ τ h =
      ap (λ ps. (alone_by rules (a + 1) k (tick_of rules a (with_puts core ps)).0 σ).0.inner) (h a (omega arith) (omega arith))
      ∙ same_inner (a + 1) k (tick_of rules a (with_puts core (τ a))).0 σ τ (λ t l m. h t (omega arith) (omega arith))

  -- a post more, taken at the clock that the core has come to
  alone_takes : (a k : ℕ) (core : CoreValue Inner) (taken : List Taken) (x : Taken) → x.clock ≡ a + k
      → alone rules a k core (taken ++ x ∷ []) ≡ (with_puts (alone rules a k core taken).0 (x.post ∷ []), (alone rules a k core taken).1)
  alone_takes a zero core taken x at =
      let e : x.clock ≡ a = omega arith in
      ap (λ posts. (with_puts core posts, [])) (taken_at-append a taken (x ∷ []) ∙ ap (λ posts. taken_at a taken ++ posts) (taken_at-now a x [] e))
      ∙ ap (λ inbox. (record core { inbox = inbox }, [])) (with_posts-append core.inbox (taken_at a taken) (x.post ∷ []))
  alone_takes a (suc k) core taken x at =
      let now = tick_of rules a (with_puts core (taken_at a taken)) in
      let same : taken_at a (taken ++ x ∷ []) ≡ taken_at a taken =
      taken_at-append a taken (x ∷ []) ∙ ap (λ posts. taken_at a taken ++ posts) (taken_at-not a x [] (λ e. omega arith)) ∙ append-nil (taken_at a taken) in
      ap (λ posts. let now = tick_of rules a (with_puts core posts) in after now (alone rules (a + 1) k now.0 (taken ++ x ∷ []))) same
      ∙ ap (after now) (alone_takes (a + 1) k now.0 taken x (omega arith))

  -- a tick more, at the clock that the core has come to
  alone_ticks : (a k c : ℕ) (core : CoreValue Inner) (taken : List Taken) → c ≡ a + k → Each (λ x. x.clock ≤ c) taken
      → alone rules a (suc k) core taken ≡ ((tick_of rules c (alone rules a k core taken).0).0, (alone rules a k core taken).1 ++ (tick_of rules c (alone rules a k core taken).0).1)
  alone_ticks a zero c core taken at low =
      let e : a ≡ c = omega arith in
      let now = tick_of rules a (with_puts core (taken_at a taken)) in
      ap (λ posts. after now (with_puts now.0 posts, [])) (taken_at-over (a + 1) taken (each_weaker (λ x l. omega arith) taken low))
      ∙ ap (λ asks. (now.0, asks)) (append-nil now.1)
      ∙ ap (λ t. let one = tick_of rules t (with_puts core (taken_at a taken)) in (one.0, one.1)) e
  alone_ticks a (suc k) c core taken at low =
      let now = tick_of rules a (with_puts core (taken_at a taken)) in
      let rest = alone rules (a + 1) k now.0 taken in
      let last = tick_of rules c rest.0 in
      ap (after now) (alone_ticks (a + 1) k c now.0 taken (omega arith) low) ∙ ap (λ asks. (last.0, asks)) (sym (append_assoc now.1 rest.1 last.1))

  -- a post that is taken at clock c changes nothing up to the tick before
  inner_before : (a j c : ℕ) (core : CoreValue Inner) (taken : List Taken) (x : Taken) → x.clock ≡ c → a + j ≤ c
      → (alone rules a j core taken).0.inner ≡ (alone rules a j core (taken ++ x ∷ [])).0.inner
  inner_before a j c core taken x at low =
      same_inner a j core (λ t. taken_at t taken) (λ t. taken_at t (taken ++ x ∷ []))
      (λ t l m. sym (taken_at-append t taken (x ∷ []) ∙ ap (λ posts. taken_at t taken ++ posts) (taken_at-not t x [] (λ e. omega arith)) ∙ append-nil (taken_at t taken)))

  literal_takes : (core : CoreValue Inner) (a k : ℕ) (taken : List Taken) (now : CoreValue Inner) (asks : List Ask) (p : Post)
      → IsLiteral rules core a k taken now asks → IsLiteral rules core a k (taken ++ taking rules (a + k) now.inner p ∷ []) (with_put p now) asks
  literal_takes core a k taken now asks p h =
      let x = taking rules (a + k) now.inner p in
      let more = alone_takes a k core taken x refl in
      record {
        end = ap (with_put p) h.end ∙ sym (ap (λ r. r.0) more);
        sent = h.sent ∙ sym (ap (λ r. r.1) more);
        clocks = clocks_more a (a + k) taken x (omega arith) refl h.clocks;
        touches = λ j l.
            let same = inner_before a j (a + k) core taken x refl (omega arith) in
            each_append (λ y. y.clock ≡ a + j → y.touched ≡ touch_of rules (alone rules a j core (taken ++ x ∷ [])).0.inner y.post) taken (x ∷ [])
            (each_weaker (λ y old at. old at ∙ ap (λ inner. touch_of rules inner y.post) same) taken (h.touches j l)) (
              λ at.
                  let last : k ≡ j = omega arith in
                  ap (λ (c : CoreValue Inner). touch_of rules c.inner p) h.end
                  ∙ ap (λ n. touch_of rules (alone rules a n core taken).0.inner p) last
                  ∙ ap (λ inner. touch_of rules inner p) same,
              tt,
            );
      }

  literal_ticks : (core : CoreValue Inner) (a k : ℕ) (taken : List Taken) (now : CoreValue Inner) (asks : List Ask)
      → IsLiteral rules core a k taken now asks → IsLiteral rules core a (suc k) taken (tick_of rules (a + k) now).0 (asks ++ (tick_of rules (a + k) now).1)
  literal_ticks core a k taken now asks h =
      let below = clocks_below a (a + k) taken h.clocks in
      let more = alone_ticks a k (a + k) core taken refl below in
      let tick : tick_of rules (a + k) now ≡ tick_of rules (a + k) (alone rules a k core taken).0 = ap (tick_of rules (a + k)) h.end in
      record {
        end = ap (λ r. r.0) tick ∙ sym (ap (λ r. r.0) more);
        sent = ap (λ xs. xs ++ (tick_of rules (a + k) now).1) h.sent ∙ ap (λ r. (alone rules a k core taken).1 ++ r.1) tick ∙ sym (ap (λ r. r.1) more);
        clocks = clocks_higher a (a + k) (a + suc k) taken (omega arith) h.clocks;
        touches = λ j l.
            ⊎_elim (λ lt. h.touches j (omega arith))
            (λ ge. each_weaker (λ y under at. absurd (omega arith)) taken below)
            (cases_lt j (suc k));
      }

  literal : (core : CoreValue Inner) (a : ℕ) {k : ℕ} {taken : List Taken} {now : CoreValue Inner} {asks : List Ask} → Alone rules core a k taken now asks → IsLiteral rules core a k taken now asks
  literal core a begins = record { end = refl; sent = refl; clocks = tt; touches = λ j l. tt }
  literal core a (takes {k = k} {taken = taken} {now = now} {asks = asks} p h) = literal_takes core a k taken now asks p (literal core a h)
  literal core a (ticks {k = k} {taken = taken} {now = now} {asks = asks} h) = literal_ticks core a k taken now asks (literal core a h)

  pub all_literal : AllLiteral rules
  all_literal core a k taken now asks h = literal core a h

  pub all_one_outcome : AllOneOutcome rules
  all_one_outcome core a k taken now other asks others h g =
      let one = all_literal core a k taken now asks h in
      let two = all_literal core a k taken other others g in
      (one.end ∙ sym two.end, one.sent ∙ sym two.sent)

  one_end : (s : StateValue Inner Chan) (d : Drift) (n : ℕ) (cores : List (CoreValue Inner)) (sent : List (List Taken)) (after others : List (CoreValue Inner))
      → AllNumberedTriples (IsPartOf rules s d) n cores sent after → AllNumberedTriples (IsPartOf rules s d) n cores sent others → after ≡ others
  one_end s d n [] [] [] [] h g = refl
  one_end s d n [] [] [] (f ∷ others) h g = absurd g
  one_end s d n [] [] (e ∷ after) others h g = absurd h
  one_end s d n [] (taken ∷ sent) after others h g = absurd h
  one_end s d n (core ∷ cores) [] after others h g = absurd h
  one_end s d n (core ∷ cores) (taken ∷ sent) [] others h g = absurd h
  one_end s d n (core ∷ cores) (taken ∷ sent) (e ∷ after) [] h g = absurd g
  one_end s d n (core ∷ cores) (taken ∷ sent) (e ∷ after) (f ∷ others) h g =
      let here = all_one_outcome core s.clock d.len taken e f _ _ h.0.alone g.0.alone in
      ap (λ c. c ∷ after) here.0 ∙ ap (λ cs. f ∷ cs) (one_end s d (n + 1) cores sent after others h.1 g.1)

  pub all_one_end : AllOneEnd rules
  all_one_end s d e f h g = state_path e f (h.clock ∙ sym g.clock) (one_end s d 0 s.cores d.sent e.cores f.cores h.cores g.cores) (h.chans ∙ sym g.chans)
