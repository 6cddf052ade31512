-- A core alone, by the posts that it takes at each clock: what it takes in time is as if it had been there from the start.
use Rattle.std.proofs.Common.{◌≡◌, ◌≢◌, ◌∙◌, ℕ, ◌+◌, ◌<◌, ◌≤◌, zero, suc, List, [], ◌∷◌, ◌++◌, refl, sym, ap, subst, arith, append_assoc}
use Rattle.std.specs.List.{AllByRecursion as Each}
use Rattle.slack_base.specs.declared.messages.Ask.{Ask}
use Rattle.slack_base.specs.declared.messages.Post.{Post}
use Rattle.slack_base.specs.Inboxes.{CoreValue}
use Rattle.target_law.specs.Cycles.{tick_of}
use Rattle.target_law.specs.Rules.{Rules}
use Rattle.target_law.specs.Schedules.{with_posts, with_puts, alone_by}
use Rattle.target_law.specs.Served.{Perm, join}
use Rattle.target_law.proofs.Alone.{with_posts-append, after}
use Rattle.target_law.proofs.Lists.{each_weaker, each_append}
use Rattle.violation_watch.proofs.Early.{run, tick-with_posts}
use Rattle.violation_watch.proofs.Lists.{at_or_after}
use Rattle.violation_watch.proofs.Perms.{perm_of, perm_before, perm_behind, perm_middle}

-- all posts from clock a on, for k clocks more
abbrev pub taken_in : (a k : ℕ) → (ℕ → List Post) → List Post
taken_in a zero taken = taken a
taken_in a (suc k) taken = taken a ++ taken_in (a + 1) k taken

abbrev pub ArePunctual : (a k : ℕ) → (ℕ → List Post) → Type 0
ArePunctual a k taken = (j : ℕ) → j ≤ k → Each (λ q. a + j ≤ q.due) (taken (a + j))

pub taken_in-agree : (a k : ℕ) (σ τ : ℕ → List Post) → ((t : ℕ) → a ≤ t → t ≤ a + k → σ t ≡ τ t) → taken_in a k σ ≡ taken_in a k τ
taken_in-agree a zero σ τ h = h a (omega arith) (omega arith)
taken_in-agree a (suc k) σ τ h =
    ap (λ ps. ps ++ taken_in (a + 1) k σ) (h a (omega arith) (omega arith)) ∙ ap (λ ps. τ a ++ ps) (taken_in-agree (a + 1) k σ τ (λ t l m. h t (omega arith) (omega arith)))

-- one post more at one clock
pub taken_in_more : (a k c : ℕ) (σ τ : ℕ → List Post) (p : Post) → a ≤ c → c ≤ a + k → ((t : ℕ) → t ≢ c → τ t ≡ σ t) → Perm Post (p ∷ σ c) (τ c) → Perm Post (p ∷ taken_in a k σ) (taken_in a k τ)
taken_in_more a zero c σ τ p low high other here = let e : c ≡ a = omega arith in subst (λ t. Perm Post (p ∷ σ t) (τ t)) e here
taken_in_more a (suc k) c σ τ p low high other here =
    at_or_after a c low
    (λ e.
    let at : Perm Post (p ∷ σ a) (τ a) = subst (λ t. Perm Post (p ∷ σ t) (τ t)) (sym e) here in
    join (perm_before (taken_in (a + 1) k σ) at)
    (perm_of _ _ (ap (λ ps. τ a ++ ps) (taken_in-agree (a + 1) k σ τ (λ t l m. sym (other t (λ f. omega arith)))))))
    (λ l.
    join (perm_middle p (σ a) (taken_in (a + 1) k σ))
    (join (perm_behind (σ a) (taken_in_more (a + 1) k c σ τ p l (omega arith) other here))
    (perm_of _ _ (ap (λ ps. ps ++ taken_in (a + 1) k τ) (sym (other a (λ f. omega arith)))))))

taken_in_late : (low a k : ℕ) (σ : ℕ → List Post) → low < a → ArePunctual a k σ → Each (λ p. low < p.due) (taken_in a k σ)
taken_in_late low a zero σ l h = each_weaker (λ p k. omega arith) (σ a) (subst (λ n. Each (λ q. a + zero ≤ q.due) (σ n)) (let e : a + zero ≡ a = omega arith in e) (h zero (omega arith)))
taken_in_late low a (suc k) σ l h =
    each_append (λ p. low < p.due) (σ a) (taken_in (a + 1) k σ)
    (each_weaker (λ p k. omega arith) (σ a) (subst (λ n. Each (λ q. a + zero ≤ q.due) (σ n)) (let e : a + zero ≡ a = omega arith in e) (h zero (omega arith))))
    (taken_in_late low (a + 1) k σ (omega arith) (punctual_next a k σ h))
  where
    punctual_next : (a k : ℕ) (σ : ℕ → List Post) → ArePunctual a (suc k) σ → ArePunctual (a + 1) k σ
    punctual_next a k σ h j l = let e : a + suc j ≡ a + 1 + j = omega arith in subst (λ n. Each (λ q. n ≤ q.due) (σ n)) e (h (suc j) (omega arith))

pub punctual_more : (a k : ℕ) (σ : ℕ → List Post) → ArePunctual a (suc k) σ → ArePunctual (a + 1) k σ
punctual_more a k σ h j l = let e : a + suc j ≡ a + 1 + j = omega arith in subst (λ n. Each (λ q. n ≤ q.due) (σ n)) e (h (suc j) (omega arith))

module _ {Inner Chan : Type 0} (rules : Rules Inner Chan) where
  -- what is taken in time is as if it had been put at the start
  pub alone_by-run : (a k : ℕ) (core : CoreValue Inner) (σ : ℕ → List Post) → ArePunctual a k σ → alone_by rules a k core σ ≡ run rules a k (with_puts core (taken_in a k σ))
  alone_by-run a zero core σ h = refl
  alone_by-run a (suc k) core σ h =
      let begun = with_puts core (σ a) in
      let now = tick_of rules a begun in
      let others = taken_in (a + 1) k σ in
      ap (after rules now) (alone_by-run (a + 1) k now.0 σ (punctual_more a k σ h))
      ∙ sym (ap (λ now. after rules now (run rules (a + 1) k now.0)) (tick-with_posts rules a begun others (taken_in_late a (a + 1) k σ (omega arith) (punctual_more a k σ h))))
      ∙ sym (ap (λ inbox. run rules a (suc k) (record core { inbox = inbox })) (with_posts-append core.inbox (σ a) others))

  pub agree : (a k : ℕ) (core : CoreValue Inner) (σ τ : ℕ → List Post) → ((t : ℕ) → a ≤ t → t ≤ a + k → σ t ≡ τ t) → alone_by rules a k core σ ≡ alone_by rules a k core τ
  agree a zero core σ τ h = ap (λ ps. (with_puts core ps, [])) (h a (omega arith) (omega arith))
  agree a (suc k) core σ τ h =
      ap (λ ps. let now = tick_of rules a (with_puts core ps) in after rules now (alone_by rules (a + 1) k now.0 σ)) (h a (omega arith) (omega arith))
      ∙ ap (after rules (tick_of rules a (with_puts core (τ a)))) (agree (a + 1) k (tick_of rules a (with_puts core (τ a))).0 σ τ (λ t l m. h t (omega arith) (omega arith)))

  -- one post more at the last clock
  pub last_more : (a k c : ℕ) (core : CoreValue Inner) (σ τ : ℕ → List Post) (p : Post) → c ≡ a + k → ((t : ℕ) → a ≤ t → t < a + k → σ t ≡ τ t)
      → ((inbox : List Post) → with_posts inbox (σ c) ≡ with_posts (with_posts inbox (τ c)) (p ∷ []))
      → alone_by rules a k core σ ≡ (with_puts (alone_by rules a k core τ).0 (p ∷ []), (alone_by rules a k core τ).1)
  last_more a zero c core σ τ p e h more' =
      let at : c ≡ a = omega arith in
      ap (λ inbox. (record core { inbox = inbox }, [])) (subst (λ n. with_posts core.inbox (σ n) ≡ with_posts (with_posts core.inbox (τ n)) (p ∷ [])) at (more' core.inbox))
  last_more a (suc k) c core σ τ p e h more' =
      ap (λ ps. let now = tick_of rules a (with_puts core ps) in after rules now (alone_by rules (a + 1) k now.0 σ)) (h a (omega arith) (omega arith))
      ∙ ap (after rules (tick_of rules a (with_puts core (τ a)))) (last_more (a + 1) k c (tick_of rules a (with_puts core (τ a))).0 σ τ p (omega arith) (λ t l m. h t (omega arith) (omega arith)) more')

  -- a run cut at clock c; e is the next clock
  abbrev pub goes_on : (e r : ℕ) (σ : ℕ → List Post) (now : CoreValue Inner × List Ask) (asks : List Ask) → CoreValue Inner × List Ask
  goes_on e r σ now asks = let rest = alone_by rules e r now.0 σ in (rest.0, asks ++ (now.1 ++ rest.1))

  pub split : (a j r m c e : ℕ) (core : CoreValue Inner) (σ : ℕ → List Post) → m ≡ j + suc r → c ≡ a + j → e ≡ c + 1
      → alone_by rules a m core σ ≡ goes_on e r σ (tick_of rules c (alone_by rules a j core σ).0) (alone_by rules a j core σ).1
  split a zero r m c e core σ m_is c_is e_is =
      let m' : m ≡ suc r = omega arith in let c' : a ≡ c = omega arith in let e' : a + 1 ≡ e = omega arith in
      ap (λ n. alone_by rules a n core σ) m'
      ∙ ap (λ b. goes_on (a + 1) r σ (tick_of rules b (with_puts core (σ a))) []) c'
      ∙ ap (λ n. goes_on n r σ (tick_of rules c (with_puts core (σ a))) []) e'
  split a (suc j) r m c e core σ m_is c_is e_is =
      let m' : m ≡ suc (j + suc r) = omega arith in
      let now = tick_of rules a (with_puts core (σ a)) in
      let first = alone_by rules (a + 1) j now.0 σ in
      let cut = tick_of rules c first.0 in
      let rest = alone_by rules e r cut.0 σ in
      ap (λ n. alone_by rules a n core σ) m'
      ∙ ap (after rules now) (split (a + 1) j r (j + suc r) c e now.0 σ refl (omega arith) e_is)
      ∙ ap (λ asks. (rest.0, asks)) (sym (append_assoc now.1 first.1 (cut.1 ++ rest.1)))
