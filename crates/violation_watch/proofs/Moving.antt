-- A late Invalidate that is moved to its due changes no ask, no touch and nothing that the core comes to.
use Rattle.std.proofs.Common.{◌≡◌, ◌≢◌, ◌∙◌, ℕ, ◌+◌, ◌-◌, ◌<◌, ◌≤◌, ◌==◌, zero, suc, List, [], ◌∷◌, ◌++◌, cond, refl, sym, ap, subst, arith}
use Rattle.std.proofs.lemmas.List.{append-nil}
use Rattle.slack_base.specs.declared.messages.Ask.{Ask}
use Rattle.slack_base.specs.declared.messages.Post.{Post}
use Rattle.slack_base.specs.Inboxes.{CoreValue}
use Rattle.target_law.specs.Cycles.{tick_of}
use Rattle.target_law.specs.Laws.{IsUnseen}
use Rattle.target_law.specs.Rules.{Rules}
use Rattle.target_law.specs.Schedules.{with_posts, with_puts, alone_by}
use Rattle.target_law.specs.Served.{Perm, join}
use Rattle.target_law.proofs.Alone.{with_posts-append, after, same_inner}
use Rattle.target_law.proofs.Numbers.{eq_is, eq_is_not}
use Rattle.violation_watch.proofs.Inboxes.{AreApart, with_posts_perm}
use Rattle.violation_watch.proofs.Lists.{less_or}
use Rattle.violation_watch.proofs.Perms.{perm_of, perm_middle, perm_back}
use Rattle.violation_watch.proofs.Schedules.{agree, last_more, goes_on, split, taken_in, taken_in_more}

-- the post is left out at clock c, and put first at clock d
abbrev pub without : (c : ℕ) (rest : List Post) → (ℕ → List Post) → ℕ → List Post
without c rest σ t = cond (t == c) rest (σ t)

abbrev pub moved : (c d : ℕ) (p : Post) (rest : List Post) → (ℕ → List Post) → ℕ → List Post
moved c d p rest σ t = cond (t == d) (p ∷ σ d) (without c rest σ t)

module _ (c d : ℕ) (p : Post) (rest : List Post) (σ : ℕ → List Post) (less : d < c) where
  pub without_here : without c rest σ c ≡ rest
  without_here = ap (λ b. cond b rest (σ c)) (eq_is c c refl)

  pub without_other : (t : ℕ) → t ≢ c → without c rest σ t ≡ σ t
  without_other t h = ap (λ b. cond b rest (σ t)) (eq_is_not t c h)

  pub moved_there : moved c d p rest σ d ≡ p ∷ σ d
  moved_there = ap (λ b. cond b (p ∷ σ d) (without c rest σ d)) (eq_is d d refl)

  pub moved_without : (t : ℕ) → t ≢ d → moved c d p rest σ t ≡ without c rest σ t
  moved_without t h = ap (λ b. cond b (p ∷ σ d) (without c rest σ t)) (eq_is_not t d h)

  pub moved_other : (t : ℕ) → t ≢ d → t ≢ c → moved c d p rest σ t ≡ σ t
  moved_other t h k = moved_without t h ∙ without_other t k

  pub moved_here : moved c d p rest σ c ≡ rest
  moved_here = moved_without c (λ e. omega arith) ∙ without_here

  pub moved_perm : (a k : ℕ) → a ≤ d → c ≤ a + k → Perm Post (p ∷ rest) (σ c) → Perm Post (taken_in a k σ) (taken_in a k (moved c d p rest σ))
  moved_perm a k low high perm =
      join (perm_back (taken_in_more a k c (without c rest σ) σ p (omega arith) high (λ t h. sym (without_other t h)) (subst (λ ps. Perm Post (p ∷ ps) (σ c)) (sym without_here) perm)))
      (taken_in_more a k d (without c rest σ) (moved c d p rest σ) p low (omega arith) moved_without
      (perm_of _ _ (ap (λ ps. p ∷ ps) (without_other d (λ e. omega arith)) ∙ sym moved_there)))

-- a post in the middle goes to the end
middle_last : (p : Post) (us vs : List Post) → Perm Post (us ++ p ∷ vs) ((us ++ vs) ++ p ∷ [])
middle_last p us vs = join (perm_back (perm_middle p us vs)) (subst (λ xs. Perm Post xs ((us ++ vs) ++ p ∷ [])) (ap (λ ys. p ∷ ys) (append-nil (us ++ vs))) (perm_middle p (us ++ vs) []))

put_last : (p : Post) (us vs inbox : List Post) → AreApart (us ++ p ∷ vs) → with_posts inbox (us ++ p ∷ vs) ≡ with_posts (with_posts inbox (us ++ vs)) (p ∷ [])
put_last p us vs inbox apart = with_posts_perm (middle_last p us vs) apart inbox ∙ with_posts-append inbox (us ++ vs) (p ∷ [])

module _ {Inner Chan : Type 0} (rules : Rules Inner Chan) (a i b n d c r k : ℕ) (core : CoreValue Inner) (σ : ℕ → List Post) (p : Post) (us vs : List Post)
    (b_is : b ≡ a + i) (d_is : d ≡ b + 1) (c_is : c ≡ d + suc n) (k_is : k ≡ (i + suc (suc n)) + suc r)
    (here : σ c ≡ us ++ p ∷ vs) (apart : AreApart (us ++ p ∷ vs))
    (law : IsUnseen rules d (suc n) (tick_of rules b (alone_by rules a i core σ).0).0 (without c (us ++ vs) σ) p) where
  abbrev τ : ℕ → List Post
  τ = moved c d p (us ++ vs) σ

  abbrev ω : ℕ → List Post
  ω = without c (us ++ vs) σ

  less : d < c
  less = omega arith

  early : alone_by rules a i core τ ≡ alone_by rules a i core σ
  early = agree rules a i core τ σ (λ t l m. moved_other c d p (us ++ vs) σ less t (λ e. omega arith) (λ e. omega arith))

  abbrev now : CoreValue Inner × List Ask
  now = tick_of rules b (alone_by rules a i core σ).0

  put_first : (j : ℕ) → alone_by rules d j now.0 τ ≡ alone_by rules d j (with_puts now.0 (p ∷ [])) ω
  put_first zero = ap (λ ps. (with_puts now.0 ps, [])) (moved_there c d p (us ++ vs) σ less ∙ ap (λ ps. p ∷ ps) (sym (without_other c d p (us ++ vs) σ less d (λ e. omega arith))))
  put_first (suc j) =
      ap (λ ps. let one = tick_of rules d (with_puts now.0 ps) in after rules one (alone_by rules (d + 1) j one.0 τ))
      (moved_there c d p (us ++ vs) σ less ∙ ap (λ ps. p ∷ ps) (sym (without_other c d p (us ++ vs) σ less d (λ e. omega arith))))
      ∙ ap (after rules (tick_of rules d (with_puts (with_puts now.0 (p ∷ [])) (ω d))))
      (agree rules (d + 1) j (tick_of rules d (with_puts (with_puts now.0 (p ∷ [])) (ω d))).0 τ ω (λ t l m. moved_without c d p (us ++ vs) σ less t (λ e. omega arith)))

  put_late : alone_by rules d (suc n) now.0 σ ≡ (with_puts (alone_by rules d (suc n) now.0 ω).0 (p ∷ []), (alone_by rules d (suc n) now.0 ω).1)
  put_late =
      last_more rules d (suc n) c now.0 σ ω p c_is (λ t l m. sym (without_other c d p (us ++ vs) σ less t (λ e. omega arith)))
      (λ inbox. ap (with_posts inbox) here ∙ put_last p us vs inbox apart ∙ ap (λ ps. with_posts (with_posts inbox ps) (p ∷ [])) (sym (without_here c d p (us ++ vs) σ less)))

  -- up to clock c: the same asks, and what a tick makes of them
  cut_late : alone_by rules a (i + suc (suc n)) core σ ≡ goes_on rules d (suc n) σ now (alone_by rules a i core σ).1
  cut_late = split rules a i (suc n) (i + suc (suc n)) b d core σ refl b_is d_is

  cut_first : alone_by rules a (i + suc (suc n)) core τ ≡ goes_on rules d (suc n) τ now (alone_by rules a i core σ).1
  cut_first =
      split rules a i (suc n) (i + suc (suc n)) b d core τ refl b_is d_is
      ∙ ap (λ f. goes_on rules d (suc n) τ (tick_of rules b f.0) f.1) early

  near_asks : (alone_by rules a (i + suc (suc n)) core σ).1 ≡ (alone_by rules a (i + suc (suc n)) core τ).1
  near_asks =
      ap (λ f. f.1) cut_late
      ∙ ap (λ f. (alone_by rules a i core σ).1 ++ (now.1 ++ f.1)) put_late
      ∙ ap (λ asks. (alone_by rules a i core σ).1 ++ (now.1 ++ asks)) (sym law.asks)
      ∙ ap (λ f. (alone_by rules a i core σ).1 ++ (now.1 ++ f.1)) (sym (put_first (suc n)))
      ∙ sym (ap (λ f. f.1) cut_first)

  near_tick : tick_of rules c (alone_by rules a (i + suc (suc n)) core σ).0 ≡ tick_of rules c (alone_by rules a (i + suc (suc n)) core τ).0
  near_tick =
      ap (λ f. tick_of rules c f.0) cut_late
      ∙ ap (λ f. tick_of rules c f.0) put_late
      ∙ subst (λ t. tick_of rules t (with_puts (alone_by rules d (suc n) now.0 ω).0 (p ∷ [])) ≡ tick_of rules t (alone_by rules d (suc n) (with_puts now.0 (p ∷ [])) ω).0) (sym c_is) (sym law.tick)
      ∙ ap (λ f. tick_of rules c f.0) (sym (put_first (suc n)))
      ∙ sym (ap (λ f. tick_of rules c f.0) cut_first)

  pub same_run : alone_by rules a k core σ ≡ alone_by rules a k core τ
  same_run =
      let e : c ≡ a + (i + suc (suc n)) = omega arith in
      split rules a (i + suc (suc n)) r k c (c + 1) core σ k_is e refl
      ∙ ap (λ one. goes_on rules (c + 1) r σ one (alone_by rules a (i + suc (suc n)) core σ).1) near_tick
      ∙ ap (goes_on rules (c + 1) r σ (tick_of rules c (alone_by rules a (i + suc (suc n)) core τ).0)) near_asks
      ∙ ap (λ f. (f.0, (alone_by rules a (i + suc (suc n)) core τ).1 ++ ((tick_of rules c (alone_by rules a (i + suc (suc n)) core τ).0).1 ++ f.1)))
      (agree rules (c + 1) r (tick_of rules c (alone_by rules a (i + suc (suc n)) core τ).0).0 σ τ (λ t l m. sym (moved_other c d p (us ++ vs) σ less t (λ e. omega arith) (λ e. omega arith))))
      ∙ sym (split rules a (i + suc (suc n)) r k c (c + 1) core τ k_is e refl)

  -- touches
  touch_early : (j : ℕ) (q : Post) → j ≤ i → rules.touched (alone_by rules a j core τ).0.inner q ≡ rules.touched (alone_by rules a j core σ).0.inner q
  touch_early j q l = ap (λ f. rules.touched f.0.inner q) (agree rules a j core τ σ (λ t low high. moved_other c d p (us ++ vs) σ less t (λ e. omega arith) (λ e. omega arith)))

  touch_between : (j m : ℕ) (q : Post) → m ≡ i + suc j → j ≤ suc n → rules.touched (alone_by rules a m core τ).0.inner q ≡ rules.touched (alone_by rules a m core σ).0.inner q
  touch_between j m q m_is l =
      ap (λ f. rules.touched f.0.inner q) (split rules a i j m b d core τ m_is b_is d_is ∙ ap (λ f. goes_on rules d j τ (tick_of rules b f.0) f.1) early)
      ∙ ap (λ f. rules.touched f.0.inner q) (put_first j)
      ∙ law.touches j q l
      ∙ ap (λ inner. rules.touched inner q) (same_inner rules d j now.0 ω σ (λ t low high. without_other c d p (us ++ vs) σ less t (λ e. omega arith)))
      ∙ sym (ap (λ f. rules.touched f.0.inner q) (split rules a i j m b d core σ m_is b_is d_is))

  touch_later : (j m : ℕ) (q : Post) → m ≡ (i + suc (suc n)) + suc j → rules.touched (alone_by rules a m core τ).0.inner q ≡ rules.touched (alone_by rules a m core σ).0.inner q
  touch_later j m q m_is =
      let e : c ≡ a + (i + suc (suc n)) = omega arith in
      ap (λ f. rules.touched f.0.inner q) (split rules a (i + suc (suc n)) j m c (c + 1) core τ m_is e refl)
      ∙ ap (λ one. rules.touched (alone_by rules (c + 1) j one.0 τ).0.inner q) (sym near_tick)
      ∙ ap (λ f. rules.touched f.0.inner q) (agree rules (c + 1) j (tick_of rules c (alone_by rules a (i + suc (suc n)) core σ).0).0 τ σ (λ t l h. moved_other c d p (us ++ vs) σ less t (λ e. omega arith) (λ e. omega arith)))
      ∙ sym (ap (λ f. rules.touched f.0.inner q) (split rules a (i + suc (suc n)) j m c (c + 1) core σ m_is e refl))

  pub same_touch : (j : ℕ) (q : Post) → rules.touched (alone_by rules a j core τ).0.inner q ≡ rules.touched (alone_by rules a j core σ).0.inner q
  same_touch j q =
      less_or i j
      (λ l. less_or (i + suc (suc n)) j
      (λ h. touch_later (j - (i + suc (suc n) + 1)) j q (omega arith))
      (λ h. touch_between (j - (i + 1)) j q (omega arith) (omega arith)))
      (touch_early j q)
