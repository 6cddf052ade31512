-- A core that takes late only what it hasn't touched does what it does with all posts put at the start.
use Rattle.std.proofs.Common.{◌≡◌, ◌≢◌, ◌∙◌, ℕ, ◌+◌, ◌-◌, ◌<◌, ◌≤◌, zero, suc, List, [], ◌∷◌, ◌++◌, true, false, refl, sym, ap, subst, arith, append_assoc, nat_lt}
use Rattle.std.specs.List.{filter, AllByRecursion as Each}
use Rattle.std.proofs.lemmas.Bool.Decides.{nat_tests}
use Rattle.std.proofs.lemmas.List.{append-nil}
use Rattle.std.proofs.lemmas.List.Elements.{All-weaker, filter_passes}
use Rattle.std.proofs.lemmas.Bool.{false≢true}
use Rattle.slack_base.specs.declared.bounds.TheConstants.{TOP}
use Rattle.slack_base.specs.declared.messages.Ask.{Ask}
use Rattle.slack_base.specs.declared.messages.Post.{Post}
use Rattle.slack_base.specs.Inboxes.{CoreValue}
use Rattle.slack_base.specs.Messages.{id_of}
use Rattle.slack_base.specs.Stamps.{is_above}
use Rattle.target_law.specs.Cycles.{tick_of}
use Rattle.target_law.specs.Laws.{Laws, IsLatePut, IsUnseen}
use Rattle.target_law.specs.Proper.{IsPostTo, IsCoreOf}
use Rattle.target_law.specs.Rules.{Rules, Owns}
use Rattle.target_law.specs.Schedules.{with_puts, is_invalidate, alone_by}
use Rattle.target_law.specs.Served.{AreRising, Perm, join}
use Rattle.target_law.proofs.Alone.{same_inner}
use Rattle.target_law.proofs.Cores.{ticked_core, tick_asks, ids_rise}
use Rattle.target_law.proofs.Ids.{later_above}
use Rattle.target_law.proofs.Lists.{pairwise_append, each_weaker, each_append}
use Rattle.violation_watch.proofs.Cores.{IsAskFrom}
use Rattle.violation_watch.proofs.Delivery.{all_with_posts}
use Rattle.violation_watch.proofs.Early.{run}
use Rattle.violation_watch.proofs.Inboxes.{AreApart, with_posts_perm}
use Rattle.violation_watch.proofs.Moving.{without, moved, without_here, without_other, moved_there, moved_here, moved_perm, same_run, same_touch}
use Rattle.violation_watch.proofs.Lists.{less_or}
use Rattle.violation_watch.proofs.Moving
use Rattle.violation_watch.proofs.Perms.{perm_same, perm_middle, perm_pairwise}
use Rattle.violation_watch.proofs.Schedules.{taken_in, alone_by-run, split}

lt_tells : (t due : ℕ) → nat_lt t due ≡ true → t + 1 ≤ due
lt_tells t due h = grind (arith, nat_tests)

-- of a list in parts
each_left : (P : Post → Type 0) (xs ys : List Post) → Each P (xs ++ ys) → Each P xs
each_left P [] ys h = tt
each_left P (x ∷ xs) ys h = (h.0, each_left P xs ys h.1)

each_right : (P : Post → Type 0) (xs ys : List Post) → Each P (xs ++ ys) → Each P ys
each_right P [] ys h = h
each_right P (x ∷ xs) ys h = each_right P xs ys h.1

each_skip : (P : Post → Type 0) (xs : List Post) (y : Post) (ys : List Post) → Each P (xs ++ y ∷ ys) → Each P (xs ++ ys)
each_skip P [] y ys h = h.1
each_skip P (x ∷ xs) y ys h = (h.0, each_skip P xs y ys h.1)

apart_right : (xs ys : List Post) → AreApart (xs ++ ys) → AreApart ys
apart_right [] ys h = h
apart_right (x ∷ xs) ys h = apart_right xs ys h.1

apart_left : (xs ys : List Post) → AreApart (xs ++ ys) → AreApart xs
apart_left [] ys h = tt
apart_left (x ∷ xs) ys h = (each_left (λ q. x.id ≢ q.id) xs ys h.0, apart_left xs ys h.1)

apart_at : (a k j : ℕ) (σ : ℕ → List Post) → j ≤ k → AreApart (taken_in a k σ) → AreApart (σ (a + j))
apart_at a zero j σ l h = let e : a ≡ a + j = omega arith in subst (λ t. AreApart (σ t)) e h
apart_at a (suc k) zero σ l h = let e : a ≡ a + zero = omega arith in subst (λ t. AreApart (σ t)) e (apart_left (σ a) (taken_in (a + 1) k σ) h)
apart_at a (suc k) (suc j) σ l h =
    let e : a + 1 + j ≡ a + suc j = omega arith in
    subst (λ t. AreApart (σ t)) e (apart_at (a + 1) k j σ (omega arith) (apart_right (σ a) (taken_in (a + 1) k σ) h))

-- a fact at clock a + j, where a + j is c
at_clock : (P : List Post → Type 0) (σ : ℕ → List Post) (t u : ℕ) → t ≡ u → P (σ t) → P (σ u)
at_clock P σ t u e h = subst (λ n. P (σ n)) e h

module _ {Inner Chan : Type 0} (rules : Rules Inner Chan) (owns : Owns Inner Chan) (laws : Laws rules owns) (place : ℕ) where
  abbrev pub AreProper : (a k : ℕ) → (ℕ → List Post) → Type 0
  AreProper a k σ = (j : ℕ) → j ≤ k → Each (IsPostTo rules place) (σ (a + j))

  proper_now : (a k : ℕ) (σ : ℕ → List Post) → AreProper a k σ → Each (IsPostTo rules place) (σ a)
  proper_now a k σ h = at_clock (Each (IsPostTo rules place)) σ (a + zero) a (let e : a + zero ≡ a = omega arith in e) (h zero (omega arith))

  proper_more : (a k : ℕ) (σ : ℕ → List Post) → AreProper a (suc k) σ → AreProper (a + 1) k σ
  proper_more a k σ h j l = at_clock (Each (IsPostTo rules place)) σ (a + suc j) (a + 1 + j) (let e : a + suc j ≡ a + 1 + j = omega arith in e) (h (suc j) (omega arith))

  put_core : (core : CoreValue Inner) (posts : List Post) → IsCoreOf rules owns place core → Each (IsPostTo rules place) posts → IsCoreOf rules owns place (with_puts core posts)
  put_core core posts is are = record { own = is.own; number = is.number; inbox = all_with_posts (IsPostTo rules place) core.inbox posts is.inbox are }

  -- a core alone stays a core of the machine, and its asks have its ids
  pub alone_core : (a k : ℕ) (core : CoreValue Inner) (σ : ℕ → List Post) → a + k ≤ TOP → IsCoreOf rules owns place core → AreProper a k σ → IsCoreOf rules owns place (alone_by rules a k core σ).0
  alone_core a zero core σ low is are = put_core core (σ a) is (proper_now a zero σ are)
  alone_core a (suc k) core σ low is are =
      let begun = with_puts core (σ a) in
      alone_core (a + 1) k (tick_of rules a begun).0 σ (omega arith) (ticked_core rules owns laws a place begun (omega arith) (put_core core (σ a) is (proper_now a (suc k) σ are))) (proper_more a k σ are)

  pub alone_asks : (a k : ℕ) (core : CoreValue Inner) (σ : ℕ → List Post) → a + k ≤ TOP → IsCoreOf rules owns place core → AreProper a k σ → Each (IsAskFrom a place) (alone_by rules a k core σ).1
  alone_asks a zero core σ low is are = tt
  alone_asks a (suc k) core σ low is are =
      let begun = with_puts core (σ a) in
      let own = put_core core (σ a) is (proper_now a (suc k) σ are) in
      let now = tick_of rules a begun in
      let rest = alone_by rules (a + 1) k now.0 σ in
      each_append (IsAskFrom a place) now.1 rest.1
      (each_weaker (λ x at. let e = at.cycle in record { cycle = omega arith; core = at.core }) now.1 (tick_asks rules owns laws a place begun (omega arith) own))
      (each_weaker (λ x from. let e = from.cycle in record { cycle = omega arith; core = from.core }) rest.1
      (alone_asks (a + 1) k now.0 σ (omega arith) (ticked_core rules owns laws a place begun (omega arith) own) (proper_more a k σ are)))

  pub alone_rises : (a k : ℕ) (core : CoreValue Inner) (σ : ℕ → List Post) → a + k ≤ TOP → IsCoreOf rules owns place core → AreProper a k σ → AreRising (alone_by rules a k core σ).1
  alone_rises a zero core σ low is are = tt
  alone_rises a (suc k) core σ low is are =
      let begun = with_puts core (σ a) in
      let own = put_core core (σ a) is (proper_now a (suc k) σ are) in
      let now = tick_of rules a begun in
      let rest = alone_by rules (a + 1) k now.0 σ in
      let next = ticked_core rules owns laws a place begun (omega arith) own in
      pairwise_append (λ x y. is_above (id_of y) (id_of x) ≡ true) now.1 rest.1
      (ids_rise a place 0 now.1 (laws.ticks a place begun (omega arith) own).ids)
      (alone_rises (a + 1) k now.0 σ (omega arith) next (proper_more a k σ are))
      (each_weaker (λ x at. each_weaker (λ y from. let e = at.cycle in let l = from.cycle in later_above (id_of y) (id_of x) (omega arith)) rest.1
      (alone_asks (a + 1) k now.0 σ (omega arith) next (proper_more a k σ are))) now.1 (tick_asks rules owns laws a place begun (omega arith) own))

  module _ (a k : ℕ) (core : CoreValue Inner) (is : IsCoreOf rules owns place core) (top : a + k ≤ TOP) where
    -- a post that was taken late was an Invalidate of what the core hadn't touched, before the end
    pub record IsHarmless (σ : ℕ → List Post) (j : ℕ) (q : Post) : Type 0 where
      pub kind : is_invalidate q.kind ≡ true
      pub before : j < k
      pub touch : rules.touched (alone_by rules a j core σ).0.inner q ≤ q.due

    pub record IsQuiet (σ : ℕ → List Post) : Type 0 where
      pub proper : AreProper a k σ
      pub later : (j : ℕ) → j ≤ k → Each (λ q. a < q.due) (σ (a + j))
      pub calm : (j : ℕ) → j ≤ k → Each (λ q. q.due < a + j → IsHarmless σ j q) (σ (a + j))
      pub apart : AreApart (taken_in a k σ)

    -- another schedule with the same run
    pub record IsSame (σ τ : ℕ → List Post) : Type 0 where
      pub run : alone_by rules a k core σ ≡ alone_by rules a k core τ
      pub perm : Perm Post (taken_in a k σ) (taken_in a k τ)
      pub quiet : IsQuiet τ

    -- one late post moved
    module _ (σ : ℕ → List Post) (quiet : IsQuiet σ) (m : ℕ) (m_in : m ≤ k) (us : List Post) (p : Post) (vs : List Post)
        (here : σ (a + m) ≡ us ++ p ∷ vs) (late : p.due < a + m) where
      at_p : (P : Post → Type 0) → Each P (σ (a + m)) → P p
      at_p P h = (each_right P us (p ∷ vs) (subst (Each P) here h)).0

      harmless : IsHarmless σ m p
      harmless = at_p (λ q. q.due < a + m → IsHarmless σ m q) (quiet.calm m m_in) late

      after_start : a < p.due
      after_start = at_p (λ q. a < q.due) (quiet.later m m_in)

      abbrev i : ℕ
      i = p.due - a - 1

      abbrev b : ℕ
      b = a + i

      abbrev n : ℕ
      n = a + m - p.due - 1

      abbrev r : ℕ
      r = k - m - 1

      d_is : p.due ≡ b + 1
      d_is = let l = after_start in omega arith

      c_is : a + m ≡ p.due + suc n
      c_is = omega arith

      m_is : m ≡ i + suc (suc n)
      m_is = let l = after_start in omega arith

      k_is : k ≡ (i + suc (suc n)) + suc r
      k_is = let l = after_start in let h = harmless.before in omega arith

      abbrev ω : ℕ → List Post
      ω = without (a + m) (us ++ vs) σ

      abbrev τ : ℕ → List Post
      τ = moved (a + m) p.due p (us ++ vs) σ

      -- what is so of each post at a clock stays so with one left out
      still : (P : Post → Type 0) (t : ℕ) → Each P (σ t) → Each P (ω t)
      still P t h =
          less_or t (a + m) (λ l. subst (Each P) (sym (without_other (a + m) p.due p (us ++ vs) σ late t (λ e. omega arith))) h)
          (λ l. less_or (a + m) t (λ g. subst (Each P) (sym (without_other (a + m) p.due p (us ++ vs) σ late t (λ e. omega arith))) h)
          (λ g.
          let e : a + m ≡ t = omega arith in
          at_clock (Each P) ω (a + m) t e
          (subst (Each P) (sym (without_here (a + m) p.due p (us ++ vs) σ late)) (each_skip P us p vs (subst (Each P) here (at_clock (Each P) σ t (a + m) (sym e) h))))))

      -- and with the post put elsewhere, where it is so of it
      moves : (P : Post → Type 0) (t : ℕ) → (t ≡ p.due → P p) → Each P (σ t) → Each P (τ t)
      moves P t own h =
          less_or t p.due (λ l. subst (Each P) (sym (moved_without' t (λ e. omega arith))) (still P t h))
          (λ l. less_or p.due t (λ g. subst (Each P) (sym (moved_without' t (λ e. omega arith))) (still P t h))
          (λ g.
          let e : p.due ≡ t = omega arith in
          at_clock (Each P) τ p.due t e (subst (Each P) (sym (moved_there (a + m) p.due p (us ++ vs) σ late)) (own (sym e), at_clock (Each P) σ t p.due (sym e) h))))
        where
          moved_without' : (t : ℕ) → t ≢ p.due → τ t ≡ ω t
          moved_without' t h = Moving.moved_without (a + m) p.due p (us ++ vs) σ late t h

      start : CoreValue Inner × List Ask
      start = alone_by rules a i core σ

      early_proper : AreProper a i σ
      early_proper j l = quiet.proper j (let h = harmless.before in omega arith)

      start_core : IsCoreOf rules owns place (alone_by rules a i core σ).0
      start_core = alone_core a i core σ (omega arith) is early_proper

      late_put : IsLatePut rules owns place p.due (suc n) (tick_of rules b (alone_by rules a i core σ).0).0 ω p
      late_put = record {
        is = ticked_core rules owns laws b place (alone_by rules a i core σ).0 (omega arith) start_core;
        top = let e = c_is in omega arith;
        some = omega arith;
        proper = λ j l.
            let e : a + (i + 1 + j) ≡ p.due + j = (let d = d_is in omega arith) in
            still (IsPostTo rules place) (p.due + j) (at_clock (Each (IsPostTo rules place)) σ (a + (i + 1 + j)) (p.due + j) e (quiet.proper (i + 1 + j) (let u = m_is in omega arith)));
        own = at_p (IsPostTo rules place) (quiet.proper m m_in);
        kind = harmless.kind;
        at = refl;
        fresh = All-weaker (λ (q : Post). nat_lt b q.due ≡ true) (λ q. is_invalidate q.kind ≡ false → p.due ≤ q.due) (λ q h other. let l = lt_tells b q.due h in let d = d_is in omega arith)
            (filter (λ q. nat_lt b q.due) (alone_by rules a i core σ).0.inbox) (filter_passes (λ q. nat_lt b q.due) (alone_by rules a i core σ).0.inbox);
        posts = λ j l.
            let e : a + (i + 1 + j) ≡ p.due + j = (let d = d_is in omega arith) in
            still (λ q. is_invalidate q.kind ≡ false → p.due + j ≤ q.due) (p.due + j)
            (at_clock (Each (λ q. is_invalidate q.kind ≡ false → p.due + j ≤ q.due)) σ (a + (i + 1 + j)) (p.due + j) e
            (each_weaker (λ q h other. less_or q.due (a + (i + 1 + j)) (λ l. absurd (false≢true (sym other ∙ (h l).kind))) (λ l. omega arith)) (σ (a + (i + 1 + j))) (quiet.calm (i + 1 + j) (let u = m_is in omega arith))));
        untouched =
            let same : (alone_by rules a m core σ).0.inner ≡ (alone_by rules p.due (suc n) (tick_of rules b (alone_by rules a i core σ).0).0 ω).0.inner =
            ap (λ f. f.0.inner) (split rules a i (suc n) m b p.due core σ m_is refl d_is)
            ∙ sym (same_inner rules p.due (suc n) (tick_of rules b (alone_by rules a i core σ).0).0 ω σ (λ t l h. without_other (a + m) p.due p (us ++ vs) σ late t (λ e. let u = c_is in omega arith))) in
            subst (λ inner. rules.touched inner p ≤ p.due) same harmless.touch;
      }

      unseen : IsUnseen rules p.due (suc n) (tick_of rules b (alone_by rules a i core σ).0).0 ω p
      unseen = laws.unseen place p.due (suc n) (tick_of rules b (alone_by rules a i core σ).0).0 ω p late_put

      apart_here : AreApart (us ++ p ∷ vs)
      apart_here = subst AreApart here (apart_at a k m σ m_in quiet.apart)

      touch : (j : ℕ) (q : Post) → rules.touched (alone_by rules a j core τ).0.inner q ≡ rules.touched (alone_by rules a j core σ).0.inner q
      touch = same_touch rules a i b n p.due (a + m) r k core σ p us vs refl d_is c_is k_is here apart_here unseen

      perm : Perm Post (taken_in a k σ) (taken_in a k τ)
      perm = moved_perm (a + m) p.due p (us ++ vs) σ late a k (let l = after_start in omega arith) (omega arith) (subst (Perm Post (p ∷ (us ++ vs))) (sym here) (perm_middle p us vs))

      pub moved_same : IsSame σ τ
      moved_same = record {
        run = same_run rules a i b n p.due (a + m) r k core σ p us vs refl d_is c_is k_is here apart_here unseen;
        perm = perm;
        quiet = record {
          proper = λ j l. moves (IsPostTo rules place) (a + j) (λ e. at_p (IsPostTo rules place) (quiet.proper m m_in)) (quiet.proper j l);
          later = λ j l. moves (λ q. a < q.due) (a + j) (λ e. after_start) (quiet.later j l);
          calm = λ j l.
              moves (λ q. q.due < a + j → IsHarmless τ j q) (a + j) (λ e h. absurd (omega arith))
              (each_weaker (λ q h small. let old = h small in record { kind = old.kind; before = old.before; touch = subst (λ x. x ≤ q.due) (sym (touch j q)) old.touch }) (σ (a + j)) (quiet.calm j l));
          apart = perm_pairwise (λ p q d e. d (sym e)) perm quiet.apart;
        };
      }

      pub moved_left : τ (a + m) ≡ us ++ vs
      moved_left = moved_here (a + m) p.due p (us ++ vs) σ late

      -- a clock before stays punctual
      pub moved_punctual : (t : ℕ) → t < a + m → Each (λ q. t ≤ q.due) (σ t) → Each (λ q. t ≤ q.due) (τ t)
      moved_punctual t l h = moves (λ q. t ≤ q.due) t (λ e. omega arith) h

    -- all late posts of one clock moved
    pub record IsCleared (m : ℕ) (σ τ : ℕ → List Post) : Type 0 where
      pub same : IsSame σ τ
      pub here : Each (λ q. a + m ≤ q.due) (τ (a + m))
      pub before : (t : ℕ) → t < a + m → Each (λ q. t ≤ q.due) (σ t) → Each (λ q. t ≤ q.due) (τ t)

    clear : (m : ℕ) → m ≤ k → (vs us : List Post) (σ : ℕ → List Post) → IsQuiet σ → σ (a + m) ≡ us ++ vs → Each (λ q. a + m ≤ q.due) us → (τ : ℕ → List Post) × IsCleared m σ τ
    clear m m_in [] us σ quiet e ok = (
      σ,
      record {
        same = record { run = refl; perm = perm_same (taken_in a k σ); quiet = quiet };
        here = subst (Each (λ q. a + m ≤ q.due)) (sym (e ∙ append-nil us)) ok;
        before = λ t l h. h;
      },
    )
    clear m m_in (p ∷ vs) us σ quiet e ok =
        less_or p.due (a + m)
        (λ late.
        let first = moved_same σ quiet m m_in us p vs e late in
        let rest = clear m m_in vs us (moved (a + m) p.due p (us ++ vs) σ) first.quiet (moved_left σ quiet m m_in us p vs e late) ok in (
          rest.0,
          record {
            same = record { run = first.run ∙ rest.1.same.run; perm = join first.perm rest.1.same.perm; quiet = rest.1.same.quiet };
            here = rest.1.here;
            before = λ t l h. rest.1.before t l (moved_punctual σ quiet m m_in us p vs e late t l h);
          },
        ))
        (λ fine. clear m m_in vs (us ++ p ∷ []) σ quiet (e ∙ sym (append_assoc us (p ∷ []) vs)) (each_append (λ q. a + m ≤ q.due) us (p ∷ []) ok (fine, tt)))

    -- all clocks up to m cleared
    pub record IsSettled (m : ℕ) (σ τ : ℕ → List Post) : Type 0 where
      pub same : IsSame σ τ
      pub here : (j : ℕ) → j < m → Each (λ q. a + j ≤ q.due) (τ (a + j))

    settle : (m : ℕ) → m ≤ k + 1 → (σ : ℕ → List Post) → IsQuiet σ → (τ : ℕ → List Post) × IsSettled m σ τ
    settle zero l σ quiet = (σ, record { same = record { run = refl; perm = perm_same (taken_in a k σ); quiet = quiet }; here = λ j h. absurd (omega arith) })
    settle (suc m) l σ quiet =
        let first = settle m (omega arith) σ quiet in
        let rest = clear m (omega arith) (first.0 (a + m)) [] first.0 first.1.same.quiet refl tt in (
          rest.0,
          record {
            same = record { run = first.1.same.run ∙ rest.1.same.run; perm = join first.1.same.perm rest.1.same.perm; quiet = rest.1.same.quiet };
            here = λ j h.
                less_or j m (λ g. rest.1.before (a + j) (omega arith) (first.1.here j g))
                (λ g. let e : m ≡ j = omega arith in subst (λ x. Each (λ q. a + x ≤ q.due) (rest.0 (a + x))) e rest.1.here);
          },
        )

    pub quiet-run : (σ : ℕ → List Post) → IsQuiet σ → alone_by rules a k core σ ≡ run rules a k (with_puts core (taken_in a k σ))
    quiet-run σ quiet =
        let all = settle (k + 1) (omega arith) σ quiet in
        all.1.same.run
        ∙ alone_by-run rules a k core all.0 (λ j l. all.1.here j (omega arith))
        ∙ ap (λ inbox. run rules a k (record core { inbox = inbox })) (sym (with_posts_perm all.1.same.perm quiet.apart core.inbox))
