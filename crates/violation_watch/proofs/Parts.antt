-- In a drift of which the monitors record nothing each core does what it does with all its posts put at the start.
use Rattle.std.proofs.Common.{◌≡◌, ◌∙◌, ℕ, ◌+◌, ◌<◌, ◌≤◌, ◌==◌, zero, suc, List, [], ◌∷◌, ◌++◌, length, Bool, true, false, cond, refl, sym, ap, subst, arith}
use Rattle.std.specs.List.{AllByRecursion as Each}
use Rattle.std.proofs.lemmas.List.Elements.{recursion_from_All}
use Rattle.std.proofs.lemmas.Bool.{false≢true}
use Rattle.slack_base.specs.declared.bounds.TheConstants.{TOP}
use Rattle.slack_base.specs.declared.histories.Drift.{Drift}
use Rattle.slack_base.specs.declared.histories.Taken.{Taken}
use Rattle.slack_base.specs.declared.messages.Post.{Post}
use Rattle.slack_base.specs.Inboxes.{CoreValue}
use Rattle.slack_base.specs.Messages.{id_of}
use Rattle.target_law.specs.Alone.{touch_of}
use Rattle.target_law.specs.AloneLaw.{taken_at, AreClocks, alone, IsLiteral}
use Rattle.target_law.specs.Cycles.{StateValue, through}
use Rattle.target_law.specs.Drifts.{asks_by, posts_to, IsPartOf, IsDrift}
use Rattle.target_law.specs.Laws.{Laws}
use Rattle.target_law.specs.Numbered.{AllNumbered, AllNumberedTriples}
use Rattle.target_law.specs.Proper.{IsProperAsk, IsPostTo, IsCoreOf, IsProper}
use Rattle.target_law.specs.Rules.{Rules, Owns}
use Rattle.target_law.specs.Schedules.{with_puts, is_invalidate}
use Rattle.target_law.specs.Served.{AreRising, Pairwise}
use Rattle.target_law.proofs.Alone.{all_literal}
use Rattle.target_law.proofs.Clocks.{posts_of, taken_at-now, taken_at-not, taken_at-none, clocks_lower, clocks_each}
use Rattle.target_law.proofs.Lists.{each_weaker, each_passes, filter_case, numbered_weaker}
use Rattle.target_law.proofs.Numbers.{eq_of}
use Rattle.violation_watch.proofs.ByCore.{IsAmong, each_by_core, distinct_by_core}
use Rattle.violation_watch.proofs.Channels.{IsApart, through_apart}
use Rattle.violation_watch.proofs.Delivery.{given, apart_to}
use Rattle.violation_watch.proofs.Early.{run}
use Rattle.violation_watch.proofs.Inboxes.{AreApart}
use Rattle.violation_watch.proofs.Kept.{posts_later}
use Rattle.violation_watch.proofs.Lists.{pairwise_filter, each_both, each_filter, at_or_after}
use Rattle.violation_watch.proofs.Peel.{asks_among}
use Rattle.violation_watch.proofs.Quiet.{AreCalmTakes, IsCalmTake, each_of_map}
use Rattle.violation_watch.proofs.Schedules.{taken_in, taken_in-agree}
use Rattle.violation_watch.proofs.Settling.{AreProper, IsQuiet, IsHarmless, quiet-run, alone_asks, alone_rises}

-- what is so of the posts taken at a clock
each_taken_at : (P : Post → Type 0) (t : ℕ) (taken : List Taken) → Each (λ x. x.clock ≡ t → P x.post) taken → Each P (taken_at t taken)
each_taken_at P t [] h = tt
each_taken_at P t (x ∷ taken) h =
    filter_case (λ x. x.clock == t) x taken (λ xs. Each P (posts_of xs)) (λ on. (h.0 (eq_of x.clock t on), each_taken_at P t taken h.1)) (λ off. each_taken_at P t taken h.1)

-- the posts in the order of their clocks are all posts in their order
taken_in-past : (a k : ℕ) (x : Taken) (taken : List Taken) → x.clock < a → taken_in a k (λ t. taken_at t (x ∷ taken)) ≡ taken_in a k (λ t. taken_at t taken)
taken_in-past a k x taken l = taken_in-agree a k (λ t. taken_at t (x ∷ taken)) (λ t. taken_at t taken) (λ t low high. taken_at-not t x taken (λ e. omega arith))

taken_in-now : (a k : ℕ) (x : Taken) (taken : List Taken) → x.clock ≡ a → taken_in a k (λ t. taken_at t (x ∷ taken)) ≡ x.post ∷ taken_in a k (λ t. taken_at t taken)
taken_in-now a zero x taken e = taken_at-now a x taken e
taken_in-now a (suc k) x taken e =
    ap (λ ps. ps ++ taken_in (a + 1) k (λ t. taken_at t (x ∷ taken))) (taken_at-now a x taken e)
    ∙ ap (λ ps. x.post ∷ (taken_at a taken ++ ps)) (taken_in-past (a + 1) k x taken (omega arith))

taken_in-none : (a k : ℕ) → taken_in a k (λ t. taken_at t []) ≡ []
taken_in-none a zero = refl
taken_in-none a (suc k) = taken_in-none (a + 1) k

abbrev IsAll : ℕ → ℕ → Type 0
IsAll a k = (taken : List Taken) → AreClocks a (a + k) taken → taken_in a k (λ t. taken_at t taken) ≡ posts_of taken

all_none : (a : ℕ) → IsAll a zero
all_none a [] h = refl
all_none a (x ∷ taken) h =
    let low : a ≤ x.clock = h.0 in let high : x.clock ≤ a + zero = h.1 in
    taken_in-now a zero x taken (omega arith) ∙ ap (λ ps. x.post ∷ ps) (all_none a taken (clocks_lower x.clock a (a + zero) taken low h.2))

all_more : (a k : ℕ) → IsAll (a + 1) k → IsAll a (suc k)
all_more a k next [] h = taken_in-none a (suc k)
all_more a k next (x ∷ taken) h =
    at_or_after a x.clock h.0
    (λ at. taken_in-now a (suc k) x taken (sym at) ∙ ap (λ ps. x.post ∷ ps) (all_more a k next taken (clocks_lower x.clock a (a + suc k) taken h.0 h.2)))
    (λ l.
    let clocks : AreClocks (a + 1) (a + suc k) (x ∷ taken) = (l, h.1, h.2) in
    let same : a + suc k ≡ a + 1 + k = omega arith in
    ap (λ ps. ps ++ taken_in (a + 1) k (λ t. taken_at t (x ∷ taken))) (taken_at-none a (x ∷ taken) (clocks_each (a + 1) (a + suc k) (x ∷ taken) clocks))
    ∙ next (x ∷ taken) (rw same at clocks))

taken_in-posts : (a k : ℕ) → IsAll a k
taken_in-posts a zero = all_none a
taken_in-posts a (suc k) = all_more a k (taken_in-posts (a + 1) k)

module _ {Inner Chan : Type 0} (rules : Rules Inner Chan) (owns : Owns Inner Chan) (laws : Laws rules owns)
    (s : StateValue Inner Chan) (d : Drift) (is : IsProper rules owns s) (e : StateValue Inner Chan) (drift : IsDrift rules s d e)
    (low : s.clock + d.len ≤ TOP) where
  -- a core's part, clock by clock
  read : {c : ℕ} {core : CoreValue Inner} {taken : List Taken} {end : CoreValue Inner} → IsPartOf rules s d c core taken end → IsLiteral rules core s.clock d.len taken end (asks_by c d.served)
  read {c} {core} {taken} {end} part = all_literal rules core s.clock d.len taken end (asks_by c d.served) part.alone

  part_proper : (c : ℕ) (core : CoreValue Inner) (taken : List Taken) (end : CoreValue Inner) → IsPartOf rules s d c core taken end → AreProper rules owns laws c s.clock d.len (λ t. taken_at t taken)
  part_proper c core taken end part j l =
      each_taken_at (IsPostTo rules c) (s.clock + j) taken (each_weaker (λ x to e. to) taken (recursion_from_All (λ x. IsPostTo rules c x.post) taken part.proper))

  -- each core's asks rise, from the drift's beginning on
  pub record AreOwnAsks (c : ℕ) (core : CoreValue Inner) : Type 0 where
    pub from : Each (λ x. s.clock ≤ (id_of x).cycle) (asks_by c d.served)
    pub rising : AreRising (asks_by c d.served)

  own_asks : (n : ℕ) (cores : List (CoreValue Inner)) (sent : List (List Taken)) (ends : List (CoreValue Inner))
      → AllNumberedTriples (IsPartOf rules s d) n cores sent ends → AllNumbered (IsCoreOf rules owns) n cores → AllNumbered AreOwnAsks n cores
  own_asks n [] sent ends parts are = tt
  own_asks n (core ∷ cores) [] ends parts are = absurd parts
  own_asks n (core ∷ cores) (taken ∷ sent) [] parts are = absurd parts
  own_asks n (core ∷ cores) (taken ∷ sent) (end ∷ ends) parts are =
      let proper = part_proper n core taken end parts.0 in
      let sent_are = (read parts.0).sent in (
        record {
          from = subst (Each (λ x. s.clock ≤ (id_of x).cycle)) (sym sent_are)
              (each_weaker (λ x f. f.cycle) (alone rules s.clock d.len core taken).1 (alone_asks rules owns laws n s.clock d.len core (λ t. taken_at t taken) low are.0 proper));
          rising = subst AreRising (sym sent_are) (alone_rises rules owns laws n s.clock d.len core (λ t. taken_at t taken) low are.0 proper);
        },
        own_asks (n + 1) cores sent ends parts.1 are.1,
      )

  proper : Each (IsProperAsk rules) d.served
  proper = recursion_from_All (IsProperAsk rules) d.served drift.proper

  among : Each (IsAmong 0 (length s.cores)) d.served
  among = asks_among rules owns laws d.served (length s.cores) is.core_count proper

  all_own : AllNumbered AreOwnAsks 0 s.cores
  all_own = own_asks 0 s.cores d.sent e.cores drift.cores is.cores

  from : Each (λ x. s.clock ≤ (id_of x).cycle) d.served
  from = each_by_core (λ x. s.clock ≤ (id_of x).cycle) 0 s.cores d.served among (numbered_weaker (λ c core o. o.from) 0 s.cores all_own)

  posts_after : Each (λ p. s.clock < p.due) (through rules s.chans d.served).posts
  posts_after = posts_later rules owns laws s.clock s.chans d.served is.chans proper from

  posts_apart : Pairwise IsApart (through rules s.chans d.served).posts
  posts_apart = through_apart rules owns laws s.chans d.served is.chans proper (distinct_by_core 0 s.cores d.served among (numbered_weaker (λ c core o. o.rising) 0 s.cores all_own))

  touch_is : (b : Bool) (t n : ℕ) → b ≡ true → cond b t 0 ≤ n → t ≤ n
  touch_is true t n h l = l
  touch_is false t n h l = absurd (false≢true h)

  core_quiet : (c : ℕ) (core : CoreValue Inner) (taken : List Taken) (end : CoreValue Inner) (own : IsCoreOf rules owns c core) → IsPartOf rules s d c core taken end → AreCalmTakes (s.clock + d.len) taken
      → IsQuiet rules owns laws c s.clock d.len core own low (λ t. taken_at t taken)
  core_quiet c core taken end own part calm =
      let after : Each (λ x. s.clock < x.post.due) taken =
      each_of_map (λ p. s.clock < p.due) (λ x. x.post) taken (subst (Each (λ p. s.clock < p.due)) (sym part.received) (each_filter (λ p. p.to == c) (λ p. s.clock < p.due) (through rules s.chans d.served).posts posts_after)) in
      let mine = posts_to c (through rules s.chans d.served).posts in
      record {
        proper = part_proper c core taken end part;
        later = λ j l. each_taken_at (λ q. s.clock < q.due) (s.clock + j) taken (each_weaker (λ x h e. h) taken after);
        calm = λ j l.
            each_taken_at (λ q. q.due < s.clock + j → IsHarmless rules owns laws c s.clock d.len core own low (λ t. taken_at t taken) j q) (s.clock + j) taken
            (each_weaker (λ x both e late.
            let take = both.0 (subst (λ t. x.post.due < t) (sym e) late) in
            let early = take.before in
            let touched : touch_of rules (alone rules s.clock j core taken).0.inner x.post ≤ x.post.due = subst (λ t. t ≤ x.post.due) (both.1 e) take.touch in
            record {
              kind = take.kind;
              before = omega arith;
              touch = touch_is (is_invalidate x.post.kind) (rules.touched (alone rules s.clock j core taken).0.inner x.post) x.post.due take.kind touched;
            }) taken
            (each_both (λ x. x.post.due < x.clock → IsCalmTake (s.clock + d.len) x) (λ x. x.clock ≡ s.clock + j → x.touched ≡ touch_of rules (alone rules s.clock j core taken).0.inner x.post) taken calm ((read part).touches j l)));
        apart = subst AreApart (sym part.received ∙ sym (taken_in-posts s.clock d.len taken (read part).clocks))
            (apart_to c mine (each_weaker (λ p e. eq_of p.to c e) mine (each_passes (λ p. p.to == c) (through rules s.chans d.served).posts))
            (pairwise_filter (λ p. p.to == c) IsApart (through rules s.chans d.served).posts posts_apart));
      }

  core_alone : (c : ℕ) (core : CoreValue Inner) (taken : List Taken) (end : CoreValue Inner) → IsCoreOf rules owns c core → IsPartOf rules s d c core taken end → AreCalmTakes (s.clock + d.len) taken
      → alone rules s.clock d.len core taken ≡ run rules s.clock d.len (given (through rules s.chans d.served).posts c core)
  core_alone c core taken end own part calm =
      quiet-run rules owns laws c s.clock d.len core own low (λ t. taken_at t taken) (core_quiet c core taken end own part calm)
      ∙ ap (λ ps. run rules s.clock d.len (with_puts core ps)) (taken_in-posts s.clock d.len taken (read part).clocks ∙ part.received)

  -- the core with all its posts put at the start comes to the same, by itself
  pub record IsRun (c : ℕ) (core end : CoreValue Inner) : Type 0 where
    pub asks : asks_by c d.served ≡ (run rules s.clock d.len (given (through rules s.chans d.served).posts c core)).1
    pub value : end ≡ (run rules s.clock d.len (given (through rules s.chans d.served).posts c core)).0

  pub core_run : (c : ℕ) (core : CoreValue Inner) (taken : List Taken) (end : CoreValue Inner) → IsCoreOf rules owns c core → IsPartOf rules s d c core taken end → AreCalmTakes (s.clock + d.len) taken → IsRun c core end
  core_run c core taken end own part calm =
      let same = core_alone c core taken end own part calm in
      record { asks = (read part).sent ∙ ap (λ r. r.1) same; value = (read part).end ∙ ap (λ r. r.0) same }
