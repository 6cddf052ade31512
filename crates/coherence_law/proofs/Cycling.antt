-- A cycle: all cores tick, their asks are served, the posts are delivered, and the clock goes on.
use Rattle.std.proofs.Common.{◌≡◌, ◌≢◌, ◌∙◌, ℕ, zero, suc, ◌+◌, ◌<◌, Bool, true, false, Option, None, Some, List, [], ◌∷◌, ◌++◌, filter, map, length, slice_get, refl, sym, ap, subst, inl, inr, eqb, cond, arith, append-nil, append_assoc, length-append, nat_lt}
use Rattle.std.specs.List.{All}
use Rattle.std.proofs.lemmas.Bool.{cases_eq, eq-eqb, ne_eqb}
use Rattle.std.proofs.lemmas.Bool.Decides.{nat_tests}
use Rattle.std.proofs.lemmas.List.{length-map}
use Rattle.std.proofs.lemmas.List.Elements.{All-nil, All-head, All-tail, All-weaker, filter_passes}
use mathlib.Core.Path.{fun_ext}
use Rattle.slack_base.specs.declared.configs.RawConfig.{RawConfig}
use Rattle.slack_base.specs.declared.messages.Post.{Post}
use Rattle.slack_base.specs.declared.messages.PostKind.{PostKind}
use Rattle.slack_base.specs.declared.messages.PostKind.TheVariants.{Reply, Retry, SnoopShare, SnoopOwn, Invalidate}
use Rattle.slack_base.specs.Inboxes.{with_post, with_put}
use Rattle.slack_base.specs.Numbers.{lines_of}
use Rattle.slack_base.proofs.Inboxes.{all_with_post}
use Rattle.bus_model.specs.Channels.{ChannelValue}
use Rattle.bus_model.specs.Closing.{closed}
use Rattle.timed_core.specs.Code.{CodeValue}
use Rattle.slack_base.specs.Inboxes.{CoreValue}
use Rattle.timed_core.specs.Cores.{HartValue}
use Rattle.target_law.specs.Cycles.{StateValue, tick_of, ticked, asks_of as all_asks, through, changed_at, delivered, cycle}
use Rattle.target_law.proofs.Delivery.{length-delivered}
use Rattle.target_law.proofs.Places.{length-changed}
use Rattle.coherence_law.specs.Lines.{Want, Nothing, Asked, Filling, Retrying, Part}
use Rattle.coherence_law.specs.Invariant.{IsDueReply, IsDueAt, IsDueSnoop, IsPunctualPart}
use Rattle.coherence_law.proofs.Parts.{clocks}
use Rattle.coherence_law.proofs.Chans.{get_changed, get_off, entry_closed, console_closed}
use Rattle.coherence_law.proofs.Pending.{Picks, HasPosts, with_one, answer, answer_of, answer_kind, invalidate_of, invalidate_kind, snoop_of, snoop_kind, seen}
use Rattle.coherence_law.proofs.Ticking.{IsFit, IsSent, IsWorld, rules, joined, tick_world}
use Rattle.coherence_law.proofs.World.{upd, upd_at, upd_off, upd_each, to_core, IsPartOf}

-- what a list of cores has at a number
abbrev pub pick_of : {X : Type 0} → X → (CoreValue HartValue → X) → Option (CoreValue HartValue) → X
pick_of d g None = d
pick_of d g (Some core) = g core

abbrev pub at_of : {X : Type 0} → (ℕ → X) → (CoreValue HartValue → X) → List (CoreValue HartValue) → ℕ → X
at_of d g cores k = pick_of (d k) g (slice_get cores k)

-- the cores, and others past the end
abbrev pub inner_of : (ℕ → HartValue) → List (CoreValue HartValue) → ℕ → HartValue
inner_of d cores = at_of d (λ core. core.inner) cores

abbrev pub base_of : List (CoreValue HartValue) → ℕ → List Post
base_of cores = at_of (λ k. []) (λ core. core.inbox) cores

mid : (a b : List (CoreValue HartValue)) (x : CoreValue HartValue) → slice_get (a ++ x ∷ b) (length a) ≡ Some x
mid [] b x = refl
mid (y ∷ a) b x = mid a b x

not_mid : (a b : List (CoreValue HartValue)) (x y : CoreValue HartValue) (k : ℕ) → k ≢ length a → slice_get (a ++ x ∷ b) k ≡ slice_get (a ++ y ∷ b) k
not_mid [] b x y zero n = absurd (n refl)
not_mid [] b x y (suc k) n = refl
not_mid (z ∷ a) b x y zero n = refl
not_mid (z ∷ a) b x y (suc k) n = not_mid a b x y k (λ e. n (ap suc e))

module _ {X : Type 0} (d : ℕ → X) (g : CoreValue HartValue → X) (a b : List (CoreValue HartValue)) (x y : CoreValue HartValue) where
  at_mid : at_of d g (a ++ x ∷ b) (length a) ≡ g x
  at_mid = ap (pick_of (d (length a)) g) (mid a b x)

  upd_mid : upd (length a) (g y) (at_of d g (a ++ x ∷ b)) ≡ at_of d g (a ++ y ∷ b)
  upd_mid = fun_ext (λ k. elim (cases_eq k (length a)) [
    | inl e ↦ subst (λ j. upd (length a) (g y) (at_of d g (a ++ x ∷ b)) j ≡ at_of d g (a ++ y ∷ b) j) (sym e)
        (upd_at (length a) (g y) (at_of d g (a ++ x ∷ b)) ∙ sym (ap (pick_of (d (length a)) g) (mid a b y)))
    | inr n ↦ upd_off (length a) (g y) (at_of d g (a ++ x ∷ b)) k n ∙ ap (pick_of (d k) g) (not_mid a b x y k n)
  ])

-- the posts that wait are due later
abbrev pub AreLate : ℕ → (ℕ → List Post) → Type 0
AreLate t base = (c : ℕ) → All (λ p. t < p.due) (base c)

module _ (config : RawConfig) (code : CodeValue) (fit : IsFit config code) (t : ℕ) (d : ℕ → HartValue) where
  -- the cores tick one after another
  ticks_world : (done rest : List (CoreValue HartValue)) (sent : List Post) (chans : List ChannelValue) → length done + length rest ≡ config.cores → IsWorld config t (inner_of d (done ++ rest)) (base_of (done ++ rest)) sent chans
      → IsWorld config t (inner_of d (done ++ ticked (rules config code fit t) t rest)) (base_of (done ++ ticked (rules config code fit t) t rest))
      (sent ++ (through (rules config code fit t) chans (all_asks (rules config code fit t) t rest)).posts) (through (rules config code fit t) chans (all_asks (rules config code fit t) t rest)).chans
  ticks_world done [] sent chans count w = subst (λ ps. IsWorld config t (inner_of d (done ++ [])) (base_of (done ++ [])) ps chans) (sym (append-nil sent)) w
  ticks_world done (core ∷ rest) sent chans count w =
      let r = rules config code fit t in
      let c = length done in
      let low : c < config.cores = omega arith in
      let out = tick_of r t core in
      let sent' = sent ++ (through r chans out.1).posts in
      let chans' = (through r chans out.1).chans in
      let one = tick_world config code fit t c low core (inner_of d (done ++ core ∷ rest)) (base_of (done ++ core ∷ rest)) sent chans
      (at_mid d (λ x. x.inner) done rest core core) (at_mid (λ k. []) (λ x. x.inbox) done rest core core) w in
      let whole = subst (λ i. IsWorld config t i (base_of (done ++ out.0 ∷ rest)) sent' chans') (upd_mid d (λ x. x.inner) done rest core out.0)
      (subst (λ b. IsWorld config t (upd c out.0.inner (inner_of d (done ++ core ∷ rest))) b sent' chans') (upd_mid (λ k. []) (λ x. x.inbox) done rest core out.0) one) in
      let done' = done ++ out.0 ∷ [] in
      let counted : length done' + length rest ≡ config.cores = omega (arith, length-append done (out.0 ∷ [])) in
      let next = ticks_world done' rest sent' chans' counted (subst (λ l. IsWorld config t (inner_of d l) (base_of l) sent' chans') (sym (append_assoc done (out.0 ∷ []) rest)) whole) in
      let after = done ++ out.0 ∷ ticked r t rest in
      joined config code fit t c low (inner_of d after) (base_of after) sent chans out.1 (all_asks r t rest)
      (subst (λ l. IsWorld config t (inner_of d l) (base_of l) (sent' ++ (through r chans' (all_asks r t rest)).posts) (through r chans' (all_asks r t rest)).chans) (append_assoc done (out.0 ∷ []) (ticked r t rest)) next)

  -- a post is put into its inbox
  put_world : (p : Post) (inner : ℕ → HartValue) (base : ℕ → List Post) (sent : List Post) (chans : List ChannelValue) → IsWorld config t inner base (p ∷ sent) chans
      → IsWorld config t inner (upd p.to (with_post (base p.to) p) base) sent chans
  put_world p inner base sent chans w = record {
    asked = w.asked;
    entry = w.entry;
    lines = λ l within. let x = w.lines l within in record {
      line = x.line;
      entry = x.entry;
      parts = upd_each p.to (with_post (base p.to) p) base (λ k ps. IsPartOf l (w.asked k) (inner k) (ps ++ to_core k sent) (x.line.parts k))
          (record {
            held = (x.parts p.to).held;
            wants = (x.parts p.to).wants;
            posts = let h = subst (λ ps. HasPosts l (base p.to ++ ps) (x.line.parts p.to)) (rw (eq-eqb p.to p.to refl) refl) (x.parts p.to).posts in
                has_put l p (base p.to) (to_core p.to sent) (x.line.parts p.to) h;
          })
          (λ k n. record {
            held = (x.parts k).held;
            wants = (x.parts k).wants;
            posts = subst (λ ps. HasPosts l (base k ++ ps) (x.line.parts k)) (not_to k n) (x.parts k).posts;
          });
      kept = x.kept;
    };
    has = w.has;
    named = w.named;
    console = w.console;
    cores = record {
      cache = w.cores.cache;
      sound = w.cores.sound;
      number = w.cores.number;
      low = upd_each p.to (with_post (base p.to) p) base (λ k ps. All (λ q. q.line < lines_of config) ps)
          (all_with_post (λ q. q.line < lines_of config) (base p.to) p (w.cores.low p.to) (All-head (IsSent config t) p sent w.late).line) (λ k n. w.cores.low k);
    };
    late = All-tail (IsSent config t) p sent w.late;
  } where
    has_put : (l : ℕ) (p : Post) (inbox b : List Post) (x : Part) → HasPosts l (inbox ++ p ∷ b) x → HasPosts l (with_post inbox p ++ b) x
    has_put l p inbox b x h = record {
      answer = with_one (answer_of l) inbox p b (answer x.want) h.answer;
      invalidate = with_one (invalidate_of l) inbox p b x.invalidate h.invalidate;
      snoop = with_one (snoop_of l) inbox p b x.snoop h.snoop;
    }

    not_to : (k : ℕ) → k ≢ p.to → to_core k (p ∷ sent) ≡ to_core k sent
    not_to k n = rw (ne_eqb p.to k (λ e. n (sym e))) refl

  put_late : (p : Post) (base : ℕ → List Post) → t < p.due → AreLate t base → AreLate t (upd p.to (with_post (base p.to) p) base)
  put_late p base soon late = upd_each p.to (with_post (base p.to) p) base (λ k ps. All (λ q. t < q.due) ps) (all_with_post (λ q. t < q.due) (base p.to) p (late p.to) soon) (λ k n. late k)

get_some : (xs : List (CoreValue HartValue)) (n : ℕ) → n < length xs → (core : CoreValue HartValue) × (slice_get xs n ≡ Some core)
get_some [] n h = absurd (omega arith)
get_some (x ∷ xs) zero h = (x, refl)
get_some (x ∷ xs) (suc n) h = get_some xs n (omega arith)

-- the cores after a post was put into an inbox
module _ (p : Post) (cores : List (CoreValue HartValue)) (core : CoreValue HartValue) (at : slice_get cores p.to ≡ Some core) where
  abbrev put_in : List (CoreValue HartValue)
  put_in = changed_at p.to (with_put p) cores

  put_here : slice_get put_in p.to ≡ Some (record core { inbox = with_post core.inbox p })
  put_here = get_changed (with_put p) p.to cores core at

  put_there : (k : ℕ) → k ≢ p.to → slice_get put_in k ≡ slice_get cores k
  put_there k n = get_off (with_put p) p.to k cores n

  put_inner : (d : ℕ → HartValue) → inner_of d cores ≡ inner_of d put_in
  put_inner d = fun_ext (λ k. elim (cases_eq k p.to) [
    | inl e ↦ subst (λ j. inner_of d cores j ≡ inner_of d put_in j) (sym e) (ap (pick_of (d p.to) (λ x. x.inner)) at ∙ sym (ap (pick_of (d p.to) (λ x. x.inner)) put_here))
    | inr n ↦ ap (pick_of (d k) (λ x. x.inner)) (sym (put_there k n))
  ])

  put_base : upd p.to (with_post (base_of cores p.to) p) (base_of cores) ≡ base_of put_in
  put_base = fun_ext (λ k. elim (cases_eq k p.to) [
    | inl e ↦ subst (λ j. upd p.to (with_post (base_of cores p.to) p) (base_of cores) j ≡ base_of put_in j) (sym e)
        (upd_at p.to (with_post (base_of cores p.to) p) (base_of cores)
        ∙ ap (λ o. with_post (pick_of [] (λ x. x.inbox) o) p) at
        ∙ sym (ap (pick_of [] (λ x. x.inbox)) put_here))
    | inr n ↦ upd_off p.to (with_post (base_of cores p.to) p) (base_of cores) k n ∙ ap (pick_of [] (λ x. x.inbox)) (sym (put_there k n))
  ])

-- the clock goes on
abbrev due_of_want : Want → ℕ
due_of_want (Filling due exclusive words) = due
due_of_want (Retrying due) = due
due_of_want _ = 0

abbrev snoop_due : ℕ × Bool → ℕ
snoop_due s = s.0

abbrev some_or : {Y : Type 0} → Y → Option Y → Y
some_or d None = d
some_or d (Some y) = y

answer_due : (b : Bool) (kind : PostKind) (due : ℕ) (w : Want) → cond b (answer_kind kind due) None ≡ Some w → due ≡ due_of_want w
answer_due true (Reply exclusive words) due w e = ap (λ o. due_of_want (some_or w o)) e
answer_due true Retry due w e = ap (λ o. due_of_want (some_or w o)) e
answer_due true SnoopShare due w e = absurd (cc)
answer_due true SnoopOwn due w e = absurd (cc)
answer_due true Invalidate due w e = absurd (cc)
answer_due false kind due w e = absurd (cc)

invalidate_due : (b : Bool) (kind : PostKind) (due n : ℕ) → cond b (invalidate_kind kind due) None ≡ Some n → due ≡ n
invalidate_due true (Reply exclusive words) due n e = absurd (cc)
invalidate_due true Retry due n e = absurd (cc)
invalidate_due true SnoopShare due n e = absurd (cc)
invalidate_due true SnoopOwn due n e = absurd (cc)
invalidate_due true Invalidate due n e = ap (some_or n) e
invalidate_due false kind due n e = absurd (cc)

snoop_is_due : (b : Bool) (kind : PostKind) (due : ℕ) (s : ℕ × Bool) → cond b (snoop_kind kind due) None ≡ Some s → due ≡ s.0
snoop_is_due true (Reply exclusive words) due s e = absurd (cc)
snoop_is_due true Retry due s e = absurd (cc)
snoop_is_due true SnoopShare due s e = ap (λ o. (some_or s o).0) e
snoop_is_due true SnoopOwn due s e = ap (λ o. (some_or s o).0) e
snoop_is_due true Invalidate due s e = absurd (cc)
snoop_is_due false kind due s e = absurd (cc)

module _ (t l : ℕ) (ps : List Post) (late : All (λ p. t < p.due) ps) where
  late_fill : (w : Want) → Picks (answer_of l) ps (answer w) → IsDueReply (t + 1) w
  late_fill Nothing h = tt
  late_fill Asked h = tt
  late_fill (Filling due exclusive words) h =
      let s = seen (answer_of l) (λ p. t < p.due) (Filling due exclusive words) ps h late in
      let e : s.0.due ≡ due = answer_due (eqb s.0.line l) s.0.kind s.0.due (Filling due exclusive words) s.1 in
      let soon : t < s.0.due = s.2 in
      omega arith
  late_fill (Retrying due) h = tt

  late_invalidate : (o : Option ℕ) → Picks (invalidate_of l) ps o → IsDueAt (t + 1) o
  late_invalidate None h = tt
  late_invalidate (Some due) h =
      let s = seen (invalidate_of l) (λ p. t < p.due) due ps h late in
      let e : s.0.due ≡ due = invalidate_due (eqb s.0.line l) s.0.kind s.0.due due s.1 in
      let soon : t < s.0.due = s.2 in
      omega arith

  late_snoop : (o : Option (ℕ × Bool)) → Picks (snoop_of l) ps o → IsDueSnoop (t + 1) o
  late_snoop None h = tt
  late_snoop (Some d) h =
      let s = seen (snoop_of l) (λ p. t < p.due) d ps h late in
      let e : s.0.due ≡ d.0 = snoop_is_due (eqb s.0.line l) s.0.kind s.0.due d s.1 in
      let soon : t < s.0.due = s.2 in
      omega arith

  late_part : (x : Part) → HasPosts l ps x → IsPunctualPart (t + 1) x
  late_part x h = record { reply = late_fill x.want h.answer; invalidate = late_invalidate x.invalidate h.invalidate; snoop = late_snoop x.snoop h.snoop }

clock_world : (config : RawConfig) (t : ℕ) (inner : ℕ → HartValue) (base : ℕ → List Post) (chans : List ChannelValue) → AreLate t base → IsWorld config t inner base [] chans → IsWorld config (t + 1) inner base [] chans
clock_world config t inner base chans late w = record {
  asked = w.asked;
  entry = w.entry;
  lines = λ l within. let x = w.lines l within in record {
    line = x.line;
    entry = x.entry;
    parts = x.parts;
    kept = clocks t (t + 1) x.line (λ c. late_part t l (base c ++ []) (subst (λ ps. All (λ p. t < p.due) ps) (sym (append-nil (base c))) (late c)) (x.line.parts c) (x.parts c).posts) x.kept;
  };
  has = w.has;
  named = w.named;
  console = w.console;
  cores = w.cores;
  late = All-nil (IsSent config (t + 1));
}

module _ (config : RawConfig) (code : CodeValue) (fit : IsFit config code) (d : ℕ → HartValue) where
  -- all posts are put into their inboxes
  delivered_world : (t : ℕ) (posts : List Post) (cores : List (CoreValue HartValue)) (chans : List ChannelValue) → length cores ≡ config.cores → AreLate t (base_of cores)
      → IsWorld config t (inner_of d cores) (base_of cores) posts chans
      → IsWorld config (t + 1) (inner_of d (delivered cores posts)) (base_of (delivered cores posts)) [] chans
  delivered_world t [] cores chans count late w = clock_world config t (inner_of d cores) (base_of cores) chans late w
  delivered_world t (p ∷ posts) cores chans count late w =
      let sent = All-head (IsSent config t) p posts w.late in
      let low : p.to < length cores = let to = sent.to in omega arith in
      let found = get_some cores p.to low in
      let next = changed_at p.to (with_put p) cores in
      let put = put_world config code fit t d p (inner_of d cores) (base_of cores) posts chans w in
      delivered_world t posts next chans (length-changed (with_put p) p.to cores ∙ count)
      (subst (AreLate t) (put_base p cores found.0 found.1) (put_late config code fit t d p (base_of cores) sent.late late))
      (subst (λ i. IsWorld config t i (base_of next) posts chans) (put_inner p cores found.0 found.1 d)
      (subst (λ b. IsWorld config t (inner_of d cores) b posts chans) (put_base p cores found.0 found.1) put))

  -- after all ticks at t every post that still waits is due later
  late_ticked : (t : ℕ) (cores : List (CoreValue HartValue)) → AreLate t (base_of (ticked (rules config code fit t) t cores))
  late_ticked t [] c = All-nil _
  late_ticked t (core ∷ cores) zero =
      All-weaker (λ (p : Post). nat_lt t p.due ≡ true) (λ p. t < p.due) (λ p h. grind (arith, nat_tests)) (filter (λ p. nat_lt t p.due) core.inbox) (filter_passes (λ p. nat_lt t p.due) core.inbox)
  late_ticked t (core ∷ cores) (suc c) = late_ticked t cores c

  -- the channels are closed
  closed_world : (t : ℕ) (inner : ℕ → HartValue) (base : ℕ → List Post) (sent : List Post) (chans : List ChannelValue) → IsWorld config t inner base sent chans → IsWorld config t inner base sent (map closed chans)
  closed_world t inner base sent chans w = record {
    asked = w.asked;
    entry = w.entry;
    lines = w.lines;
    has = λ l within. entry_closed config chans l (w.entry l) (w.has l within);
    named = w.named;
    console = console_closed config chans w.console;
    cores = w.cores;
    late = w.late;
  }

  -- a machine between two cycles
  pub record IsBetween (s : StateValue HartValue ChannelValue) : Type 0 where
    pub count : length s.cores ≡ config.cores
    pub world : IsWorld config s.clock (inner_of d s.cores) (base_of s.cores) [] s.chans

  pub cycle_between : (s : StateValue HartValue ChannelValue) → IsBetween s → IsBetween (cycle (rules config code fit 0) s)
  unfolding cycle
  cycle_between s is =
      let r = rules config code fit 0 in
      let t = s.clock in
      let after = ticked r t s.cores in
      let asks = all_asks r t s.cores in
      let out = through r s.chans asks in
      let counted : length after ≡ config.cores = length-map s.cores (λ core. (tick_of r t core).0) ∙ is.count in
      let whole : 0 + length s.cores ≡ config.cores = let c = is.count in omega arith in
      let ticks = ticks_world config code fit t d [] s.cores [] s.chans whole is.world in
      record {
        count = length-delivered after out.posts ∙ counted;
        world = delivered_world t out.posts after (map closed out.chans) counted (late_ticked t s.cores) (closed_world t (inner_of d after) (base_of after) out.posts out.chans ticks);
      }
