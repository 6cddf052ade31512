-- A tick of a core, and of one core after another.
use Rattle.std.proofs.Common.{◌≡◌, ◌∙◌, ℕ, ◌+◌, ◌*◌, ◌<◌, ◌≤◌, true, false, not, Option, None, Some, List, [], ◌∷◌, ◌++◌, filter, length, refl, sym, ap, subst, inl, inr, arith, append-nil, append_assoc, nat_le, nat_lt}
use Rattle.std.specs.List.{All}
use Rattle.std.specs.Option.{IfSome}
use Rattle.std.proofs.lemmas.Bool.{cases_eq, cases_Bool, eq-eqb, ne_eqb}
use Rattle.std.proofs.lemmas.Bool.Decides.{nat_tests}
use Rattle.std.proofs.lemmas.List.Elements.{All-head, All-tail, All-append, All-filter, All-weaker, filter_passes}
use mathlib.Core.Path.{fun_ext}
use Rattle.slack_base.specs.declared.bounds.TheConstants.{MOST_CORES}
use Rattle.slack_base.specs.declared.configs.RawConfig.{RawConfig}
use Rattle.slack_base.specs.declared.messages.Ask.{Ask}
use Rattle.slack_base.specs.declared.messages.Post.{Post}
use Rattle.slack_base.specs.declared.messages.PostKind.{PostKind}
use Rattle.slack_base.specs.declared.messages.PostKind.TheVariants.{Reply, Retry, SnoopShare, SnoopOwn, Invalidate}
use Rattle.slack_base.specs.declared.stamps.Id.{Id}
use Rattle.slack_base.specs.Messages.{id_of, line_of}
use Rattle.slack_base.specs.Numbers.{lines_of}
use Rattle.mesi_cache.specs.declared.lines.CacheLine.{CacheLine}
use Rattle.mesi_cache.specs.Lines.{filled}
use Rattle.mesi_cache.specs.Caches.{IsCache, fill_line, victim_of}
use Rattle.status_map.specs.declared.views.EntryView.{EntryView}
use Rattle.status_map.specs.Entries.{NamesBelow}
use Rattle.status_map.specs.Table.{serve}
use Rattle.status_map.proofs.Lawful.{all_lawful}
use Rattle.bus_model.specs.Channels.{ChannelValue}
use Rattle.bus_model.specs.Settings.{delays_of}
use Rattle.timed_core.specs.Code.{CodeValue}
use Rattle.slack_base.specs.Inboxes.{CoreValue}
use Rattle.timed_core.specs.Cores.{HartValue}
use Rattle.timed_core.specs.Posts.{applied, replied, evicted, is_modified}
use Rattle.timed_core.specs.Ticks.{applied_all, asks_of, id_at, stepped, tick}
use Rattle.timed_core.specs.Touches.{touched_at}
use Rattle.timed_core.specs.Laws.{IsSoundHart}
use Rattle.timed_core.proofs.Steps.{IsAskBelow}
use Rattle.timed_core.proofs.PostSteps.{applied_step}
use Rattle.timed_core.proofs.InstructionSteps.{stepped_step}
use Rattle.target_law.specs.Cycles.{tick_of, through}
use Rattle.target_law.specs.Rules.{Rules}
use Rattle.target_law.proofs.Serving.{after_ask, posts_at}
use Rattle.lockstep_model.specs.Rules.{rules_of}
use Rattle.coherence_law.proofs.Applied.{AreLines, AreAsked, AreStepped, applied_lines}
use Rattle.coherence_law.proofs.Chans.{HasEntry, HasConsole, chans_after, posts_of, asked_line, asked_console}
use Rattle.coherence_law.proofs.Executed.{stepped_lines}
use Rattle.timed_core.proofs.Held.{fill_is, snoop_is}
use Rattle.coherence_law.proofs.Pending.{Picks, HasPosts, has_same, parted}
use Rattle.coherence_law.proofs.World.{upd, upd_at, upd_each, to_core, IsPartOf, line_served, posts_about, entry_then}

-- what the numbers of a machine keep to
pub record IsFit (config : RawConfig) (code : CodeValue) : Type 0 where
  pub whole : length code.bytes ≡ 16 * lines_of config
  pub cores : config.cores ≤ MOST_CORES
  pub buses : 0 < config.buses
  pub snoop : 1 ≤ config.snoop
  pub memory : config.snoop < config.memory_delay
  pub transfer : 1 ≤ config.transfer

-- a post that is sent in a cycle
pub record IsSent (config : RawConfig) (t : ℕ) (p : Post) : Type 0 where
  pub late : t < p.due
  pub to : p.to < config.cores
  pub line : p.line < lines_of config

-- the cores, each with its number, a cache and posts about lines of memory
pub record AreCores (config : RawConfig) (inner : ℕ → HartValue) (base : ℕ → List Post) : Type 0 where
  pub cache : (c : ℕ) → IsCache (inner c).cache
  pub sound : (c : ℕ) → c < config.cores → IsSoundHart config (inner c)
  pub number : (c : ℕ) → (inner c).number ≡ c
  pub low : (c : ℕ) → All (λ p. p.line < lines_of config) (base c)

-- all that is true in the midst of a cycle
pub record IsWorld (config : RawConfig) (t : ℕ) (inner : ℕ → HartValue) (base : ℕ → List Post) (sent : List Post) (chans : List ChannelValue) : Type 0 where
  pub asked : ℕ → ℕ
  pub entry : ℕ → EntryView
  pub lines : AreLines (lines_of config) t asked inner base sent entry
  pub has : (l : ℕ) → l < lines_of config → HasEntry config chans l (entry l)
  pub named : (l : ℕ) → NamesBelow config.cores (entry l).kind
  pub console : HasConsole config chans
  pub cores : AreCores config inner base
  pub late : All (IsSent config t) sent

module _ {X : Type 0} (c : ℕ) where
  pub upd_twice : (x y : X) (f : ℕ → X) → upd c x (upd c y f) ≡ upd c x f
  upd_twice x y f = fun_ext (λ k. elim (cases_eq k c) [ inl e ↦ rw (eq-eqb k c e) refl | inr n ↦ rw (ne_eqb k c n) refl ])

  pub upd_same : (x : X) (f : ℕ → X) → f c ≡ x → upd c x f ≡ f
  upd_same x f is = fun_ext (λ k. elim (cases_eq k c) [ inl e ↦ rw (eq-eqb k c e) (sym is ∙ ap f (sym e)) | inr n ↦ rw (ne_eqb k c n) refl ])

-- serving some asks and then others is serving all of them
module _ {I C : Type 0} (rules : Rules I C) where
  chans_append : (chans : List C) (a b : List Ask) → (through rules chans (a ++ b)).chans ≡ (through rules (through rules chans a).chans b).chans
  chans_append chans [] b = refl
  chans_append chans (ask ∷ a) b = chans_append (after_ask rules ask chans) a b

  posts_append : (chans : List C) (a b : List Ask) → (through rules chans (a ++ b)).posts ≡ (through rules chans a).posts ++ (through rules (through rules chans a).chans b).posts
  posts_append chans [] b = refl
  posts_append chans (ask ∷ a) b =
      let out = after_ask rules ask chans in
      ap (λ ps. posts_at rules ask chans ++ ps) (posts_append out a b)
      ∙ sym (append_assoc (posts_at rules ask chans) (through rules out a).posts (through rules (through rules out a).chans b).posts)

module _ (config : RawConfig) (code : CodeValue) (fit : IsFit config code) (t : ℕ) where
  abbrev pub rules : Rules HartValue ChannelValue
  rules = rules_of config code

  -- the ask has its core's id at this clock
  abbrev IsFrom : ℕ → Ask → Type 0
  IsFrom c ask = ((id_of ask).core ≡ c) × ((id_of ask).cycle ≡ t)

  -- what a core did, before its ask is served
  module _ (inner : ℕ → HartValue) (base : ℕ → List Post) (sent : List Post) (chans : List ChannelValue) (asked : ℕ → ℕ) (entry : ℕ → EntryView)
      (has : (l : ℕ) → l < lines_of config → HasEntry config chans l (entry l)) (named : (l : ℕ) → NamesBelow config.cores (entry l).kind) (console : HasConsole config chans)
      (cores : AreCores config inner base) (late : All (IsSent config t) sent) (c : ℕ) (low : c < config.cores) where
    none_served : AreLines (lines_of config) t asked inner base sent entry → IsWorld config t inner base sent chans
    none_served lines = record { asked = asked; entry = entry; lines = lines; has = has; named = named; console = console; cores = cores; late = late }

    one_served : (ask : Ask) → IsFrom c ask → (o : Option ℕ) → line_of ask ≡ o → AreAsked (lines_of config) t asked inner base sent entry ask o → IsWorld config t inner base (sent ++ posts_of config chans ask) (chans_after config chans ask)
    one_served ask from None is lines =
        let put = asked_console config chans ask is fit.buses console in
        subst (λ ps. IsWorld config t inner base (sent ++ ps) (chans_after config chans ask)) (sym put.posts)
        (subst (λ ps. IsWorld config t inner base ps (chans_after config chans ask)) (sym (append-nil sent))
        (record { asked = asked; entry = entry; lines = lines; has = λ l within. put.lines l (entry l) (has l within); named = named; console = put.console; cores = cores; late = late }))
    one_served ask from (Some la) is lines =
        let on = asked_line config chans ask la (entry la) is (has la lines.0) in
        let d = delays_of config in
        let soon : t ≤ on.grant = let s = on.soon in let f = from.1 in omega arith in
        let snoop = fit.snoop in let memory = fit.memory in let transfer = fit.transfer in
        let law = all_lawful config.cores 1 on.grant d ask (entry la) (omega arith, omega arith, omega arith) (subst (λ k. k < config.cores) (sym from.0) low) (named la) in
        let about = posts_about d on.grant ask la (entry la) is in
        let posts : All (IsSent config t) (serve d on.grant ask (entry la)).posts = λ k q within. record {
          late = let due = law.due k q within in omega arith;
          to = law.received k q within;
          line = subst (λ j. j < lines_of config) (sym (about k q within)) lines.0;
        } in
        subst (λ ps. IsWorld config t inner base (sent ++ ps) (chans_after config chans ask)) (sym on.posts)
        (record {
          asked = asked;
          entry = entry_then t d on.grant ask la is asked inner base sent entry;
          lines = λ l within. line_served t d on.grant ask la is asked inner base sent entry l (lines.1 d on.grant soon memory l within);
          has = λ l within. upd_each la (serve d on.grant ask (entry la)).entry entry (λ j e. j < lines_of config → HasEntry config (chans_after config chans ask) j e)
              (λ _. on.own) (λ j n inside. on.others j (entry j) n (has j inside)) l within;
          named = upd_each la (serve d on.grant ask (entry la)).entry entry (λ j e. NamesBelow config.cores e.kind) law.named (λ j n. named j);
          console = on.console fit.buses console;
          cores = cores;
          late = All-append (IsSent config t) sent (serve d on.grant ask (entry la)).posts late posts;
        })

    pub ask_served : (o : Option Ask) → IfSome o (IsFrom c) → AreStepped (lines_of config) t asked inner base sent entry o
        → IsWorld config t inner base (sent ++ (through rules chans (asks_of o)).posts) (through rules chans (asks_of o)).chans
    ask_served None from lines = subst (λ ps. IsWorld config t inner base ps chans) (sym (append-nil sent)) (none_served lines)
    ask_served (Some ask) from lines =
        subst (λ ps. IsWorld config t inner base (sent ++ ps) (chans_after config chans ask)) (sym (append-nil (posts_of config chans ask))) (one_served ask from (line_of ask) refl lines)

  -- a post leaves a cache
  evicted_cache : (code_base : ℕ) (victim : Option CacheLine) (id : Id) (core : HartValue) → (evicted code_base victim id core).0.cache ≡ core.cache
  unfolding evicted
  evicted_cache code_base None id core = refl
  evicted_cache code_base (Some v) id core =
      elim (cases_Bool (is_modified v.held)) [ inl y ↦ rw y refl | inr n ↦ rw n refl ]

  applied_cache : (kind : PostKind) (code_base line : ℕ) (id : Id) (core : HartValue) → IsCache core.cache → IsCache (applied kind code_base line id core).0.cache
  unfolding applied replied
  applied_cache (Reply exclusive words) code_base line id core is =
      let new = filled line exclusive words in
      subst IsCache (sym (evicted_cache code_base (victim_of core.cache new) id (record (touched_at id.cycle line core) { cache = fill_line core.cache new; waiting = false }))) (fill_is core.cache is new)
  applied_cache Retry code_base line id core is = is
  applied_cache SnoopShare code_base line id core is = snoop_is core.cache is line false
  applied_cache SnoopOwn code_base line id core is = snoop_is core.cache is line true
  applied_cache Invalidate code_base line id core is = snoop_is core.cache is line true

  module _ (c : ℕ) (low : c < config.cores) where
    from_step : (core : HartValue) (n : ℕ) (o : Option Ask) → core.number ≡ c → IfSome o (IsAskBelow (lines_of config) (id_at t core n)) → IfSome o (IsFrom c)
    from_step core n None number h = tt
    from_step core n (Some ask) number h = (ap (λ (i : Id). i.core) h.0 ∙ number, ap (λ (i : Id). i.cycle) h.0)

    -- the cores after a step of one
    cores_after : (inner : ℕ → HartValue) (base : ℕ → List Post) (after : HartValue) (rest : List Post) → AreCores config inner base → IsCache after.cache → IsSoundHart config after → after.number ≡ c
        → All (λ p. p.line < lines_of config) rest → AreCores config (upd c after inner) (upd c rest base)
    cores_after inner base after rest are cache sound number own = record {
      cache = upd_each c after inner (λ k x. IsCache x.cache) cache (λ k n. are.cache k);
      sound = upd_each c after inner (λ k x. k < config.cores → IsSoundHart config x) (λ _. sound) (λ k n. are.sound k);
      number = upd_each c after inner (λ k x. x.number ≡ k) number (λ k n. are.number k);
      low = upd_each c rest base (λ k ps. All (λ p. p.line < lines_of config) ps) own (λ k n. are.low k);
    }

    -- one post is applied, and its ask is served
    post_world : (p : Post) (rest : List Post) (n : ℕ) (inner : ℕ → HartValue) (base : ℕ → List Post) (sent : List Post) (chans : List ChannelValue) → base c ≡ p ∷ rest → p.due ≤ t → IsWorld config t inner base sent chans
        → IsWorld config t (upd c (applied p.kind code.base p.line (id_at t (inner c) n) (inner c)).0 inner) (upd c rest base)
        (sent ++ (through rules chans (asks_of (applied p.kind code.base p.line (id_at t (inner c) n) (inner c)).1)).posts)
        (through rules chans (asks_of (applied p.kind code.base p.line (id_at t (inner c) n) (inner c)).1)).chans
    post_world p rest n inner base sent chans at now w =
        let core = inner c in
        let id = id_at t core n in
        let lines = lines_of config in
        let all : All (λ q. q.line < lines) (p ∷ rest) = subst (λ ps. All (λ q. q.line < lines) ps) at (w.cores.low c) in
        let own : p.line < lines = All-head (λ q. q.line < lines) p rest all in
        let few_cores : c < MOST_CORES = let few = fit.cores in omega arith in
        let step = applied_step config code.base id p.line core (w.cores.sound c low) own p.kind in
        let out = applied p.kind code.base p.line id core in
        ask_served (upd c out.0 inner) (upd c rest base) sent chans w.asked w.entry w.has w.named w.console
        (cores_after inner base out.0 rest w.cores (applied_cache p.kind code.base p.line id core (w.cores.cache c)) step.sound (step.same ∙ w.cores.number c) (All-tail (λ q. q.line < lines) p rest all))
        w.late c low out.1 (from_step core n out.1 (w.cores.number c) step.ask)
        (applied_lines lines t w.asked inner base sent w.entry c p rest at now own w.lines (w.cores.cache c) (w.cores.sound c low).cache.lines id (w.cores.number c) few_cores code.base)

    -- what is after two lists of asks is what is after both
    pub joined : (inner : ℕ → HartValue) (base : ℕ → List Post) (sent : List Post) (chans : List ChannelValue) (a b : List Ask)
        → IsWorld config t inner base ((sent ++ (through rules chans a).posts) ++ (through rules (through rules chans a).chans b).posts) (through rules (through rules chans a).chans b).chans
        → IsWorld config t inner base (sent ++ (through rules chans (a ++ b)).posts) (through rules chans (a ++ b)).chans
    joined inner base sent chans a b w =
        subst (λ ps. IsWorld config t inner base (sent ++ ps) (through rules chans (a ++ b)).chans) (sym (posts_append rules chans a b))
        (subst (λ cs. IsWorld config t inner base (sent ++ ((through rules chans a).posts ++ (through rules (through rules chans a).chans b).posts)) cs) (sym (chans_append rules chans a b))
        (subst (λ ps. IsWorld config t inner base ps (through rules (through rules chans a).chans b).chans) (append_assoc sent (through rules chans a).posts (through rules (through rules chans a).chans b).posts) w))

    -- the posts are applied one after another
    posts_world : (due rest : List Post) (n : ℕ) (core : HartValue) (inner : ℕ → HartValue) (base : ℕ → List Post) (sent : List Post) (chans : List ChannelValue) → inner c ≡ core → base c ≡ due ++ rest → All (λ p. p.due ≤ t) due
        → IsWorld config t inner base sent chans
        → IsWorld config t (upd c (applied_all code.base t n core due).0 inner) (upd c rest base)
        (sent ++ (through rules chans (applied_all code.base t n core due).1).posts) (through rules chans (applied_all code.base t n core due).1).chans
    posts_world [] rest n core inner base sent chans is at now w =
        subst (λ i. IsWorld config t i (upd c rest base) (sent ++ []) chans) (sym (upd_same c core inner is))
        (subst (λ b. IsWorld config t inner b (sent ++ []) chans) (sym (upd_same c rest base at))
        (subst (λ ps. IsWorld config t inner base ps chans) (sym (append-nil sent)) w))
    posts_world (p ∷ due) rest n core inner base sent chans is at now w =
        let one = applied p.kind code.base p.line (id_at t core n) core in
        let asks = asks_of one.1 in
        let m = n + length asks in
        let first : IsWorld config t (upd c one.0 inner) (upd c (due ++ rest) base) (sent ++ (through rules chans asks).posts) (through rules chans asks).chans
        = subst (λ (k : HartValue). let o = applied p.kind code.base p.line (id_at t k n) k in IsWorld config t (upd c o.0 inner) (upd c (due ++ rest) base) (sent ++ (through rules chans (asks_of o.1)).posts) (through rules chans (asks_of o.1)).chans) is
        (post_world p (due ++ rest) n inner base sent chans at (All-head (λ p. p.due ≤ t) p due now) w) in
        let next = posts_world due rest m one.0 (upd c one.0 inner) (upd c (due ++ rest) base) (sent ++ (through rules chans asks).posts) (through rules chans asks).chans
        (upd_at c one.0 inner) (upd_at c (due ++ rest) base) (All-tail (λ p. p.due ≤ t) p due now) first in
        let last = applied_all code.base t m one.0 due in
        joined (upd c last.0 inner) (upd c rest base) sent chans asks last.1
        (subst (λ i. IsWorld config t i (upd c rest base) ((sent ++ (through rules chans asks).posts) ++ (through rules (through rules chans asks).chans last.1).posts) (through rules (through rules chans asks).chans last.1).chans) (upd_twice c last.0 one.0 inner)
        (subst (λ b. IsWorld config t (upd c last.0 (upd c one.0 inner)) b ((sent ++ (through rules chans asks).posts) ++ (through rules (through rules chans asks).chans last.1).posts) (through rules (through rules chans asks).chans last.1).chans) (upd_twice c rest (due ++ rest) base) next))

    -- the instruction, and its ask is served
    step_world : (n : ℕ) (core : HartValue) (inner : ℕ → HartValue) (base : ℕ → List Post) (sent : List Post) (chans : List ChannelValue) → inner c ≡ core → IsWorld config t inner base sent chans
        → IsWorld config t (upd c (stepped code (id_at t core n) core).0 inner) base
        (sent ++ (through rules chans (asks_of (stepped code (id_at t core n) core).1)).posts) (through rules chans (asks_of (stepped code (id_at t core n) core).1)).chans
    step_world n core inner base sent chans is w =
        subst (λ (k : HartValue). let o = stepped code (id_at t k n) k in IsWorld config t (upd c o.0 inner) base (sent ++ (through rules chans (asks_of o.1)).posts) (through rules chans (asks_of o.1)).chans) is
        (let here = inner c in
        let id = id_at t here n in
        let lines = lines_of config in
        let few_cores : c < MOST_CORES = let few = fit.cores in omega arith in
        let step = stepped_step config code fit.whole id here (w.cores.sound c low) in
        let out = stepped code id here in
        let does = stepped_lines lines t w.asked inner base sent w.entry c w.lines (w.cores.cache c) id (w.cores.number c) few_cores code fit.whole in
        let cores = subst (λ b. AreCores config (upd c out.0 inner) b) (upd_same c (base c) base refl)
        (cores_after inner base out.0 (base c) w.cores does.cache step.sound (step.same ∙ w.cores.number c) (w.cores.low c)) in
        ask_served (upd c out.0 inner) base sent chans does.asked w.entry w.has w.named w.console cores w.late c low out.1 (from_step here n out.1 (w.cores.number c) step.ask) does.stepped)

    -- the posts that are due, and the others behind them
    abbrev pub due_in : List Post → List Post
    due_in inbox = filter (λ p. nat_le p.due t) inbox

    abbrev pub later_in : List Post → List Post
    later_in inbox = filter (λ p. nat_lt t p.due) inbox

    parted_world : (inbox : List Post) (inner : ℕ → HartValue) (base : ℕ → List Post) (sent : List Post) (chans : List ChannelValue) → base c ≡ inbox → IsWorld config t inner base sent chans
        → IsWorld config t inner (upd c (due_in inbox ++ later_in inbox) base) sent chans
    parted_world inbox inner base sent chans is w = record {
      asked = w.asked;
      entry = w.entry;
      lines = λ l within. let x = w.lines l within in record {
        line = x.line;
        entry = x.entry;
        parts = upd_each c (due_in inbox ++ later_in inbox) base (λ k ps. IsPartOf l (w.asked k) (inner k) (ps ++ to_core k sent) (x.line.parts k))
            (record {
              held = (x.parts c).held;
              wants = (x.parts c).wants;
              posts = has_same l (inbox ++ to_core c sent) ((due_in inbox ++ later_in inbox) ++ to_core c sent) (x.line.parts c)
                  (λ Y f o h. subst (λ ps. Picks f ps o) (sym (append_assoc (due_in inbox) (later_in inbox) (to_core c sent)))
                  (parted f (λ p. nat_le p.due t) (λ p. nat_lt t p.due) (λ p. opposite p.due) inbox (to_core c sent) o h))
                  (subst (λ b. HasPosts l (b ++ to_core c sent) (x.line.parts c)) is (x.parts c).posts);
            })
            (λ k n. x.parts k);
        kept = x.kept;
      };
      has = w.has;
      named = w.named;
      console = w.console;
      cores = record {
        cache = w.cores.cache;
        sound = w.cores.sound;
        number = w.cores.number;
        low = upd_each c (due_in inbox ++ later_in inbox) base (λ k ps. All (λ p. p.line < lines_of config) ps)
            (let all = subst (λ b. All (λ p. p.line < lines_of config) b) is (w.cores.low c) in
            All-append (λ p. p.line < lines_of config) (due_in inbox) (later_in inbox)
            (All-filter (λ p. nat_le p.due t) (λ p. p.line < lines_of config) inbox all) (All-filter (λ p. nat_lt t p.due) (λ p. p.line < lines_of config) inbox all))
            (λ k n. w.cores.low k);
      };
      late = w.late;
    } where
      opposite : (due : ℕ) → nat_lt t due ≡ not (nat_le due t)
      opposite due = grind (arith, nat_tests)

    -- a tick of the core
    pub tick_world : (core : CoreValue HartValue) (inner : ℕ → HartValue) (base : ℕ → List Post) (sent : List Post) (chans : List ChannelValue) → inner c ≡ core.inner → base c ≡ core.inbox → IsWorld config t inner base sent chans
        → IsWorld config t (upd c (tick_of rules t core).0.inner inner) (upd c (tick_of rules t core).0.inbox base)
        (sent ++ (through rules chans (tick_of rules t core).1).posts) (through rules chans (tick_of rules t core).1).chans
    unfolding tick
    tick_world core inner base sent chans is at w =
        let due = due_in core.inbox in
        let later = later_in core.inbox in
        let base' = upd c (due ++ later) base in
        let now : All (λ p. p.due ≤ t) due = All-weaker (λ (p : Post). nat_le p.due t ≡ true) (λ p. p.due ≤ t) (λ p h. grind (arith, nat_tests)) due (filter_passes (λ p. nat_le p.due t) core.inbox) in
        let posts = applied_all code.base t 0 core.inner due in
        let id = id_at t posts.0 (length posts.1) in
        let step = stepped code id posts.0 in
        let first = posts_world due later 0 core.inner inner base' sent chans is (upd_at c (due ++ later) base) now (parted_world core.inbox inner base sent chans at w) in
        let next = step_world (length posts.1) posts.0 (upd c posts.0 inner) (upd c later base') (sent ++ (through rules chans posts.1).posts) (through rules chans posts.1).chans (upd_at c posts.0 inner) first in
        let sent' = (sent ++ (through rules chans posts.1).posts) ++ (through rules (through rules chans posts.1).chans (asks_of step.1)).posts in
        let chans' = (through rules (through rules chans posts.1).chans (asks_of step.1)).chans in
        joined (upd c step.0 inner) (upd c later base) sent chans posts.1 (asks_of step.1)
        (subst (λ i. IsWorld config t i (upd c later base) sent' chans') (upd_twice c step.0 posts.0 inner)
        (subst (λ b. IsWorld config t (upd c step.0 (upd c posts.0 inner)) b sent' chans') (upd_twice c later (due ++ later) base) next))
