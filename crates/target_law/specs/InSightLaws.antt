-- Marks in sight take no law away. No tactic is used here: what stands in specs gives its own proof.
use Rattle.std.proofs.Common.{◌≡◌, ◌∙◌, ℕ, ◌+◌, ◌≤◌, zero, suc, List, [], ◌∷◌, ◌++◌, sym, ap, subst, refl}
use Rattle.std.specs.List.{AllByRecursion as Each}
use Rattle.slack_base.specs.declared.bounds.TheConstants.{TOP}
use Rattle.slack_base.specs.declared.messages.Ask.{Ask}
use Rattle.slack_base.specs.declared.messages.Post.{Post}
use Rattle.slack_base.specs.Inboxes.{CoreValue}
use Rattle.slack_base.specs.Marks.{Marked}
use Rattle.target_law.specs.Cycles.{tick_of}
use Rattle.target_law.specs.InSight.{MarkedInner, bare, rules_in_sight, owns_in_sight}
use Rattle.target_law.specs.Laws.{Laws, AreSinceClosed, IsTick, IsServing, IsFreeAfter, IsCommuting, IsClosing, IsNext, IsLatePut, IsUnseen}
use Rattle.target_law.specs.Proper.{IsProperAsk, IsPostTo, IsCoreOf, IsChanOf}
use Rattle.target_law.specs.Rules.{Rules, Owns}
use Rattle.target_law.specs.Schedules.{alone_by, with_puts}
use Rattle.target_law.specs.Served.{Perm, inserted, served_all}

each_weaker : {X : Type 0} {P Q : X → Type 0} → ((x : X) → P x → Q x) → (xs : List X) → Each P xs → Each Q xs
each_weaker f [] h = tt
each_weaker f (x ∷ xs) h = (f x h.0, each_weaker f xs h.1)

-- another core's value with the mark of this one
abbrev beside : {Inner : Type 0} → CoreValue (MarkedInner Inner) → CoreValue Inner → CoreValue (MarkedInner Inner)
beside core c = record { inner = record { inner = c.inner; saved = core.inner.saved }; inbox = c.inbox }

module _ {Inner Chan : Type 0} (rules : Rules Inner Chan) (owns : Owns Inner Chan) (laws : Laws rules owns) where
  abbrev sight : Rules (MarkedInner Inner) (Marked Chan)
  sight = rules_in_sight rules

  abbrev own : Owns (MarkedInner Inner) (Marked Chan)
  own = owns_in_sight owns

  abbrev kept : Marked Chan → Chan → Marked Chan
  kept chan value = record { value = value; saved = chan.saved }

  -- the asks of a channel leave its mark
  serves_all : (chan : Marked Chan) (asks : List Ask) → served_all sight chan asks ≡ (kept chan (served_all rules chan.value asks).0, (served_all rules chan.value asks).1)
  serves_all chan [] = refl
  serves_all chan (x ∷ asks) =
      let now = rules.serve chan.value x in
      ap {B = Marked Chan × List Post} (λ (r : Marked Chan × List Post). (r.0, now.1 ++ r.1)) (serves_all (kept chan now.0) asks)

  -- and so does all that a core does by itself
  alone_beside : (a k : ℕ) (core : CoreValue (MarkedInner Inner)) (taken : ℕ → List Post)
      → alone_by sight a k core taken ≡ (beside core (alone_by rules a k (bare core) taken).0, (alone_by rules a k (bare core) taken).1)
  alone_beside a zero core taken = refl
  alone_beside a (suc k) core taken =
      let now = tick_of rules a (with_puts (bare core) (taken a)) in
      ap {B = CoreValue (MarkedInner Inner) × List Ask} (λ (r : CoreValue (MarkedInner Inner) × List Ask). (r.0, now.1 ++ r.1)) (alone_beside (a + 1) k (beside core now.0) taken)

  post_to : (place : ℕ) (p : Post) → IsPostTo sight place p → IsPostTo rules place p
  post_to place p is = record { proper = is.proper; to = is.to }

  core_of : (place : ℕ) (core : CoreValue (MarkedInner Inner)) → IsCoreOf sight own place core → IsCoreOf rules owns place (bare core)
  core_of place core is = record { own = is.own; number = is.number; inbox = λ i d l. post_to place _ (is.inbox i d l) }

  chan_of : (place : ℕ) (chan : Marked Chan) → IsChanOf sight own place chan → IsChanOf rules owns place chan.value
  chan_of place chan is = record { own = is.own; number = is.number }

  ticks_in_sight : (t place : ℕ) (core : CoreValue (MarkedInner Inner)) → t ≤ TOP → IsCoreOf sight own place core → IsTick sight own t place core
  ticks_in_sight t place core early is =
      let tick = laws.ticks t place (bare core) early (core_of place core is) in
      record { own = tick.own; number = tick.number; proper = tick.proper; ids = tick.ids }

  serves_in_sight : (chan : Marked Chan) (ask : Ask) → IsProperAsk sight ask → IsChanOf sight own (rules.channel_of ask) chan → IsServing sight own (rules.channel_of ask) chan ask
  serves_in_sight chan ask proper is =
      let serving = laws.serves chan.value ask proper (chan_of _ chan is) in
      record {
        own = serving.own;
        number = serving.number;
        posts = λ i d l. let post = serving.posts i d l in record { proper = post.proper; id = post.id; due = post.due };
        once = serving.once;
      }

  since_closed : (place : ℕ) (chan : Marked Chan) (asks : List Ask) → AreSinceClosed sight own place chan asks → AreSinceClosed rules owns place chan.value asks
  since_closed place chan asks is = record {
    own = chan_of place chan is.own;
    closed = ap (λ (c : Marked Chan). c.value) is.closed;
    proper = is.proper;
    here = is.here;
  }

  commutes_in_sight : (chan : Marked Chan) (asks : List Ask) (x : Ask) → IsFreeAfter sight own chan asks x → IsCommuting sight chan asks x
  commutes_in_sight chan asks x is =
      let last = serves_all chan (asks ++ x ∷ []) in
      let placed = serves_all chan (inserted x asks) in
      let commuting = laws.commutes chan.value asks x (record {
        since = since_closed _ chan asks is.since;
        rising = is.rising;
        proper = is.proper;
        other = is.other;
        free = sym (ap (λ (r : Marked Chan × List Post). rules.clash r.0.value x) (serves_all chan asks)) ∙ is.free;
        lines = is.lines;
      }) in
      record {
        value = ap (λ (r : Marked Chan × List Post). r.0) last ∙ ap (kept chan) commuting.value ∙ sym (ap (λ (r : Marked Chan × List Post). r.0) placed);
        posts = subst (λ ps. Perm Post (served_all sight chan (asks ++ x ∷ [])).1 ps) (sym (ap (λ (r : Marked Chan × List Post). r.1) placed))
            (subst (λ ps. Perm Post ps (served_all rules chan.value (inserted x asks)).1) (sym (ap (λ (r : Marked Chan × List Post). r.1) last)) commuting.posts);
      }

  reopens_in_sight : (chan : Marked Chan) (asks : List Ask) (x : Ask) → IsNext sight own chan asks x → IsClosing sight (served_all sight chan asks).0 x
  reopens_in_sight chan asks x is =
      let closing = laws.reopens chan.value asks x (record { since = since_closed _ chan asks is.since; proper = is.proper; above = is.above }) in
      subst (λ (r : Marked Chan × List Post). IsClosing sight r.0 x) (sym (serves_all chan asks))
      (record { free = closing.free; posts = closing.posts; value = ap (kept chan) closing.value })

  unseen_in_sight : (place due k : ℕ) (core : CoreValue (MarkedInner Inner)) (taken : ℕ → List Post) (p : Post)
      → IsLatePut sight own place due k core taken p → IsUnseen sight due k core taken p
  unseen_in_sight place due k core taken p is =
      let unseen = laws.unseen place due k (bare core) taken p (record {
        is = core_of place core is.is;
        top = is.top;
        some = is.some;
        proper = λ j l. each_weaker (post_to place) (taken (due + j)) (is.proper j l);
        own = post_to place p is.own;
        kind = is.kind;
        at = is.at;
        fresh = is.fresh;
        posts = is.posts;
        untouched = subst (λ (r : CoreValue (MarkedInner Inner) × List Ask). rules.touched r.0.inner.inner p ≤ due) (alone_beside due k core taken) is.untouched;
      }) in
      let after = λ (j : ℕ). alone_beside due j (with_puts core (p ∷ [])) taken in
      let before = λ (j : ℕ). alone_beside due j core taken in
      let tick = λ (c : CoreValue (MarkedInner Inner)). tick_of sight (due + k) c in
      record {
        asks = ap (λ (r : CoreValue (MarkedInner Inner) × List Ask). r.1) (after k) ∙ unseen.asks ∙ sym (ap (λ (r : CoreValue (MarkedInner Inner) × List Ask). r.1) (before k));
        touches = λ j q l. ap (λ (r : CoreValue (MarkedInner Inner) × List Ask). rules.touched r.0.inner.inner q) (after j) ∙ unseen.touches j q l
            ∙ sym (ap (λ (r : CoreValue (MarkedInner Inner) × List Ask). rules.touched r.0.inner.inner q) (before j));
        tick = ap (λ (r : CoreValue (MarkedInner Inner) × List Ask). tick r.0) (after k)
            ∙ ap (λ (r : CoreValue Inner × List Ask). (beside core r.0, r.1)) unseen.tick
            ∙ sym (ap (λ (r : CoreValue (MarkedInner Inner) × List Ask). tick (with_puts r.0 (p ∷ []))) (before k));
      }

  pub laws_in_sight : Laws sight own
  laws_in_sight = record {
    some_cores = laws.some_cores;
    some_channels = laws.some_channels;
    soon = laws.soon;
    asks = λ ask is. let within = laws.asks ask is in record { core = within.core; channel = within.channel; cycle = within.cycle };
    posts = laws.posts;
    ticks = ticks_in_sight;
    serves = serves_in_sight;
    closes = λ place chan is. let closed = laws.closes place chan.value (chan_of place chan is) in record { own = closed.own; number = closed.number };
    closes_once = λ place chan is. ap (kept chan) (laws.closes_once place chan.value (chan_of place chan is));
    commutes = commutes_in_sight;
    reopens = reopens_in_sight;
    unseen = unseen_in_sight;
  }
