-- Every core and every tick is lawful.
use Rattle.std.proofs.Common.{◌≡◌, ◌∙◌, ℕ, ◌+◌, ◌<◌, Bool, true, false, List, [], ◌∷◌, ◌++◌, Option, None, Some, filter, length, nat_le, nat_lt, refl, subst, arith, cond}
use Rattle.std.specs.List.{All, AllByRecursion}
use Rattle.std.specs.Option.{IfSome}
use Rattle.std.proofs.lemmas.List.{length-replicate}
use Rattle.std.proofs.lemmas.List.Elements.{All-nil, All-head, All-tail, All-filter}
use Rattle.slack_base.specs.declared.messages.Ask.{Ask}
use Rattle.slack_base.specs.declared.messages.Post.{Post}
use Rattle.slack_base.specs.Inboxes.{is_later}
use Rattle.slack_base.proofs.Inboxes.{all_with_post}
use Rattle.slack_base.specs.Numbers.{lines_of}
use Rattle.slack_base.specs.declared.configs.RawConfig.{RawConfig}
use Rattle.stamp_queue.specs.Inbox.{IsInOrder}
use Rattle.stamp_queue.proofs.Places.{in_order-with_post}
use Rattle.timed_core.specs.Cores.{HartValue}
use Rattle.timed_core.specs.Laws.{IsSoundHart, AreAsksFrom, AllTicks, AllPuts, AllStarts}
use Rattle.timed_core.specs.Posts.{applied}
use Rattle.timed_core.specs.Ticks.{stepped, asks_of, id_at, applied_all, tick}
use Rattle.timed_core.proofs.OwnCaches.{empty_holds}
use Rattle.timed_core.proofs.Steps.{IsAskBelow, IsStep}
use Rattle.timed_core.proofs.PostSteps.{applied_step}
use Rattle.timed_core.proofs.InstructionSteps.{stepped_step}

module _ (config : RawConfig) (t : ℕ) where
  -- the asks of one list and then those of another
  asks_on : (core n m : ℕ) (first rest : List Ask) → m ≡ n + length first → AreAsksFrom (lines_of config) t core n first → AreAsksFrom (lines_of config) t core m rest → AreAsksFrom (lines_of config) t core n (first ++ rest)
  asks_on core n m [] rest from h more = subst (λ k. AreAsksFrom (lines_of config) t core k rest) (from ∙ omega arith) more
  asks_on core n m (ask ∷ first) rest from h more = (h.0, h.1, asks_on core (n + 1) m first rest (from ∙ omega arith) h.2 more)

  -- the ask of a step
  one_ask : (core n : ℕ) (ask : Option Ask) → IfSome ask (IsAskBelow (lines_of config) (record { cycle = t; core = core; number = n })) → AreAsksFrom (lines_of config) t core n (asks_of ask)
  one_ask core n None h = tt
  one_ask core n (Some ask) h = (h.0, h.1, tt)

  -- the posts of a tick leave a sound core of the same number, and number their asks on
  record ArePosts (core n : ℕ) (out : HartValue × List Ask) : Type 0 where
    sound : IsSoundHart config out.0
    number : out.0.number ≡ core
    asks : AreAsksFrom (lines_of config) t core n out.1

  posts_sound : (base number n : ℕ) (core : HartValue) (due : List Post) → core.number ≡ number → IsSoundHart config core → All (λ p. p.line < lines_of config) due → ArePosts number n (applied_all base t n core due)
  posts_sound base number n core [] same s low = record { sound = s; number = same; asks = tt }
  posts_sound base number n core (p ∷ due) same s low =
      let one = applied p.kind base p.line (id_at t core n) core in
      let step : IsStep config core.number (id_at t core n) one = applied_step config base (id_at t core n) p.line core s (All-head (λ (q : Post). q.line < lines_of config) p due low) p.kind in
      let m = n + length (asks_of one.1) in
      let rest = posts_sound base number m one.0 due (step.same ∙ same) step.sound (All-tail (λ (q : Post). q.line < lines_of config) p due low) in
      record {
        sound = rest.sound;
        number = rest.number;
        asks = asks_on number n m (asks_of one.1) (applied_all base t m one.0 due).1 refl (one_ask number n one.1 (subst (λ k. IfSome one.1 (IsAskBelow (lines_of config) (record { cycle = t; core = k; number = n }))) same step.ask)) rest.asks;
      }

-- the posts of a list that pass a test
each-filter : (P : Post → Type 0) (test : Post → Bool) (inbox : List Post) → AllByRecursion P inbox → AllByRecursion P (filter test inbox)
each-filter P test [] h = tt
each-filter P test (q ∷ inbox) h = elim (test q) as (λ b. AllByRecursion P (cond b (q ∷ filter test inbox) (filter test inbox))) [
  | true ↦ (h.0, each-filter P test inbox h.1)
  | false ↦ each-filter P test inbox h.1
]

-- they stand in their order
in_order-filter : (test : Post → Bool) (inbox : List Post) → IsInOrder inbox → IsInOrder (filter test inbox)
in_order-filter test [] h = tt
in_order-filter test (p ∷ inbox) h = elim (test p) as (λ b. IsInOrder (cond b (p ∷ filter test inbox) (filter test inbox))) [
  | true ↦ (each-filter (λ q. is_later p q ≡ false) test inbox h.0, in_order-filter test inbox h.1)
  | false ↦ in_order-filter test inbox h.1
]

pub all_ticks : AllTicks
unfolding tick
all_ticks code config t core whole s =
    let due = filter (λ p. nat_le p.due t) core.inbox in
    let number = core.inner.number in
    let low = All-filter (λ p. nat_le p.due t) (λ (p : Post). p.line < lines_of config) core.inbox s.posts in
    let posts = applied_all code.base t 0 core.inner due in
    let first : ArePosts config t number 0 posts = posts_sound config t code.base number 0 core.inner due refl s.hart low in
    let id = id_at t posts.0 (length posts.1) in
    let step : IsStep config posts.0.number id (stepped code id posts.0) = stepped_step config code whole id posts.0 first.sound in
    let ask = (stepped code id posts.0).1 in
    let last = one_ask config t number (length posts.1) ask (subst (λ k. IfSome ask (IsAskBelow (lines_of config) (record { cycle = t; core = k; number = length posts.1 }))) first.number step.ask) in
    record {
      sound = record {
        hart = step.sound;
        posts = All-filter (λ p. nat_lt t p.due) (λ (p : Post). p.line < lines_of config) core.inbox s.posts;
      };
      number = step.same ∙ first.number;
      later = refl;
      in_order = in_order-filter (λ p. nat_lt t p.due) core.inbox;
      asks = asks_on config t number 0 (length posts.1) posts.1 (asks_of ask) (omega arith) first.asks last;
    }

pub all_puts : AllPuts
all_puts config core post s low = record {
  sound = record { hart = s.hart; posts = all_with_post (λ p. p.line < lines_of config) core.inbox post s.posts low };
  in_order = in_order-with_post core.inbox post;
}

pub all_starts : AllStarts
all_starts config entry number low = record {
  hart = record { number = low; zero = refl; cache = empty_holds config; touches = length-replicate config.sets 0 };
  posts = All-nil _;
}
