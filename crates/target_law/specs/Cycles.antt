-- One cycle of a machine, and lockstep: one cycle after another.
use Rattle.std.specs.Prelude.{◌≡◌, ℕ, ◌+◌, ◌-◌, Bool, List, [], ◌∷◌, ◌++◌, map, zero, suc, Option, None}
use Rattle.std.specs.List.{flat_map, list_all}
use Rattle.slack_base.specs.declared.messages.Ask.{Ask}
use Rattle.slack_base.specs.declared.messages.Post.{Post}
use Rattle.slack_base.specs.declared.stamps.Id.{Id}
use Rattle.slack_base.specs.Inboxes.{CoreValue, with_put, tick_by, ticks_by}
use Rattle.target_law.specs.Rules.{Rules}

pub record StateValue (Inner Chan : Type 0) : Type 0 where
  -- the cycle that comes next
  pub clock : ℕ
  pub cores : List (CoreValue Inner)
  pub chans : List Chan

-- channels after some asks, the posts that these sent in their order, and the clash of each ask just before it was served
pub record Through (Chan : Type 0) : Type 0 where
  pub chans : List Chan
  pub posts : List Post
  pub clashes : List (Option Id)

-- the item at a place changed; nothing past the end
abbrev pub changed_at : {X : Type 0} → ℕ → (X → X) → List X → List X
changed_at n f [] = []
changed_at zero f (x ∷ xs) = f x ∷ xs
changed_at (suc n) f (x ∷ xs) = x ∷ changed_at n f xs

-- what the item at a place gives, and what is given past the end
abbrev pub seen_at : {X Y : Type 0} → ℕ → (X → Y) → Y → List X → Y
seen_at n f past [] = past
seen_at zero f past (x ∷ xs) = f x
seen_at (suc n) f past (x ∷ xs) = seen_at n f past xs

-- posts go, one after another, into the inbox of the core that each is addressed to
abbrev pub delivered : {Inner : Type 0} → List (CoreValue Inner) → List Post → List (CoreValue Inner)
delivered cores [] = cores
delivered cores (p ∷ posts) = delivered (changed_at p.to (with_put p) cores) posts

module _ {Inner Chan : Type 0} (rules : Rules Inner Chan) where
  -- a tick at clock t: the core after it, and the asks that it sends. It takes the due posts out of the inbox
  abbrev pub tick_of : ℕ → CoreValue Inner → CoreValue Inner × List Ask
  tick_of t core = tick_by rules.tick t core

  -- k ticks from clock t on, one after another, with no new post
  abbrev pub ticks_of : (t k : ℕ) → CoreValue Inner → CoreValue Inner × List Ask
  ticks_of t k core = ticks_by rules.tick t k core

  abbrev pub ticked : ℕ → List (CoreValue Inner) → List (CoreValue Inner)
  ticked t cores = map (λ core. (tick_of t core).0) cores

  -- the asks of all ticks at clock t: in core order, and of a core in the order in which it sends them. This is the
  -- order of their ids
  abbrev pub asks_of : ℕ → List (CoreValue Inner) → List Ask
  asks_of t cores = flat_map (λ core. (tick_of t core).1) cores

  -- asks are served one after another, each on its channel
  abbrev pub through : List Chan → List Ask → Through Chan
  through chans [] = record { chans = chans; posts = []; clashes = [] }
  through chans (ask ∷ asks) =
      let place = rules.channel_of ask in
      let rest = through (changed_at place (λ chan. (rules.serve chan ask).0) chans) asks in
      record {
        chans = rest.chans;
        posts = seen_at place (λ chan. (rules.serve chan ask).1) [] chans ++ rest.posts;
        clashes = seen_at place (λ chan. rules.clash chan ask) None chans ∷ rest.clashes;
      }

  -- one cycle: all cores tick, their asks are served, all channels are closed, and the posts are delivered
  unfoldable pub cycle : StateValue Inner Chan → StateValue Inner Chan
  cycle s =
      let out = through s.chans (asks_of s.clock s.cores) in
      record {
        clock = s.clock + 1;
        cores = delivered (ticked s.clock s.cores) out.posts;
        chans = map rules.close out.chans;
      }

  -- k cycles
  unfoldable pub lockstep : StateValue Inner Chan → ℕ → StateValue Inner Chan
  lockstep s zero = s
  lockstep s (suc k) = cycle (lockstep s k)

  -- the state is that to which lockstep leads from s by its clock
  abbrev pub IsLockstepOf : (s e : StateValue Inner Chan) → Type 0
  IsLockstepOf s e = e ≡ lockstep s (e.clock - s.clock)

  -- the asks of k cycles, cycle after cycle
  unfoldable pub asks : StateValue Inner Chan → ℕ → List Ask
  asks s zero = []
  asks s (suc k) = asks s k ++ asks_of (lockstep s k).clock (lockstep s k).cores

  -- all cores have ended
  abbrev pub all_ended : StateValue Inner Chan → Bool
  all_ended s = list_all (λ core. rules.has_ended core.inner) s.cores
