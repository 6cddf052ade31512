-- What every target keeps to.
use Rattle.std.specs.Prelude.{ℕ, ◌+◌, ◌≡◌, ◌≢◌, ◌<◌, ◌≤◌, All, IsTrue, IsFalse, List, [], ◌∷◌, ◌++◌, None}
use Rattle.std.specs.List.{AllPairs, AllByRecursion as Each}
use Rattle.slack_base.specs.declared.bounds.TheConstants.{TOP}
use Rattle.slack_base.specs.declared.messages.Ask.{Ask}
use Rattle.slack_base.specs.declared.messages.Post.{Post}
use Rattle.slack_base.specs.Inboxes.{CoreValue}
use Rattle.slack_base.specs.Messages.{id_of}
use Rattle.target_law.specs.Cycles.{tick_of}
use Rattle.target_law.specs.Numbered.{AllNumbered}
use Rattle.target_law.specs.Proper.{IsProperAsk, IsProperPost, IsPostTo, IsCoreOf, IsChanOf}
use Rattle.target_law.specs.Rules.{Rules, Owns}
use Rattle.target_law.specs.Schedules.{with_puts, is_invalidate, alone_by}
use Rattle.target_law.specs.Served.{AreRising, IsAbove, IsLineInTurn, Perm, inserted, served_all}

-- the asks have the ids (t, core, n), (t, core, n + 1) and so on
abbrev pub AreIds : (t core n : ℕ) → List Ask → Type 0
AreIds t core n asks = AllNumbered (λ i ask. id_of ask ≡ record { cycle = t; core = core; number = i }) n asks

module _ {Inner Chan : Type 0} (rules : Rules Inner Chan) where
  -- the ask of one of the cores, for one of the channels, at a clock that is reached
  pub record IsAskWithin (ask : Ask) : Type 0 where
    pub core : (id_of ask).core < rules.cores
    pub channel : rules.channel_of ask < rules.channels
    pub cycle : (id_of ask).cycle ≤ TOP

  -- a post that an ask causes
  pub record IsPostOf (ask : Ask) (p : Post) : Type 0 where
    pub proper : IsProperPost rules p
    pub id : p.id ≡ id_of ask
    pub due : (id_of ask).cycle + rules.lookahead ≤ p.due

  module _ (owns : Owns Inner Chan) where
    -- what a tick at clock t leaves of the core of this number, and the asks that it sends
    pub record IsTick (t place : ℕ) (core : CoreValue Inner) : Type 0 where
      pub own : owns.core (tick_of rules t core).0.inner
      pub number : rules.core_number (tick_of rules t core).0.inner ≡ place
      pub proper : All (IsProperAsk rules) (tick_of rules t core).1
      pub ids : AreIds t place 0 (tick_of rules t core).1

    -- what the serving of an ask leaves of the channel of this number, and the posts that it sends
    pub record IsServing (place : ℕ) (chan : Chan) (ask : Ask) : Type 0 where
      pub own : owns.chan (rules.serve chan ask).0
      pub number : rules.chan_number (rules.serve chan ask).0 ≡ place
      pub posts : All (IsPostOf ask) (rules.serve chan ask).1
      -- at most one to each core
      pub once : AllPairs (λ p q. p.to ≢ q.to) (rules.serve chan ask).1

    -- a closed channel, and asks of it that were served since then, in any order
    pub record AreSinceClosed (place : ℕ) (chan : Chan) (asks : List Ask) : Type 0 where
      pub own : IsChanOf rules owns place chan
      pub closed : rules.close chan ≡ chan
      pub proper : Each (IsProperAsk rules) asks
      pub here : Each (λ ask. rules.channel_of ask ≡ place) asks

    -- another ask of the channel that comes out of order after these, which came in the order of their ids, and doesn't clash
    pub record IsFreeAfter (chan : Chan) (asks : List Ask) (x : Ask) : Type 0 where
      pub since : AreSinceClosed (rules.channel_of x) chan asks
      pub rising : AreRising asks
      pub proper : IsProperAsk rules x
      pub other : Each (λ y. id_of y ≢ id_of x) asks
      pub free : rules.clash (served_all rules chan asks).0 x ≡ None
      pub lines : Each (λ y. IsLineInTurn y x) asks

    -- an ask of the channel that is above all of these
    pub record IsNext (chan : Chan) (asks : List Ask) (x : Ask) : Type 0 where
      pub since : AreSinceClosed (rules.channel_of x) chan asks
      pub proper : IsProperAsk rules x
      pub above : Each (λ y. IsAbove x y) asks

    -- an Invalidate that the core of this number takes k cycles after it was due, where all other late posts are
    -- Invalidates too, and the core hasn't touched since what it is about
    pub record IsLatePut (place due k : ℕ) (core : CoreValue Inner) (taken : ℕ → List Post) (p : Post) : Type 0 where
      pub is : IsCoreOf rules owns place core
      pub top : due + k ≤ TOP
      pub some : 1 ≤ k
      pub proper : (j : ℕ) → j ≤ k → Each (IsPostTo rules place) (taken (due + j))
      pub own : IsPostTo rules place p
      pub kind : IsTrue (is_invalidate p.kind)
      pub at : p.due ≡ due
      pub fresh : All (λ q. IsFalse (is_invalidate q.kind) → due ≤ q.due) core.inbox
      pub posts : (j : ℕ) → j ≤ k → Each (λ q. IsFalse (is_invalidate q.kind) → due + j ≤ q.due) (taken (due + j))
      pub untouched : rules.touched (alone_by rules due k core taken).0.inner p ≤ due

  -- the ask, served after these, is as if it had been served in its place
  pub record IsCommuting (chan : Chan) (asks : List Ask) (x : Ask) : Type 0 where
    pub value : (served_all rules chan (asks ++ x ∷ [])).0 ≡ (served_all rules chan (inserted x asks)).0
    pub posts : Perm Post (served_all rules chan (asks ++ x ∷ [])).1 (served_all rules chan (inserted x asks)).1

  -- the ask clashes with nothing, and sees nothing of a closing just before it
  pub record IsClosing (chan : Chan) (x : Ask) : Type 0 where
    pub free : rules.clash chan x ≡ None
    pub posts : (rules.serve (rules.close chan) x).1 ≡ (rules.serve chan x).1
    pub value : rules.close (rules.serve (rules.close chan) x).0 ≡ rules.close (rules.serve chan x).0

  -- the late put is as if the core had taken the post when it was due: the asks are the same up to the put, the touches
  -- at each clock, and the next tick
  pub record IsUnseen (due k : ℕ) (core : CoreValue Inner) (taken : ℕ → List Post) (p : Post) : Type 0 where
    pub asks : (alone_by rules due k (with_puts core (p ∷ [])) taken).1 ≡ (alone_by rules due k core taken).1
    pub touches : (j : ℕ) (q : Post) → j ≤ k
        → rules.touched (alone_by rules due j (with_puts core (p ∷ [])) taken).0.inner q ≡ rules.touched (alone_by rules due j core taken).0.inner q
    pub tick : tick_of rules (due + k) (alone_by rules due k (with_puts core (p ∷ [])) taken).0
        ≡ tick_of rules (due + k) (with_puts (alone_by rules due k core taken).0 (p ∷ []))

  pub record Laws (owns : Owns Inner Chan) : Type 0 where
    pub some_cores : 1 ≤ rules.cores
    pub some_channels : 1 ≤ rules.channels
    pub soon : 1 ≤ rules.lookahead
    pub asks : (ask : Ask) → IsProperAsk rules ask → IsAskWithin ask
    pub posts : (p : Post) → IsProperPost rules p → p.to < rules.cores
    pub ticks : (t place : ℕ) (core : CoreValue Inner) → t ≤ TOP → IsCoreOf rules owns place core → IsTick owns t place core
    pub serves : (chan : Chan) (ask : Ask) → IsProperAsk rules ask → IsChanOf rules owns (rules.channel_of ask) chan
        → IsServing owns (rules.channel_of ask) chan ask
    pub closes : (place : ℕ) (chan : Chan) → IsChanOf rules owns place chan → IsChanOf rules owns place (rules.close chan)
    -- closing twice is closing once
    pub closes_once : (place : ℕ) (chan : Chan) → IsChanOf rules owns place chan → rules.close (rules.close chan) ≡ rules.close chan
    -- an ask out of order that doesn't clash may as well come in order
    pub commutes : (chan : Chan) (asks : List Ask) (x : Ask) → IsFreeAfter owns chan asks x → IsCommuting chan asks x
    -- to an ask above all others it makes no difference whether the channel was closed before it
    pub reopens : (chan : Chan) (asks : List Ask) (x : Ask) → IsNext owns chan asks x → IsClosing (served_all rules chan asks).0 x
    -- an Invalidate of what wasn't touched since may be taken late
    pub unseen : (place due k : ℕ) (core : CoreValue Inner) (taken : ℕ → List Post) (p : Post)
        → IsLatePut owns place due k core taken p → IsUnseen due k core taken p
