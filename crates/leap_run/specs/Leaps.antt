-- Several cycles gone over at once.
use Rattle.std.specs.Prelude.{◌≡◌, ◌≢◌, ℕ, ◌+◌, ◌<◌, ◌≤◌, List, [], map, length, slice_index_or, All}
use Rattle.std.specs.List.{flat_map, AllByRecursion as Each}
use Rattle.std.specs.List.Sorted.{IsPermutation, IsSortedByKey}
use Rattle.slack_base.specs.declared.messages.Ask.{Ask}
use Rattle.slack_base.specs.Inboxes.{CoreValue}
use Rattle.slack_base.specs.Messages.{id_of}
use Rattle.slack_base.specs.Stamps.{id_cmp}
use Rattle.target_law.specs.Cycles.{StateValue, ticks_of, through, delivered}
use Rattle.target_law.specs.Rules.{Rules}
use Rattle.target_law.specs.Served.{AreRising}

-- so it is of each item but the one at a place
abbrev pub AllBut : {X : Type 0} → (place : ℕ) → (X → Type 0) → List X → Type 0
AllBut place P xs = (k : ℕ) (d : _) → k < length xs → k ≢ place → P (slice_index_or xs k d)

module _ {Inner Chan : Type 0} (rules : Rules Inner Chan) where
  -- the cores after k cycles from clock t, through which each of them ticks by itself
  abbrev pub advanced : (t k : ℕ) → List (CoreValue Inner) → List (CoreValue Inner)
  advanced t k cores = map (λ core. (ticks_of rules t k core).0) cores

  -- the asks that they send, core after core
  abbrev pub asks_in : (t k : ℕ) → List (CoreValue Inner) → List Ask
  asks_in t k cores = flat_map (λ core. (ticks_of rules t k core).1) cores

  -- the core surely sends nothing in q cycles from clock t, if no post comes in
  pub record IsQuiet (t q : ℕ) (core : CoreValue Inner) : Type 0 where
    pub silent : (ticks_of rules t q core).1 ≡ []

  -- cores that tick by themselves from a clock on may go to this clock: each is quiet at first, for so long that what it
  -- sends then is answered no sooner than the clock
  pub record MayReach {C : Type 0} (view : C → CoreValue Inner) (from clock : ℕ) (cores : List C) : Type 0 where
    pub quiet : ℕ
    pub silent : All (λ core. IsQuiet from quiet (view core)) cores
    pub soon : clock ≤ from + quiet + rules.lookahead

  -- k cycles gone over at once: each core ticks through them by itself; then these asks are served, each on its channel,
  -- all channels are closed, and the posts delivered
  unfoldable pub leapt : (k : ℕ) → List Ask → StateValue Inner Chan → StateValue Inner Chan
  leapt k asks s =
      let out = through rules s.chans asks in
      record {
        clock = s.clock + k;
        cores = delivered (advanced s.clock k s.cores) out.posts;
        chans = map rules.close out.chans;
      }

  -- the asks of k cycles in the order of their ids, each sent so late that its posts are not due before the cycles are over
  pub record AreOfLeap (k : ℕ) (s : StateValue Inner Chan) (asks : List Ask) : Type 0 where
    pub sent : IsPermutation (asks_in s.clock k s.cores) asks
    pub rising : AreRising asks
    pub soon : Each (λ x. s.clock + k ≤ (id_of x).cycle + rules.lookahead) asks

  -- these asks are served in some order of their ids, all channels are closed, and the posts are delivered
  pub record IsExchanged (sent : List Ask) (cores : List (CoreValue Inner)) (chans : List Chan) (cores_after : List (CoreValue Inner)) (chans_after : List Chan) : Type 0 where
    pub asks : List Ask
    pub same : IsPermutation sent asks
    pub sorted : IsSortedByKey id_of id_cmp asks
    pub cores_are : cores_after ≡ delivered cores (through rules chans asks).posts
    pub chans_are : chans_after ≡ map rules.close (through rules chans asks).chans
