-- What each cycle keeps: the state stays a state of the machine, and no post that waits is late.
use Rattle.std.proofs.Common.{◌≡◌, ◌∙◌, ℕ, ◌+◌, ◌<◌, ◌≤◌, List, [], ◌∷◌, map, filter, nat_lt, true, sym, arith}
use Rattle.std.specs.List.{All, AllByRecursion as Each}
use Rattle.std.proofs.lemmas.Bool.Decides.{nat_tests}
use Rattle.std.proofs.lemmas.List.{length-map}
use Rattle.std.proofs.lemmas.List.Elements.{All-from_recursion, recursion_from_All}
use Rattle.slack_base.specs.declared.bounds.TheConstants.{TOP}
use Rattle.slack_base.specs.declared.messages.Ask.{Ask}
use Rattle.slack_base.specs.declared.messages.Post.{Post}
use Rattle.slack_base.specs.Inboxes.{CoreValue}
use Rattle.slack_base.specs.Messages.{id_of}
use Rattle.target_law.specs.Cycles.{StateValue, tick_of, ticked, asks_of, through, delivered, cycle}
use Rattle.target_law.specs.Laws.{Laws}
use Rattle.target_law.specs.Lockstep.{AllCycles}
use Rattle.target_law.specs.Numbered.{AllNumbered}
use Rattle.target_law.specs.Proper.{IsProperAsk, IsProperPost, IsPostTo, IsCoreOf, IsChanOf, IsProper, IsPunctual}
use Rattle.target_law.specs.Rules.{Rules, Owns}
use Rattle.target_law.proofs.Cores.{ticked_core, tick_asks}
use Rattle.slack_base.proofs.Inboxes.{all_with_post}
use Rattle.target_law.proofs.Delivery.{length-delivered, delivered_keeps}
use Rattle.target_law.proofs.Lists.{each_weaker, each_append, each_passes, numbered_weaker, numbered_any, numbered_map, each_of_numbered}
use Rattle.target_law.proofs.Serving.{length-through, through_are, through_posts}

still_later : (t due : ℕ) → nat_lt t due ≡ true → t + 1 ≤ due
still_later t due h = grind (arith, nat_tests)

module _ {Inner Chan : Type 0} (rules : Rules Inner Chan) (owns : Owns Inner Chan) (laws : Laws rules owns) where
  -- the ask of a core from this number on, at clock t
  pub record IsAskOfCycle (t n : ℕ) (x : Ask) : Type 0 where
    pub cycle : (id_of x).cycle ≡ t
    pub core : n ≤ (id_of x).core

  pub cycle_asks : (t n : ℕ) (cores : List (CoreValue Inner)) → t ≤ TOP → AllNumbered (IsCoreOf rules owns) n cores → Each (IsAskOfCycle t n) (asks_of rules t cores)
  cycle_asks t n [] low are = tt
  cycle_asks t n (core ∷ cores) low are =
      each_append (IsAskOfCycle t n) (tick_of rules t core).1 (asks_of rules t cores)
      (each_weaker (λ x at. let e = at.core in record { cycle = at.cycle; core = omega arith }) (tick_of rules t core).1 (tick_asks rules owns laws t n core low are.0))
      (each_weaker (λ x of. let l = of.core in record { cycle = of.cycle; core = omega arith }) (asks_of rules t cores) (cycle_asks t (n + 1) cores low are.1))

  pub asks_proper : (t n : ℕ) (cores : List (CoreValue Inner)) → t ≤ TOP → AllNumbered (IsCoreOf rules owns) n cores → Each (IsProperAsk rules) (asks_of rules t cores)
  asks_proper t n [] low are = tt
  asks_proper t n (core ∷ cores) low are =
      each_append (IsProperAsk rules) (tick_of rules t core).1 (asks_of rules t cores)
      (recursion_from_All (IsProperAsk rules) (tick_of rules t core).1 (laws.ticks t n core low are.0).proper)
      (asks_proper t (n + 1) cores low are.1)

  -- a proper post that is due after clock t
  pub record IsPostAfter (t : ℕ) (p : Post) : Type 0 where
    pub proper : IsProperPost rules p
    pub due : t + 1 ≤ p.due

  module _ (s : StateValue Inner Chan) (is : IsProper rules owns s) where
    abbrev asks_here : List Ask
    asks_here = asks_of rules s.clock s.cores

    abbrev posts_here : List Post
    posts_here = (through rules s.chans asks_here).posts

    abbrev cores_here : List (CoreValue Inner)
    cores_here = ticked rules s.clock s.cores

    pub proper_asks : Each (IsProperAsk rules) (asks_of rules s.clock s.cores)
    proper_asks = asks_proper s.clock 0 s.cores is.clock is.cores

    pub cycle_posts : Each (IsPostAfter s.clock) (through rules s.chans (asks_of rules s.clock s.cores)).posts
    cycle_posts =
        through_posts rules owns laws (IsAskOfCycle s.clock 0) (IsPostAfter s.clock)
        (λ x p at of. let due = of.due in let soon = laws.soon in let cycle = at.cycle in record { proper = of.proper; due = omega arith })
        s.chans asks_here is.chans proper_asks (cycle_asks s.clock 0 s.cores is.clock is.cores)

    pub ticked_are : AllNumbered (IsCoreOf rules owns) 0 (ticked rules s.clock s.cores)
    ticked_are =
        numbered_map (IsCoreOf rules owns) (λ core. (tick_of rules s.clock core).0) 0 s.cores
        (numbered_weaker (λ c core k. ticked_core rules owns laws s.clock c core is.clock k) 0 s.cores is.cores)

    pub served_chans : AllNumbered (IsChanOf rules owns) 0 (through rules s.chans (asks_of rules s.clock s.cores)).chans
    served_chans = through_are rules owns laws s.chans asks_here is.chans proper_asks

    pub cycle_proper : s.clock < TOP → IsProper rules owns (cycle rules s)
    unfolding cycle
    cycle_proper low =
        let out = through rules s.chans asks_here in
        let Closed : Chan → Type 0 = λ chan. rules.close chan ≡ chan in
        record {
          clock = omega arith;
          core_count = length-delivered cores_here posts_here ∙ length-map s.cores _ ∙ is.core_count;
          cores = delivered_keeps (IsCoreOf rules owns) (IsPostAfter s.clock)
              (λ k core p to after c. record {
                own = c.own;
                number = c.number;
                inbox = all_with_post (IsPostTo rules k) core.inbox p c.inbox (record { proper = after.proper; to = sym to });
              }) cores_here posts_here cycle_posts ticked_are;
          chan_count = length-map out.chans rules.close ∙ length-through rules s.chans asks_here ∙ is.chan_count;
          chans = numbered_map (IsChanOf rules owns) rules.close 0 out.chans (numbered_weaker (λ j chan k. laws.closes j chan k) 0 out.chans served_chans);
          closed = All-from_recursion Closed (map rules.close out.chans)
              (each_of_numbered Closed 0 (map rules.close out.chans)
              (numbered_map (λ j chan. Closed chan) rules.close 0 out.chans (numbered_weaker (λ j chan k. laws.closes_once j chan k) 0 out.chans served_chans)));
        }

    pub cycle_punctual : IsPunctual (cycle rules s)
    unfolding cycle
    cycle_punctual =
        let Waits : CoreValue Inner → Type 0 = λ core. All (λ p. s.clock + 1 ≤ p.due) core.inbox in
        All-from_recursion Waits (delivered cores_here posts_here)
        (each_of_numbered Waits 0 (delivered cores_here posts_here)
        (delivered_keeps (λ k core. Waits core) (IsPostAfter s.clock)
        (λ k core p to after waits. all_with_post (λ p. s.clock + 1 ≤ p.due) core.inbox p waits after.due)
        cores_here posts_here cycle_posts
        (numbered_map (λ k core. Waits core) (λ core. (tick_of rules s.clock core).0) 0 s.cores
        (numbered_any 0 (λ k core l.
        let left = filter (λ p. nat_lt s.clock p.due) core.inbox in
        All-from_recursion (λ p. s.clock + 1 ≤ p.due) left
        (each_weaker (λ p e. still_later s.clock p.due e) left (each_passes (λ p. nat_lt s.clock p.due) core.inbox))) s.cores))))

  pub all_cycles : AllCycles rules owns
  all_cycles s is low = record { proper = cycle_proper s is low; punctual = cycle_punctual s is }
