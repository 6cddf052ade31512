-- Posts delivered to the cores: the cores stay the machine's own, and a tick at which no post is due doesn't see them.
use Rattle.std.proofs.Common.{◌≡◌, ◌∙◌, ℕ, ◌<◌, ◌≤◌, ◌==◌, List, map, true, sym, ap, subst, arith, IsTrue}
use Rattle.std.specs.List.{flat_map, AllByRecursion as Each}
use Rattle.slack_base.specs.declared.messages.Ask.{Ask}
use Rattle.slack_base.specs.declared.messages.Post.{Post}
use Rattle.slack_base.specs.Inboxes.{CoreValue}
use Rattle.slack_base.specs.Messages.{id_of}
use Rattle.target_law.specs.Cycles.{tick_of, ticked, asks_of, through, delivered}
use Rattle.target_law.specs.Drifts.{posts_to}
use Rattle.target_law.specs.Laws.{Laws}
use Rattle.target_law.specs.Numbered.{AllNumbered}
use Rattle.target_law.specs.Proper.{IsProperAsk, IsPostTo, IsCoreOf, IsChanOf}
use Rattle.target_law.specs.Rules.{Rules, Owns}
use Rattle.target_law.proofs.Lists.{each_weaker, each_any, each_passes, numbered_weaker, numbered_any}
use Rattle.target_law.proofs.Numbers.{eq_of}
use Rattle.target_law.proofs.Serving.{through_posts}
use Rattle.violation_watch.proofs.Delivery.{given, delivered-given, all_with_posts}
use Rattle.violation_watch.proofs.Early.{tick-with_posts}
use Rattle.violation_watch.proofs.Lists.{each_both, each_filter, numbered_map_from, map_from_agree, map-map_from, map_from-map, flat_map-map_from, flat_map-from, flat_map_from_agree}

module _ {Inner Chan : Type 0} (rules : Rules Inner Chan) where
  -- posts that aren't due at a tick may be delivered before it or after it
  pub ticked-delivered : (t : ℕ) (cores : List (CoreValue Inner)) (posts : List Post) → Each (λ p. t < p.due) posts → ticked rules t (delivered cores posts) ≡ delivered (ticked rules t cores) posts
  ticked-delivered t cores posts late =
      let tick = λ (core : CoreValue Inner). (tick_of rules t core).0 in
      ap (map tick) (delivered-given cores posts)
      ∙ map-map_from tick (given posts) 0 cores
      ∙ map_from_agree (λ c core. tick (given posts c core)) (λ c core. given posts c (tick core)) 0 cores
      (numbered_any 0 (λ c core low. ap (λ r. r.0) (tick-with_posts rules t core (posts_to c posts) (each_filter (λ p. p.to == c) (λ p. t < p.due) posts late))) cores)
      ∙ sym (map_from-map (given posts) tick 0 cores)
      ∙ sym (delivered-given (map tick cores) posts)

  pub asks_of-delivered : (t : ℕ) (cores : List (CoreValue Inner)) (posts : List Post) → Each (λ p. t < p.due) posts → asks_of rules t (delivered cores posts) ≡ asks_of rules t cores
  asks_of-delivered t cores posts late =
      let sent = λ (core : CoreValue Inner). (tick_of rules t core).1 in
      ap (flat_map sent) (delivered-given cores posts)
      ∙ flat_map-map_from sent (given posts) 0 cores
      ∙ flat_map_from_agree (λ c core. sent (given posts c core)) (λ c core. sent core) 0 cores
      (numbered_any 0 (λ c core low. ap (λ r. r.1) (tick-with_posts rules t core (posts_to c posts) (each_filter (λ p. p.to == c) (λ p. t < p.due) posts late))) cores)
      ∙ sym (flat_map-from sent 0 cores)

  module _ (owns : Owns Inner Chan) (laws : Laws rules owns) where
    pub delivered_are : (cores : List (CoreValue Inner)) (posts : List Post) → Each (λ p. IsTrue (rules.is_proper_post p)) posts → AllNumbered (IsCoreOf rules owns) 0 cores → AllNumbered (IsCoreOf rules owns) 0 (delivered cores posts)
    delivered_are cores posts proper are =
        subst (AllNumbered (IsCoreOf rules owns) 0) (sym (delivered-given cores posts))
        (numbered_map_from (IsCoreOf rules owns) (given posts) 0 cores
        (numbered_weaker (λ c core is. record {
          own = is.own;
          number = is.number;
          inbox = all_with_posts (IsPostTo rules c) core.inbox (posts_to c posts) is.inbox
              (each_weaker (λ p both. record { proper = both.0; to = eq_of p.to c both.1 }) (posts_to c posts)
              (each_both (λ p. IsTrue (rules.is_proper_post p)) (λ p. (p.to == c) ≡ true) (posts_to c posts)
              (each_filter (λ p. p.to == c) (λ p. IsTrue (rules.is_proper_post p)) posts proper)
              (each_passes (λ p. p.to == c) posts)));
        }) 0 cores are))

    -- the posts of asks are proper, and due later
    pub posts_proper : (chans : List Chan) (asks : List Ask) → AllNumbered (IsChanOf rules owns) 0 chans → Each (IsProperAsk rules) asks → Each (λ p. IsTrue (rules.is_proper_post p)) (through rules chans asks).posts
    posts_proper chans asks are proper = through_posts rules owns laws (λ x. Unit {0}) (λ p. IsTrue (rules.is_proper_post p)) (λ x p h of. of.proper) chans asks are proper (each_any (λ x. tt) asks)

    pub posts_later : (t : ℕ) (chans : List Chan) (asks : List Ask) → AllNumbered (IsChanOf rules owns) 0 chans → Each (IsProperAsk rules) asks → Each (λ x. t ≤ (id_of x).cycle) asks → Each (λ p. t < p.due) (through rules chans asks).posts
    posts_later t chans asks are proper from =
        through_posts rules owns laws (λ x. t ≤ (id_of x).cycle) (λ p. t < p.due)
        (λ x p h of. let due = of.due in let soon = laws.soon in omega arith) chans asks are proper from
