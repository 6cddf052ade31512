-- Asks served one after another.
use Rattle.std.proofs.Common.{◌≡◌, ◌∙◌, ℕ, ◌+◌, List, [], ◌∷◌, length, refl, subst, arith}
use Rattle.std.specs.List.{AllByRecursion as Each}
use Rattle.std.proofs.lemmas.List.Elements.{recursion_from_All}
use Rattle.slack_base.specs.declared.messages.Ask.{Ask}
use Rattle.slack_base.specs.declared.messages.Post.{Post}
use Rattle.target_law.specs.Cycles.{changed_at, seen_at, through}
use Rattle.target_law.specs.Laws.{Laws, IsPostOf, IsServing}
use Rattle.target_law.specs.Numbered.{AllNumbered}
use Rattle.target_law.specs.Proper.{IsProperAsk, IsChanOf}
use Rattle.target_law.specs.Rules.{Rules, Owns}
use Rattle.target_law.proofs.Lists.{each_weaker, each_append}
use Rattle.target_law.proofs.Places.{length-changed, numbered_changed, numbered_seen}

module _ {Inner Chan : Type 0} (rules : Rules Inner Chan) where
  -- the channels once the ask is served
  abbrev pub after_ask : Ask → List Chan → List Chan
  after_ask x chans = changed_at (rules.channel_of x) (λ chan. (rules.serve chan x).0) chans

  abbrev pub posts_at : Ask → List Chan → List Post
  posts_at x chans = seen_at (rules.channel_of x) (λ chan. (rules.serve chan x).1) [] chans

  pub length-through : (chans : List Chan) (asks : List Ask) → length (through rules chans asks).chans ≡ length chans
  length-through chans [] = refl
  length-through chans (x ∷ asks) = length-through (after_ask x chans) asks ∙ length-changed (λ chan. (rules.serve chan x).0) (rules.channel_of x) chans

  module _ (owns : Owns Inner Chan) (laws : Laws rules owns) where
    pub serving_at : (x : Ask) → IsProperAsk rules x → (j : ℕ) (chan : Chan) → j ≡ 0 + rules.channel_of x → IsChanOf rules owns j chan → IsServing rules owns (rules.channel_of x) chan x
    serving_at x proper j chan e is = laws.serves chan x proper (subst (λ k. IsChanOf rules owns k chan) (let same : j ≡ rules.channel_of x = omega arith in same) is)

    pub served_are : (x : Ask) → IsProperAsk rules x → (chans : List Chan) → AllNumbered (IsChanOf rules owns) 0 chans → AllNumbered (IsChanOf rules owns) 0 (after_ask x chans)
    served_are x proper chans are =
        numbered_changed (λ chan. (rules.serve chan x).0) (IsChanOf rules owns) 0 (rules.channel_of x) chans
        (λ j chan e is. let s = serving_at x proper j chan e is in record { own = s.own; number = s.number ∙ (let same : rules.channel_of x ≡ j = omega arith in same) }) are

    pub through_are : (chans : List Chan) (asks : List Ask) → AllNumbered (IsChanOf rules owns) 0 chans → Each (IsProperAsk rules) asks → AllNumbered (IsChanOf rules owns) 0 (through rules chans asks).chans
    through_are chans [] are proper = are
    through_are chans (x ∷ asks) are proper = through_are (after_ask x chans) asks (served_are x proper.0 chans are) proper.1

    pub served_posts : (x : Ask) → IsProperAsk rules x → (chans : List Chan) → AllNumbered (IsChanOf rules owns) 0 chans → Each (IsPostOf rules x) (posts_at x chans)
    served_posts x proper chans are =
        numbered_seen (λ chan. (rules.serve chan x).1) [] (Each (IsPostOf rules x)) (IsChanOf rules owns) 0 (rules.channel_of x) chans tt
        (λ j chan e is. recursion_from_All (IsPostOf rules x) (rules.serve chan x).1 (serving_at x proper j chan e is).posts) are

    -- what is so of each post of the asks
    pub through_posts : (H : Ask → Type 0) (R : Post → Type 0) → ((x : Ask) (p : Post) → H x → IsPostOf rules x p → R p)
        → (chans : List Chan) (asks : List Ask) → AllNumbered (IsChanOf rules owns) 0 chans → Each (IsProperAsk rules) asks → Each H asks → Each R (through rules chans asks).posts
    through_posts H R f chans [] are proper h = tt
    through_posts H R f chans (x ∷ asks) are proper h =
        each_append R (posts_at x chans) (through rules (after_ask x chans) asks).posts
        (each_weaker (λ p of. f x p h.0 of) (posts_at x chans) (served_posts x proper.0 chans are))
        (through_posts H R f (after_ask x chans) asks (served_are x proper.0 chans are) proper.1 h.1)
