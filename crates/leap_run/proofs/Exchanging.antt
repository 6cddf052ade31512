-- The asks of a leap, put in order, served and answered.
use Rattle.std.proofs.Common.{◌≡◌, ◌∙◌, List, map, length, sym, ap, subst}
use Rattle.std.specs.List.{All, AllByRecursion as Each}
use Rattle.std.specs.List.Sorted.{IsPermutation, IsSortedByKey}
use Rattle.std.proofs.lemmas.List.Elements.{All-from_recursion, recursion_from_All}
use Rattle.std.proofs.lemmas.List.Sorted.{length_permutation, All-permutation}
use Rattle.slack_base.specs.declared.messages.Ask.{Ask}
use Rattle.slack_base.specs.declared.messages.Post.{Post}
use Rattle.slack_base.specs.Inboxes.{CoreValue}
use Rattle.slack_base.specs.Lending.{replaced}
use Rattle.slack_base.specs.Messages.{id_of}
use Rattle.slack_base.specs.Stamps.{id_cmp}
use Rattle.target_law.specs.Cycles.{through, delivered}
use Rattle.target_law.specs.Laws.{Laws}
use Rattle.target_law.specs.Numbered.{AllNumbered}
use Rattle.target_law.specs.Proper.{IsProperAsk, IsProperPost, IsChanOf}
use Rattle.target_law.specs.Rules.{Rules, Owns}
use Rattle.target_law.proofs.Serving.{through_are, through_posts}
use Rattle.target_law.proofs.Stored.{replaced_all}
use Rattle.leap_run.specs.Leaps.{IsExchanged}

-- asks that were sorted in place
pub sorted_in_place : (old lent new read : List Ask) → lent ≡ old → IsPermutation lent new → read ≡ replaced old new → read ≡ new
sorted_in_place old lent new read same is shows = shows ∙ replaced_all old new (length_permutation lent new is ∙ ap length same)

module _ {Inner Chan : Type 0} (rules : Rules Inner Chan) (owns : Owns Inner Chan) (laws : Laws rules owns) (sent asks : List Ask) (same : IsPermutation sent asks)
    (proper : All (IsProperAsk rules) sent) (chans : List Chan) (are : AllNumbered (IsChanOf rules owns) 0 chans) where
  asks_proper : All (IsProperAsk rules) asks
  asks_proper = All-permutation (IsProperAsk rules) sent asks same proper

  own_asks : Each (IsProperAsk rules) asks
  own_asks = recursion_from_All (IsProperAsk rules) asks asks_proper

  pub read_proper : (read : List Ask) → read ≡ asks → All (IsProperAsk rules) read
  read_proper read shows = subst (All (IsProperAsk rules)) (sym shows) asks_proper

  module _ (read : List Ask) (shows : read ≡ asks) (now : List Chan) (now_are : now ≡ (through rules chans read).chans) where
    now_is : now ≡ (through rules chans asks).chans
    now_is = now_are ∙ ap (λ xs. (through rules chans xs).chans) shows

    pub served_are : AllNumbered (IsChanOf rules owns) 0 now
    served_are = subst (AllNumbered (IsChanOf rules owns) 0) (sym now_is) (through_are rules owns laws chans asks are own_asks)

    module _ (posts : List Post) (posts_are : posts ≡ (through rules chans read).posts) where
      posts_is : posts ≡ (through rules chans asks).posts
      posts_is = posts_are ∙ ap (λ xs. (through rules chans xs).posts) shows

      pub posts_proper : All (IsProperPost rules) posts
      posts_proper =
          subst (All (IsProperPost rules)) (sym posts_is)
          (All-from_recursion (IsProperPost rules) (through rules chans asks).posts
          (through_posts rules owns laws (IsProperAsk rules) (IsProperPost rules) (λ x p _ of. of.proper) chans asks are own_asks own_asks))

      pub exchanged : (sorted : IsSortedByKey id_of id_cmp asks) (cores after : List (CoreValue Inner)) (last : List Chan) → after ≡ delivered cores posts → last ≡ map rules.close now
          → IsExchanged rules sent cores chans after last
      exchanged sorted cores after last got shut = record {
        asks = asks;
        same = same;
        sorted = sorted;
        cores_are = got ∙ ap (delivered cores) posts_is;
        chans_are = shut ∙ ap (map rules.close) now_is;
      }
