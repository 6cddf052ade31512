-- Asks served one after another do what each channel does with its own asks.
use Rattle.std.proofs.Common.{◌≡◌, ◌≢◌, ◌∙◌, ℕ, ◌+◌, ◌==◌, suc, List, [], ◌∷◌, ◌++◌, refl, sym, ap, subst, arith, append_assoc}
use Rattle.std.specs.List.{filter, AllPairs, AllByRecursion as Each}
use Rattle.std.proofs.lemmas.List.Elements.{recursion_from_All}
use Rattle.slack_base.specs.declared.messages.Ask.{Ask}
use Rattle.slack_base.specs.declared.messages.Post.{Post}
use Rattle.slack_base.specs.Messages.{id_of}
use Rattle.target_law.specs.Cycles.{through}
use Rattle.target_law.specs.Laws.{Laws}
use Rattle.target_law.specs.Numbered.{AllNumbered}
use Rattle.target_law.specs.Proper.{IsProperAsk, IsChanOf}
use Rattle.target_law.specs.Rules.{Rules, Owns}
use Rattle.target_law.specs.Served.{served_all, Pairwise, Perm, none, join}
use Rattle.target_law.proofs.Lists.{pairwise_append, each_weaker, numbered_weaker, filter-yes, filter-no}
use Rattle.target_law.proofs.Numbers.{eq_is, eq_is_not}
use Rattle.target_law.proofs.Places.{numbered_seen}
use Rattle.target_law.proofs.Serving.{after_ask, posts_at, serving_at, served_are, served_posts, through_posts}
use Rattle.violation_watch.proofs.Lists.{pairwise_weaker, map_from, flat_map_from, map_from_agree, map_from-id}
use Rattle.violation_watch.proofs.Perms.{perm_behind, perm_before, perm_back}
use Rattle.violation_watch.proofs.Places.{map_from-changed, flat_map_from_changed}

-- two posts to one core are of different asks
abbrev pub IsApart : Post → Post → Type 0
IsApart p q = p.to ≡ q.to → p.id ≢ q.id

abbrev pub AreDistinct : List Ask → Type 0
AreDistinct asks = Pairwise (λ x y. id_of x ≢ id_of y) asks

-- by recursion, and by places
pairwise_from_all : {X : Type 0} (R : X → X → Type 0) (xs : List X) → AllPairs R xs → Pairwise R xs
pairwise_from_all R [] h = tt
pairwise_from_all R (x ∷ xs) h =
    (recursion_from_All (R x) xs (λ k d l. h 0 (suc k) d (omega arith) (omega arith)), pairwise_from_all R xs (λ i j d l m. h (suc i) (suc j) d (omega arith) (omega arith)))

pub flat_map_from_perm : {X Y : Type 0} (F G : ℕ → X → List Y) (n : ℕ) (xs : List X) → AllNumbered (λ c x. Perm Y (F c x) (G c x)) n xs → Perm Y (flat_map_from F n xs) (flat_map_from G n xs)
flat_map_from_perm F G n [] h = none
flat_map_from_perm F G n (x ∷ xs) h = join (perm_before (flat_map_from F (n + 1) xs) h.0) (perm_behind (G n x) (flat_map_from_perm F G (n + 1) xs h.1))

module _ {Inner Chan : Type 0} (rules : Rules Inner Chan) where
  -- the asks of this channel
  abbrev pub asks_on : ℕ → List Ask → List Ask
  asks_on channel asks = filter (λ ask. rules.channel_of ask == channel) asks

module _ {Inner Chan : Type 0} (rules : Rules Inner Chan) where
  unfoldable pub chan_of : List Ask → ℕ → Chan → Chan
  chan_of asks j chan = (served_all rules chan (asks_on rules j asks)).0

  unfoldable pub posts_of : List Ask → ℕ → Chan → List Post
  posts_of asks j chan = (served_all rules chan (asks_on rules j asks)).1

  own_ask : (j : ℕ) (x : Ask) (asks : List Ask) → j ≡ 0 + rules.channel_of x → asks_on rules j (x ∷ asks) ≡ x ∷ asks_on rules j asks
  own_ask j x asks e = filter-yes (λ ask. rules.channel_of ask == j) x asks (eq_is (rules.channel_of x) j (omega arith))

  other_ask : (j : ℕ) (x : Ask) (asks : List Ask) → j ≢ 0 + rules.channel_of x → asks_on rules j (x ∷ asks) ≡ asks_on rules j asks
  other_ask j x asks e = filter-no (λ ask. rules.channel_of ask == j) x asks (eq_is_not (rules.channel_of x) j (λ same. e (omega arith)))

  pub through-chans : (chans : List Chan) (asks : List Ask) → (through rules chans asks).chans ≡ map_from (chan_of asks) 0 chans
  unfolding chan_of
  through-chans chans [] = sym (map_from-id 0 chans)
  through-chans chans (x ∷ asks) =
      through-chans (after_ask rules x chans) asks
      ∙ map_from-changed (λ chan. (rules.serve chan x).0) (chan_of asks) (chan_of (x ∷ asks)) 0 (rules.channel_of x) chans
      (λ j chan e. ap (λ own. (served_all rules chan own).0) (sym (own_ask j x asks e)))
      (λ j chan e. ap (λ own. (served_all rules chan own).0) (sym (other_ask j x asks e)))

  no_posts : (n : ℕ) (chans : List Chan) → [] ≡ flat_map_from (posts_of []) n chans
  unfolding posts_of
  no_posts n [] = refl
  no_posts n (chan ∷ chans) = no_posts (n + 1) chans

  pub through_posts_perm : (chans : List Chan) (asks : List Ask) → Perm Post (through rules chans asks).posts (flat_map_from (posts_of asks) 0 chans)
  unfolding posts_of
  through_posts_perm chans [] = subst (Perm Post []) (no_posts 0 chans) none
  through_posts_perm chans (x ∷ asks) =
      join (perm_behind (posts_at rules x chans)
      (through_posts_perm (after_ask rules x chans) asks))
      (flat_map_from_changed (λ chan. (rules.serve chan x).0) (λ chan. (rules.serve chan x).1) (posts_of asks) (posts_of (x ∷ asks)) 0 (rules.channel_of x) chans
      (λ j chan e. ap (λ own. (served_all rules chan own).1) (sym (own_ask j x asks e)))
      (λ j chan e. ap (λ own. (served_all rules chan own).1) (sym (other_ask j x asks e))))

  -- the asks of a channel in two orders, with the same effect
  pub record HasSameEffect (asks others : List Ask) (j : ℕ) (chan : Chan) : Type 0 where
    pub value : (served_all rules chan (asks_on rules j asks)).0 ≡ (served_all rules chan (asks_on rules j others)).0
    pub posts : Perm Post (served_all rules chan (asks_on rules j asks)).1 (served_all rules chan (asks_on rules j others)).1

  -- where that is so of every channel, all asks have the same effect
  pub same_chans : (chans : List Chan) (asks others : List Ask) → AllNumbered (HasSameEffect asks others) 0 chans → (through rules chans asks).chans ≡ (through rules chans others).chans
  unfolding chan_of
  same_chans chans asks others same =
      through-chans chans asks
      ∙ map_from_agree (chan_of asks) (chan_of others) 0 chans (numbered_weaker (λ j chan e. e.value) 0 chans same)
      ∙ sym (through-chans chans others)

  pub same_posts : (chans : List Chan) (asks others : List Ask) → AllNumbered (HasSameEffect asks others) 0 chans → Perm Post (through rules chans asks).posts (through rules chans others).posts
  unfolding posts_of
  same_posts chans asks others same =
      join (through_posts_perm chans asks)
      (join (flat_map_from_perm (posts_of asks) (posts_of others) 0 chans (numbered_weaker (λ j chan e. e.posts) 0 chans same))
      (perm_back (through_posts_perm chans others)))

  pub through_chans-append : (chans : List Chan) (asks others : List Ask) → (through rules chans (asks ++ others)).chans ≡ (through rules (through rules chans asks).chans others).chans
  through_chans-append chans [] others = refl
  through_chans-append chans (x ∷ asks) others = through_chans-append (after_ask rules x chans) asks others

  pub through_posts-append : (chans : List Chan) (asks others : List Ask)
      → (through rules chans (asks ++ others)).posts ≡ (through rules chans asks).posts ++ (through rules (through rules chans asks).chans others).posts
  through_posts-append chans [] others = refl
  through_posts-append chans (x ∷ asks) others =
      let first = through rules (after_ask rules x chans) asks in
      ap (λ posts. posts_at rules x chans ++ posts) (through_posts-append (after_ask rules x chans) asks others)
      ∙ sym (append_assoc (posts_at rules x chans) first.posts (through rules first.chans others).posts)

  module _ (owns : Owns Inner Chan) (laws : Laws rules owns) where
    served_once : (x : Ask) → IsProperAsk rules x → (chans : List Chan) → AllNumbered (IsChanOf rules owns) 0 chans
        → Pairwise (λ p q. p.to ≢ q.to) (posts_at rules x chans)
    served_once x proper chans are =
        numbered_seen (λ chan. (rules.serve chan x).1) [] (Pairwise (λ p q. p.to ≢ q.to)) (IsChanOf rules owns) 0 (rules.channel_of x) chans tt
        (λ j chan e is. pairwise_from_all (λ p q. p.to ≢ q.to) (rules.serve chan x).1 (serving_at rules owns laws x proper j chan e is).once) are

    pub through_apart : (chans : List Chan) (asks : List Ask) → AllNumbered (IsChanOf rules owns) 0 chans → Each (IsProperAsk rules) asks → AreDistinct asks → Pairwise IsApart (through rules chans asks).posts
    through_apart chans [] are proper h = tt
    through_apart chans (x ∷ asks) are proper h =
        let now = after_ask rules x chans in
        let next = served_are rules owns laws x proper.0 chans are in
        let differ : Each (λ q. q.id ≢ id_of x) (through rules now asks).posts =
        through_posts rules owns laws (λ y. id_of x ≢ id_of y) (λ q. q.id ≢ id_of x) (λ y q d of e. d (sym e ∙ of.id)) now asks next proper.1 h.0 in
        pairwise_append IsApart (posts_at rules x chans) (through rules now asks).posts
        (pairwise_weaker (λ p q differ same. absurd (differ same)) (posts_at rules x chans) (served_once x proper.0 chans are))
        (through_apart now asks next proper.1 h.1)
        (each_weaker (λ p of. each_weaker (λ q d to e. d (sym e ∙ of.id)) (through rules now asks).posts differ) (posts_at rules x chans) (served_posts rules owns laws x proper.0 chans are))
