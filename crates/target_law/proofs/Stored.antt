-- What is stored after the steps of a cycle is the cycle's state.
use Rattle.std.proofs.Common.{◌≡◌, ◌∙◌, ℕ, ◌+◌, ◌<◌, ◌==◌, true, List, [], ◌∷◌, ◌++◌, map, take, length, refl, sym, ap, subst, arith}
use Rattle.std.specs.List.{All, AllByRecursion as Each}
use Rattle.std.proofs.lemmas.Bool.Decides.{nat_tests}
use Rattle.std.proofs.lemmas.List.{take_all, drop_all, append-nil, length-map}
use Rattle.std.proofs.lemmas.List.Elements.{All-from_recursion, All-head, All-tail}
use Rattle.slack_base.specs.Lending.{replaced}
use Rattle.slack_base.specs.declared.bounds.TheConstants.{TOP}
use Rattle.slack_base.specs.declared.messages.Ask.{Ask}
use Rattle.slack_base.specs.declared.messages.Post.{Post}
use Rattle.slack_base.specs.Inboxes.{CoreValue}
use Rattle.target_law.specs.Cycles.{StateValue, tick_of, ticked, asks_of, through, delivered, cycle}
use Rattle.target_law.specs.Laws.{Laws}
use Rattle.target_law.specs.Numbered.{AllNumbered}
use Rattle.target_law.specs.Proper.{IsProperAsk, IsProperPost, IsCoreOf, IsChanOf, IsProper, IsPunctual}
use Rattle.target_law.specs.Rules.{Rules, Owns}
use Rattle.target_law.proofs.Delivery.{length-delivered}
use Rattle.target_law.proofs.Kept.{proper_asks, cycle_posts, ticked_are, served_chans, cycle_proper, cycle_punctual}
use Rattle.target_law.proofs.Lists.{each_weaker}
use Rattle.target_law.proofs.Lockstep.{state_path}
use Rattle.target_law.proofs.Serving.{length-through}

-- as many items as there were replace all of them
pub replaced_all : {X : Type 0} (old new : List X) → length new ≡ length old → replaced old new ≡ new
replaced_all old new e =
    ap (λ rest. take (length old) (new ++ rest)) (drop_all (length new) old (omega arith))
    ∙ ap (take (length old)) (append-nil new)
    ∙ take_all (length old) new (omega arith)

-- what was appended to a list with no item is what is read from it
pub read_back : {X : Type 0} (before now these text : List X) → before ≡ [] → now ≡ before ++ these → text ≡ now → text ≡ these
read_back before now these text none is shows = shows ∙ is ∙ ap (λ xs. xs ++ these) none

zero_of : (n : ℕ) → (n == 0) ≡ true → n ≡ 0
zero_of n h = grind (arith, nat_tests)

-- a list with no item
pub none_of : {X : Type 0} (xs : List X) → (length xs == 0) ≡ true → xs ≡ []
none_of [] h = refl
none_of (x ∷ xs) h = let none : length (x ∷ xs) ≡ 0 = zero_of (length (x ∷ xs)) h in absurd (omega arith)

-- closing closed channels changes none
pub map-closed : {X : Type 0} (f : X → X) (xs : List X) → All (λ x. f x ≡ x) xs → map f xs ≡ xs
map-closed f [] all = refl
map-closed f (x ∷ xs) all = ap (λ y. y ∷ map f xs) (All-head (λ x. f x ≡ x) x xs all) ∙ ap (λ ys. x ∷ ys) (map-closed f xs (All-tail (λ x. f x ≡ x) x xs all))

module _ {Inner Chan C D : Type 0} (rules : Rules Inner Chan) (owns : Owns Inner Chan) (laws : Laws rules owns) (V : C → CoreValue Inner) (W : D → Chan)
    (clock : ℕ) (cores lent : List C) (chans lent_chans : List D) (is : IsProper rules owns (record { clock = clock; cores = map V cores; chans = map W chans }))
    (same : lent ≡ cores) (same_chans : lent_chans ≡ chans) (asks : List Ask) (asks_are : asks ≡ asks_of rules clock (map V lent)) where
  abbrev first : StateValue Inner Chan
  first = record { clock = clock; cores = map V cores; chans = map W chans }

  own_asks : asks ≡ asks_of rules clock (map V cores)
  own_asks = asks_are ∙ ap (λ xs. asks_of rules clock (map V xs)) same

  pub asks_ok : All (IsProperAsk rules) asks
  asks_ok = All-from_recursion (IsProperAsk rules) asks (subst (Each (IsProperAsk rules)) (sym own_asks) (proper_asks rules owns laws first is))

  module _ (now : List C) (now_are : map V now ≡ ticked rules clock (map V lent)) where
    own_cores : map V now ≡ ticked rules clock (map V cores)
    own_cores = now_are ∙ ap (λ xs. ticked rules clock (map V xs)) same

    pub cores_ok : AllNumbered (IsCoreOf rules owns) 0 (map V now)
    cores_ok = subst (AllNumbered (IsCoreOf rules owns) 0) (sym own_cores) (ticked_are rules owns laws first is)

    pub count_ok : length now ≡ rules.cores
    count_ok = sym (length-map now V) ∙ ap length own_cores ∙ length-map (map V cores) (λ core. (tick_of rules clock core).0) ∙ is.core_count

    own_through : through rules (map W lent_chans) asks ≡ through rules (map W chans) (asks_of rules clock (map V cores))
    own_through = ap (λ xs. through rules (map W xs) asks) same_chans ∙ ap (through rules (map W chans)) own_asks

    module _ (served : List D) (served_is : map W served ≡ (through rules (map W lent_chans) asks).chans) where
      own_served : map W served ≡ (through rules (map W chans) (asks_of rules clock (map V cores))).chans
      own_served = served_is ∙ ap (λ r. r.chans) own_through

      pub served_ok : AllNumbered (IsChanOf rules owns) 0 (map W served)
      served_ok = subst (AllNumbered (IsChanOf rules owns) 0) (sym own_served) (served_chans rules owns laws first is)

      pub closed_ok : asks ≡ [] → All (λ chan. rules.close chan ≡ chan) (map W served)
      closed_ok none =
          subst (All (λ chan. rules.close chan ≡ chan)) (sym (served_is ∙ ap (λ xs. (through rules (map W lent_chans) xs).chans) none ∙ ap (map W) same_chans)) is.closed

      module _ (posts : List Post) (posts_are : posts ≡ (through rules (map W lent_chans) asks).posts) where
        own_posts : posts ≡ (through rules (map W chans) (asks_of rules clock (map V cores))).posts
        own_posts = posts_are ∙ ap (λ r. r.posts) own_through

        pub posts_ok : All (IsProperPost rules) posts
        posts_ok =
            All-from_recursion (IsProperPost rules) posts
            (subst (Each (IsProperPost rules)) (sym own_posts)
            (each_weaker (λ p after. after.proper) (through rules (map W chans) (asks_of rules clock (map V cores))).posts (cycle_posts rules owns laws first is)))

        module _ (last : List C) (last_are : map V last ≡ delivered (map V now) posts) (closed : List D) (closed_are : map W closed ≡ map rules.close (map W served)) where
          end_cores : map V last ≡ delivered (ticked rules clock (map V cores)) (through rules (map W chans) (asks_of rules clock (map V cores))).posts
          end_cores = last_are ∙ ap (delivered (map V now)) own_posts ∙ ap (λ xs. delivered xs (through rules (map W chans) (asks_of rules clock (map V cores))).posts) own_cores

          end_chans : map W closed ≡ map rules.close (through rules (map W chans) (asks_of rules clock (map V cores))).chans
          end_chans = closed_are ∙ ap (map rules.close) own_served

          core_count : length last ≡ length cores
          core_count =
              sym (length-map last V) ∙ ap length end_cores
              ∙ length-delivered (ticked rules clock (map V cores)) (through rules (map W chans) (asks_of rules clock (map V cores))).posts
              ∙ length-map (map V cores) (λ core. (tick_of rules clock core).0) ∙ length-map cores V

          chan_count : length closed ≡ length chans
          chan_count =
              sym (length-map closed W) ∙ ap length end_chans ∙ length-map (through rules (map W chans) (asks_of rules clock (map V cores))).chans rules.close
              ∙ length-through rules (map W chans) (asks_of rules clock (map V cores)) ∙ length-map chans W

          abbrev pub stored_state : StateValue Inner Chan
          stored_state = record { clock = clock + 1; cores = map V (replaced cores last); chans = map W (replaced chans closed) }

          pub stored : stored_state ≡ cycle rules (record { clock = clock; cores = map V cores; chans = map W chans })
          unfolding cycle
          stored =
              state_path stored_state (cycle rules first) refl
              (ap (map V) (replaced_all cores last core_count) ∙ end_cores)
              (ap (map W) (replaced_all chans closed chan_count) ∙ end_chans)

          pub stored_proper : clock < TOP → IsProper rules owns stored_state
          stored_proper low = subst (IsProper rules owns) (sym stored) (cycle_proper rules owns laws first is low)

          pub stored_punctual : IsPunctual stored_state
          stored_punctual = subst (λ s. IsPunctual s) (sym stored) (cycle_punctual rules owns laws first is)
