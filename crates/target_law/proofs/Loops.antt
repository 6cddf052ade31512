-- The loops over cores, channels, asks and posts, one step on. The cores and channels are seen through what contracts
-- see of them.
use Rattle.std.proofs.Common.{◌≡◌, ◌∙◌, ℕ, ◌+◌, ◌<◌, zero, suc, List, [], ◌∷◌, ◌++◌, map, take, drop, length, get_or, set, Bool, false, refl, sym, ap, subst, arith, add-one, ◌&&◌}
use Rattle.std.specs.List.{flat_map, list_all}
use Rattle.std.proofs.Math.Seq.{drop-cons}
use Rattle.std.proofs.lemmas.List.{append_assoc, length-map, map-set}
use Rattle.slack_base.specs.declared.messages.Ask.{Ask}
use Rattle.slack_base.specs.declared.messages.Ask.TheVariants.{Read}
use Rattle.slack_base.specs.declared.messages.Post.{Post}
use Rattle.slack_base.specs.declared.messages.PostKind.TheVariants.{Reply}
use Rattle.slack_base.specs.Inboxes.{CoreValue, with_put}
use Rattle.target_law.specs.Cycles.{changed_at, seen_at, delivered, through}
use Rattle.target_law.specs.Laws.{Laws}
use Rattle.target_law.specs.Numbered.{AllNumbered}
use Rattle.target_law.specs.Proper.{IsProperAsk, IsProperPost, IsPostTo, IsCoreOf, IsCore, IsChanOf, IsChan}
use Rattle.target_law.specs.Rules.{Rules, Owns}
use Rattle.target_law.proofs.InPlace.{next_item, changed_more, given_more}
use Rattle.target_law.proofs.Places.{changed-set, seen-get, numbered_get, numbered_set}

pub get-map : {X Y : Type 0} (f : X → Y) (xs : List X) (i : ℕ) (d : X) → get_or (map f xs) i (f d) ≡ f (get_or xs i d)
get-map f [] i d = refl
get-map f (x ∷ xs) zero d = refl
get-map f (x ∷ xs) (suc i) d = get-map f xs i d

-- the ask and the post that stand for one past the end of a list; they are never looked at
abbrev pub blank_ask : Ask
blank_ask = Read (record { cycle = 0; core = 0; number = 0 }) 0

abbrev pub blank : Post
blank = record {
  to = 0;
  due = 0;
  id = record { cycle = 0; core = 0; number = 0 };
  line = 0;
  kind = Reply false (record { w0 = 0; w1 = 0; w2 = 0; w3 = 0 });
}

-- a post goes to one of the cores
pub post_within : {Inner Chan : Type 0} (rules : Rules Inner Chan) (owns : Owns Inner Chan) → Laws rules owns → (p : Post) (count : ℕ) → count ≡ rules.cores → IsProperPost rules p → p.to < count
post_within rules owns laws p count whole proper = let low = laws.posts p proper in omega arith

-- the channel of an ask is one of the channels
pub channel_within : {Inner Chan : Type 0} (rules : Rules Inner Chan) (owns : Owns Inner Chan) → Laws rules owns
    → (number count : ℕ) (ask : Ask) → number ≡ rules.channel_of ask → count ≡ rules.channels → IsProperAsk rules ask → number < count
channel_within rules owns laws number count ask e whole proper = let low = (laws.asks ask proper).channel in omega arith

-- items that are changed one after another, each as it was at first
module _ {C V : Type 0} (view : C → V) (f : V → V) (firsts items : List C) (i : ℕ) (item : C) (within : i < length firsts) (is : item ≡ get_or items i item)
    (so_far : map view items ≡ map f (take i (map view firsts)) ++ drop i (map view firsts)) where
  inside : i < length (map view firsts)
  inside = subst (λ n. i < n) (sym (length-map firsts view)) within

  seen : view item ≡ get_or (map view items) i (view item)
  seen = ap view is ∙ sym (get-map view items i item)

  -- what is so of each at first is so of the next
  pub next_is : (P : ℕ → V → Type 0) → AllNumbered P 0 (map view firsts) → P i (view (get_or items i item))
  next_is P all =
      subst (P i) (sym (next_item f (map view firsts) (map view items) i (view item) inside so_far seen) ∙ ap view is)
      (numbered_get P 0 i i (map view firsts) (view item) (omega arith) inside all)

  pub viewed_more : (new : C) → view new ≡ f (view (get_or items i item)) → map view (set items i new) ≡ map f (take (i + 1) (map view firsts)) ++ drop (i + 1) (map view firsts)
  viewed_more new e =
      map-set view items i new
      ∙ changed_more f (map view firsts) (map view items) i (view item) (view new) inside so_far seen (e ∙ ap f (sym (get-map view items i item)))

  pub appended_more : {A : Type 0} (g : V → List A) (before now new : List A) → now ≡ before ++ flat_map g (take i (map view firsts)) → new ≡ now ++ g (view (get_or items i item))
      → new ≡ before ++ flat_map g (take (i + 1) (map view firsts))
  appended_more g before now new old e =
      given_more f g (map view firsts) (map view items) before now new i (view item) inside so_far seen old (e ∙ ap (λ x. now ++ g x) (sym (get-map view items i item)))

module _ {Inner Chan : Type 0} (rules : Rules Inner Chan) (owns : Owns Inner Chan) where
  -- a core or a channel that has the number of its place
  pub core_at : (place : ℕ) (core : CoreValue Inner) → IsCoreOf rules owns place core → IsCore rules owns core
  core_at place core is = subst (λ n. IsCoreOf rules owns n core) (sym is.number) is

  pub chan_at : (place : ℕ) (chan : Chan) → IsChanOf rules owns place chan → IsChan rules owns chan
  chan_at place chan is = subst (λ n. IsChanOf rules owns n chan) (sym is.number) is

-- posts
module _ {Inner Chan C : Type 0} (rules : Rules Inner Chan) (view : C → CoreValue Inner) (cores : List C) (posts : List Post) (i : ℕ) (d : Post) (c : C)
    (next : i < length posts) (within : (get_or posts i d).to < length cores) where
  abbrev HasPlace : ℕ → CoreValue Inner → Type 0
  HasPlace place core = rules.core_number core.inner ≡ place

  abbrev here : Post
  here = get_or posts i d

  inside_cores : here.to < length (map view cores)
  inside_cores = subst (λ n. here.to < n) (sym (length-map cores view)) within

  own_place : AllNumbered HasPlace 0 (map view cores) → rules.core_number (get_or (map view cores) here.to (view c)).inner ≡ here.to
  own_place numbers = numbered_get HasPlace 0 here.to here.to (map view cores) (view c) (omega arith) inside_cores numbers

  pub may_put : IsProperPost rules (get_or posts i d) → AllNumbered (λ place core. rules.core_number core.inner ≡ place) 0 (map view cores)
      → IsPostTo rules (rules.core_number (view (get_or cores (get_or posts i d).to c)).inner) (get_or posts i d)
  may_put proper numbers = record { proper = proper; to = sym (own_place numbers) ∙ ap (λ (core : CoreValue Inner). rules.core_number core.inner) (get-map view cores here.to c) }

  pub delivered_more : (new : C) → view new ≡ with_put (get_or posts i d) (view (get_or cores (get_or posts i d).to c))
      → delivered (map view (set cores (get_or posts i d).to new)) (drop (i + 1) posts) ≡ delivered (map view cores) (drop i posts)
  delivered_more new e =
      let cut : drop i posts ≡ here ∷ drop (i + 1) posts = drop-cons posts i d next ∙ ap (λ n. here ∷ drop n posts) (sym (add-one i)) in
      ap (λ ys. delivered ys (drop (i + 1) posts))
      (map-set view cores here.to new
      ∙ ap (set (map view cores) here.to) (e ∙ ap (with_put here) (sym (get-map view cores here.to c)))
      ∙ sym (changed-set (with_put here) here.to (map view cores) (view c) inside_cores))
      ∙ sym (ap (delivered (map view cores)) cut)

  pub numbers_more : (new : C) → view new ≡ with_put (get_or posts i d) (view (get_or cores (get_or posts i d).to c))
      → AllNumbered (λ place core. rules.core_number core.inner ≡ place) 0 (map view cores)
      → AllNumbered (λ place core. rules.core_number core.inner ≡ place) 0 (map view (set cores (get_or posts i d).to new))
  numbers_more new e numbers =
      subst (AllNumbered HasPlace 0) (sym (map-set view cores here.to new))
      (numbered_set HasPlace 0 here.to here.to (map view cores) (view new) (omega arith)
      (ap (λ (core : CoreValue Inner). rules.core_number core.inner) (e ∙ ap (with_put here) (sym (get-map view cores here.to c))) ∙ own_place numbers) numbers)

-- asks
module _ {Inner Chan D : Type 0} (rules : Rules Inner Chan) (view : D → Chan) (chans : List D) (asks : List Ask) (i number : ℕ) (d : Ask) (c : D)
    (next : i < length asks) (e : number ≡ rules.channel_of (get_or asks i d)) (within : number < length chans) where
  abbrev asked : Ask
  asked = get_or asks i d

  inside_chans : number < length (map view chans)
  inside_chans = subst (λ n. number < n) (sym (length-map chans view)) within

  pub may_serve : (owns : Owns Inner Chan) → AllNumbered (IsChanOf rules owns) 0 (map view chans) → IsChanOf rules owns (rules.channel_of (get_or asks i d)) (view (get_or chans number c))
  may_serve owns are =
      subst (IsChanOf rules owns (rules.channel_of asked)) (get-map view chans number c)
      (numbered_get (IsChanOf rules owns) 0 number (rules.channel_of asked) (map view chans) (view c) (omega arith) inside_chans are)

  cut : drop i asks ≡ asked ∷ drop (i + 1) asks
  cut = drop-cons asks i d next ∙ ap (λ n. asked ∷ drop n asks) (sym (add-one i))

  item : get_or (map view chans) number (view c) ≡ view (get_or chans number c)
  item = get-map view chans number c

  module _ (new : D) (new_is : view new ≡ (rules.serve (view (get_or chans number c)) (get_or asks i d)).0) where
    changed : changed_at (rules.channel_of asked) (λ chan. (rules.serve chan asked).0) (map view chans) ≡ map view (set chans number new)
    changed =
        let f : Chan → Chan = λ chan. (rules.serve chan asked).0 in
        ap (λ n. changed_at n f (map view chans)) (sym e)
        ∙ changed-set f number (map view chans) (view c) inside_chans
        ∙ ap (set (map view chans) number) (ap f item ∙ sym new_is)
        ∙ sym (map-set view chans number new)

    pub chans_through : (through rules (map view (set chans number new)) (drop (i + 1) asks)).chans ≡ (through rules (map view chans) (drop i asks)).chans
    chans_through =
        ap (λ ys. (through rules ys (drop (i + 1) asks)).chans) (sym changed)
        ∙ sym (ap (λ rest. (through rules (map view chans) rest).chans) cut)

    posts_through : (rules.serve (view (get_or chans number c)) (get_or asks i d)).1 ++ (through rules (map view (set chans number new)) (drop (i + 1) asks)).posts
        ≡ (through rules (map view chans) (drop i asks)).posts
    posts_through =
        let g : Chan → List Post = λ chan. (rules.serve chan asked).1 in
        let gives : seen_at (rules.channel_of asked) g [] (map view chans) ≡ g (view (get_or chans number c)) =
        ap (λ n. seen_at n g [] (map view chans)) (sym e) ∙ seen-get g [] number (map view chans) (view c) inside_chans ∙ ap g item in
        ap (λ ps. ps ++ (through rules (map view (set chans number new)) (drop (i + 1) asks)).posts) (sym gives)
        ∙ ap (λ ys. seen_at (rules.channel_of asked) g [] (map view chans) ++ (through rules ys (drop (i + 1) asks)).posts) (sym changed)
        ∙ sym (ap (λ rest. (through rules (map view chans) rest).posts) cut)

    -- what was sent so far, and what the asks that are left send
    pub posts_more : (sent now all : List Post) → now ≡ sent ++ (rules.serve (view (get_or chans number c)) (get_or asks i d)).1
        → sent ++ (through rules (map view chans) (drop i asks)).posts ≡ all → now ++ (through rules (map view (set chans number new)) (drop (i + 1) asks)).posts ≡ all
    posts_more sent now all more is =
        let one = (rules.serve (view (get_or chans number c)) asked).1 in
        let rest = (through rules (map view (set chans number new)) (drop (i + 1) asks)).posts in
        let with_one : now ++ rest ≡ (sent ++ one) ++ rest = ap (λ ps. ps ++ rest) more in
        let regrouped : (sent ++ one) ++ rest ≡ sent ++ (one ++ rest) = append_assoc sent one rest in
        let back : sent ++ (one ++ rest) ≡ sent ++ (through rules (map view chans) (drop i asks)).posts = ap (λ ps. sent ++ ps) posts_through in
        with_one ∙ (regrouped ∙ (back ∙ is))

    pub still_chans : (owns : Owns Inner Chan) → Laws rules owns → IsProperAsk rules (get_or asks i d)
        → AllNumbered (IsChanOf rules owns) 0 (map view chans) → AllNumbered (IsChanOf rules owns) 0 (map view (set chans number new))
    still_chans owns laws proper are =
        let served = laws.serves (view (get_or chans number c)) asked proper (may_serve owns are) in
        subst (AllNumbered (IsChanOf rules owns) 0) (sym (map-set view chans number new))
        (numbered_set (IsChanOf rules owns) 0 number (rules.channel_of asked) (map view chans) (view new) (omega arith)
        (subst (IsChanOf rules owns (rules.channel_of asked)) (sym new_is) (record { own = served.own; number = served.number })) are)

list_all-map : {X Y : Type 0} (p : Y → Bool) (f : X → Y) (xs : List X) → list_all (λ x. p (f x)) xs ≡ list_all p (map f xs)
list_all-map p f [] = refl
list_all-map p f (x ∷ xs) = ap (λ b. p (f x) && b) (list_all-map p f xs)

pub all_ended-map : {Inner Chan C : Type 0} (rules : Rules Inner Chan) (view : C → CoreValue Inner) (cores text : List C) (r : Bool) → text ≡ cores
    → r ≡ list_all (λ core. rules.has_ended (view core).inner) text → r ≡ list_all (λ core. rules.has_ended core.inner) (map view cores)
all_ended-map rules view cores text r same is =
    is ∙ list_all-map (λ core. rules.has_ended core.inner) view text ∙ ap (λ xs. list_all (λ core. rules.has_ended core.inner) (map view xs)) same
