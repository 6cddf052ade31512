-- What is stored, step by step.
use Rattle.std.proofs.Common.{◌≡◌, ◌≤◌, ◌∙◌, ℕ, ◌+◌, ◌<◌, List, [], ◌∷◌, ◌++◌, map, take, drop, length, get_or, set, add-one, refl, sym, ap, subst, arith, append_assoc, Option}
use Rattle.std.specs.List.{flat_map, All, AllByRecursion as Each}
use Rattle.std.specs.List.Sorted.{IsPermutation, IsSortedByKey}
use Rattle.std.proofs.lemmas.List.Elements.{All-from_recursion}
use Rattle.std.proofs.Math.Seq.{drop-cons}
use Rattle.std.proofs.lemmas.List.{length-map, map-set}
use Rattle.slack_base.specs.declared.histories.Taken.{Taken}
use Rattle.slack_base.specs.declared.messages.Ask.{Ask}
use Rattle.slack_base.specs.Inboxes.{CoreValue}
use Rattle.slack_base.specs.Messages.{id_of}
use Rattle.slack_base.specs.Stamps.{id_cmp}
use Rattle.slack_base.specs.declared.bounds.TheConstants.{TOP}
use Rattle.slack_base.specs.declared.messages.Post.{Post}
use Rattle.slack_base.specs.declared.stamps.Id.{Id}
use Rattle.target_law.specs.Cycles.{through, ticks_of}
use Rattle.target_law.specs.Laws.{Laws}
use Rattle.target_law.specs.Numbered.{AllNumbered}
use Rattle.target_law.specs.Proper.{IsProperAsk, IsProperPost, IsPostTo, IsCore, IsChanOf}
use Rattle.target_law.specs.Rules.{Rules, Owns}
use Rattle.target_law.proofs.Lists.{numbered_weaker, each_of_numbered}
use Rattle.target_law.proofs.Loops.{get-map, core_at}
use Rattle.target_law.proofs.Places.{changed-set, numbered_get, numbered_set}
use Rattle.target_law.proofs.Serving.{through_are}
use Rattle.violation_watch.proofs.Channels.{through_chans-append, through_posts-append}
use Rattle.violation_watch.proofs.Quiet.{each_of_map}
use Rattle.drive_script.proofs.Underway.{through_clashes-append}
use Rattle.target_law.specs.Served.{AreRising}
use Rattle.pacing.specs.Open.{IsLaneOf, IsOpen}
use Rattle.pacing.specs.Pieces.{LaneValue, UnderwayValue, lane_ticked, asks_through, lane_taking, all_taking, pieced, IsPiece}
use Rattle.pacing.proofs.Opened.{length-taking, posts_proper, ticked_lanes}
use Rattle.pacing.proofs.Orders.{rising_sorted}
use Rattle.pacing.proofs.Shares.{all_distinct, served_proper}

module _ {Inner Chan : Type 0} (rules : Rules Inner Chan) where
  -- the lane of a core that ticked through k cycles
  pub ticked_through : (t j k : ℕ) (first last : CoreValue Inner) (before taken : List Taken) (cleared asks : List Ask) → j ≡ k → taken ≡ before
      → last ≡ (ticks_of rules t j first).0 → cleared ≡ [] → asks ≡ cleared ++ (ticks_of rules t j first).1
      → (record { core = last; taken = taken }, asks) ≡ lane_ticked rules t k (record { core = first; taken = before })
  ticked_through t j k first last before taken cleared asks long same value none sent =
      let whole = ap (λ n. ticks_of rules t n first) long in
      let core : last ≡ (ticks_of rules t k first).0 = value ∙ ap (λ r. r.0) whole in
      let all : asks ≡ (ticks_of rules t k first).1 = sent ∙ ap (λ xs. xs ++ (ticks_of rules t j first).1) none ∙ ap (λ r. r.1) whole in
      λ i. (record { core = core i; taken = same i }, all i)

-- what is so of each item is so of what is seen of it
pub numbered_views : {X V : Type 0} (view : X → V) (P : V → Type 0) (n : ℕ) (xs : List X) → Each (λ x. P (view x)) xs → AllNumbered (λ place v. P v) n (map view xs)
numbered_views view P n [] h = tt
numbered_views view P n (x ∷ xs) h = (h.0, numbered_views view P (n + 1) xs h.1)

pub map-seen : {X U V W : Type 0} (f : U → W) (view : X → V) (part : V → U) (xs : List X) → map (λ v. f (part v)) (map view xs) ≡ map f (map (λ x. part (view x)) xs)
map-seen f view part [] = refl
map-seen f view part (x ∷ xs) = ap (λ ys. f (part (view x)) ∷ ys) (map-seen f view part xs)

-- one ask more is served
module _ {Inner Chan : Type 0} (rules : Rules Inner Chan) (first now new : List Chan) (asks : List Ask) (i : ℕ) (x : Ask) (more : take (i + 1) asks ≡ take i asks ++ x ∷ [])
    (now_is : now ≡ (through rules first (take i asks)).chans) where
  same_out : through rules now (x ∷ []) ≡ through rules (through rules first (take i asks)).chans (x ∷ [])
  same_out = ap (λ chans. through rules chans (x ∷ [])) now_is

  pub chans_more : new ≡ (through rules now (x ∷ [])).chans → new ≡ (through rules first (take (i + 1) asks)).chans
  chans_more e = e ∙ ap (λ r. r.chans) same_out ∙ sym (through_chans-append rules first (take i asks) (x ∷ [])) ∙ ap (λ xs. (through rules first xs).chans) (sym more)

  pub clashes_more : (begun before after : List (Option Id)) → before ≡ begun ++ (through rules first (take i asks)).clashes → after ≡ before ++ (through rules now (x ∷ [])).clashes
      → after ≡ begun ++ (through rules first (take (i + 1) asks)).clashes
  clashes_more begun before after e f =
      let out = through rules first (take i asks) in
      f ∙ ap (λ r. before ++ r.clashes) same_out ∙ ap (λ hs. hs ++ (through rules out.chans (x ∷ [])).clashes) e
      ∙ append_assoc begun out.clashes (through rules out.chans (x ∷ [])).clashes
      ∙ ap (λ hs. begun ++ hs) (sym (through_clashes-append rules first (take i asks) (x ∷ [])) ∙ ap (λ xs. (through rules first xs).clashes) (sym more))

  pub posts_more : (begun before after : List Post) → before ≡ begun ++ (through rules first (take i asks)).posts → after ≡ before ++ (through rules now (x ∷ [])).posts
      → after ≡ begun ++ (through rules first (take (i + 1) asks)).posts
  posts_more begun before after e f =
      let out = through rules first (take i asks) in
      f ∙ ap (λ r. before ++ r.posts) same_out ∙ ap (λ ps. ps ++ (through rules out.chans (x ∷ [])).posts) e
      ∙ append_assoc begun out.posts (through rules out.chans (x ∷ [])).posts
      ∙ ap (λ ps. begun ++ ps) (sym (through_posts-append rules first (take i asks) (x ∷ [])) ∙ ap (λ xs. (through rules first xs).posts) (sym more))

  pub chans_still : (owns : Owns Inner Chan) → Laws rules owns → IsProperAsk rules x → AllNumbered (IsChanOf rules owns) 0 now → new ≡ (through rules now (x ∷ [])).chans → AllNumbered (IsChanOf rules owns) 0 new
  chans_still owns laws proper are e = subst (AllNumbered (IsChanOf rules owns) 0) (sym e) (through_are rules owns laws now (x ∷ []) are (proper, tt))

-- one post more is taken
module _ {Inner Chan C : Type 0} (rules : Rules Inner Chan) (view : C → LaneValue Inner) (clock : ℕ) (lanes : List C) (posts : List Post) (i : ℕ) (d : Post) (c : C)
    (next : i < length posts) (within : (get_or posts i d).to < length lanes) where
  abbrev HasPlace : ℕ → LaneValue Inner → Type 0
  HasPlace place lane = rules.core_number lane.core.inner ≡ place

  abbrev here : Post
  here = get_or posts i d

  inside : here.to < length (map view lanes)
  inside = subst (λ n. here.to < n) (sym (length-map lanes view)) within

  own_place : AllNumbered HasPlace 0 (map view lanes) → rules.core_number (get_or (map view lanes) here.to (view c)).core.inner ≡ here.to
  own_place numbers = numbered_get HasPlace 0 here.to here.to (map view lanes) (view c) (omega arith) inside numbers

  pub may_take : IsProperPost rules (get_or posts i d) → AllNumbered (λ place lane. rules.core_number lane.core.inner ≡ place) 0 (map view lanes)
      → IsPostTo rules (rules.core_number (view (get_or lanes (get_or posts i d).to c)).core.inner) (get_or posts i d)
  may_take proper numbers = record { proper = proper; to = sym (own_place numbers) ∙ ap (λ (lane : LaneValue Inner). rules.core_number lane.core.inner) (get-map view lanes here.to c) }

  module _ (new : C) (new_is : view new ≡ lane_taking rules clock (get_or posts i d) (view (get_or lanes (get_or posts i d).to c))) where
    pub taking_more : all_taking rules clock (map view (set lanes (get_or posts i d).to new)) (drop (i + 1) posts) ≡ all_taking rules clock (map view lanes) (drop i posts)
    taking_more =
        let cut : drop i posts ≡ here ∷ drop (i + 1) posts = drop-cons posts i d next ∙ ap (λ n. here ∷ drop n posts) (sym (add-one i)) in
        ap (λ ys. all_taking rules clock ys (drop (i + 1) posts))
        (map-set view lanes here.to new
        ∙ ap (set (map view lanes) here.to) (new_is ∙ ap (lane_taking rules clock here) (sym (get-map view lanes here.to c)))
        ∙ sym (changed-set (lane_taking rules clock here) here.to (map view lanes) (view c) inside))
        ∙ sym (ap (all_taking rules clock (map view lanes)) cut)

    pub places_more : AllNumbered (λ place lane. rules.core_number lane.core.inner ≡ place) 0 (map view lanes)
        → AllNumbered (λ place lane. rules.core_number lane.core.inner ≡ place) 0 (map view (set lanes (get_or posts i d).to new))
    places_more numbers =
        subst (AllNumbered HasPlace 0) (sym (map-set view lanes here.to new))
        (numbered_set HasPlace 0 here.to here.to (map view lanes) (view new) (omega arith)
        (ap (λ (lane : LaneValue Inner). rules.core_number lane.core.inner) (new_is ∙ ap (lane_taking rules clock here) (sym (get-map view lanes here.to c))) ∙ own_place numbers) numbers)

-- the parts of pairs
map-parts : {X Y Z : Type 0} (f : X → Y) (g : X → List Z) (xs : List X) → map (λ (r : Y × List Z). r.0) (map (λ x. (f x, g x)) xs) ≡ map f xs
map-parts f g [] = refl
map-parts f g (x ∷ xs) = ap (λ ys. f x ∷ ys) (map-parts f g xs)

flat_map-parts : {X Y Z : Type 0} (f : X → Y) (g : X → List Z) (xs : List X) → flat_map (λ (r : Y × List Z). r.1) (map (λ x. (f x, g x)) xs) ≡ flat_map g xs
flat_map-parts f g [] = refl
flat_map-parts f g (x ∷ xs) = ap (λ ys. g x ++ ys) (flat_map-parts f g xs)

map-firsts : {X Y Z : Type 0} (f : X → Y × List Z) (xs : List X) → map (λ (r : Y × List Z). r.0) (map f xs) ≡ map (λ x. (f x).0) xs
map-firsts f [] = refl
map-firsts f (x ∷ xs) = ap (λ ys. (f x).0 ∷ ys) (map-firsts f xs)

flat_map-seconds : {X Y Z : Type 0} (f : X → Y × List Z) (xs : List X) → flat_map (λ (r : Y × List Z). r.1) (map f xs) ≡ flat_map (λ x. (f x).1) xs
flat_map-seconds f [] = refl
flat_map-seconds f (x ∷ xs) = ap (λ ys. (f x).1 ++ ys) (flat_map-seconds f xs)

-- cores that are lent, each in its place
pub lent_cores : {Inner Chan C : Type 0} (rules : Rules Inner Chan) (owns : Owns Inner Chan) (V : C → LaneValue Inner) (lanes lent : List C) → lent ≡ lanes
    → AllNumbered (IsLaneOf rules owns) 0 (map V lanes) → All (λ x. IsCore rules owns (V x).core) lent
lent_cores rules owns V lanes lent same are =
    subst (All (λ x. IsCore rules owns (V x).core)) (sym same)
    (All-from_recursion (λ x. IsCore rules owns (V x).core) lanes
    (each_of_map (λ lane. IsCore rules owns lane.core) V lanes
    (each_of_numbered (λ lane. IsCore rules owns lane.core) 0 (map V lanes) (numbered_weaker (λ c lane is. core_at rules owns c lane.core is) 0 (map V lanes) are))))

pub ticked_length : {Inner Chan C : Type 0} (rules : Rules Inner Chan) (V : C → LaneValue Inner) (A : C → List Ask) (clock k : ℕ) (lanes lent ticked : List C) → lent ≡ lanes
    → map (λ x. (V x, A x)) ticked ≡ map (lane_ticked rules clock k) (map V lent) → length ticked ≡ length lanes
ticked_length rules V A clock k lanes lent ticked same is =
    sym (length-map ticked (λ x. (V x, A x))) ∙ ap length is ∙ length-map (map V lent) (lane_ticked rules clock k) ∙ length-map lent V ∙ ap length same

pub taken_length : {Inner Chan C : Type 0} (rules : Rules Inner Chan) (V : C → LaneValue Inner) (clock : ℕ) (posts : List Post) (lanes last : List C)
    → map V last ≡ all_taking rules clock (map V lanes) posts → length last ≡ length lanes
taken_length rules V clock posts lanes last is = sym (length-map last V) ∙ ap length is ∙ length-taking rules clock (map V lanes) posts ∙ length-map lanes V

-- a whole piece, as it is stored
module _ {Inner Chan C D : Type 0} (rules : Rules Inner Chan) (owns : Owns Inner Chan) (laws : Laws rules owns) (V : C → LaneValue Inner) (A : C → List Ask) (W : D → Chan)
    (clock k : ℕ) (lanes : List C) (chans : List D) (served : List Ask) (clashes : List (Option Id)) where
  abbrev pub before : UnderwayValue Inner Chan
  before = record { clock = clock; lanes = map V lanes; chans = map W chans; served = served; clashes = clashes }

  module _ (low : clock + k ≤ TOP) (here : IsOpen rules owns before) (lent ticked text : List C) (lent_is : lent ≡ lanes)
      (ticked_is : map (λ x. (V x, A x)) ticked ≡ map (lane_ticked rules clock k) (map V lent)) (text_is : text ≡ ticked)
      (asks own : List Ask) (lined : IsPermutation (flat_map A text) asks) (up : IsSortedByKey id_of id_cmp asks) (own_is : own ≡ asks) where
    both : map (λ x. (V x, A x)) ticked ≡ map (lane_ticked rules clock k) (map V lanes)
    both = ticked_is ∙ ap (λ xs. map (lane_ticked rules clock k) (map V xs)) lent_is

    pub now_lanes : map V ticked ≡ map (λ lane. (lane_ticked rules clock k lane).0) (map V lanes)
    now_lanes = sym (map-parts V A ticked) ∙ ap (map (λ (r : LaneValue Inner × List Ask). r.0)) both ∙ map-firsts (lane_ticked rules clock k) (map V lanes)

    sent_are : flat_map A text ≡ asks_through rules clock k (map V lanes)
    sent_are = ap (flat_map A) text_is ∙ sym (flat_map-parts V A ticked) ∙ ap (flat_map (λ (r : LaneValue Inner × List Ask). r.1)) both ∙ flat_map-seconds (lane_ticked rules clock k) (map V lanes)

    sent : IsPermutation (asks_through rules clock k (map V lanes)) asks
    sent = subst (λ xs. IsPermutation xs asks) sent_are lined

    rising : AreRising asks
    rising = rising_sorted (asks_through rules clock k (map V lanes)) asks sent (all_distinct rules owns laws clock k (clock + k) refl low 0 (map V lanes) here.lanes) up

    own_proper : Each (IsProperAsk rules) own
    own_proper = subst (Each (IsProperAsk rules)) (sym own_is) (served_proper rules owns laws clock k (clock + k) refl low (map V lanes) here.lanes asks sent rising)

    pub own_asks : All (IsProperAsk rules) own
    own_asks = All-from_recursion (IsProperAsk rules) own own_proper

    pub now_are : AllNumbered (IsLaneOf rules owns) 0 (map V ticked)
    now_are = subst (AllNumbered (IsLaneOf rules owns) 0) (sym now_lanes) (ticked_lanes rules owns laws clock k (map V lanes) low here.lanes)

    module _ (posts : List Post) (posts_are : posts ≡ (through rules (map W chans) own).posts) where
      pub own_posts : All (IsProperPost rules) posts
      own_posts = All-from_recursion (IsProperPost rules) posts (subst (Each (IsProperPost rules)) (sym posts_are) (posts_proper rules owns laws (map W chans) own here.chans own_proper))

      module _ (again last : List C) (again_is : again ≡ ticked) (last_is : map V last ≡ all_taking rules (clock + k) (map V again) posts)
          (chans' : List D) (chans_are : map W chans' ≡ (through rules (map W chans) own).chans)
          (served' : List Ask) (served_are : served' ≡ served ++ own)
          (clashes' : List (Option Id)) (clashes_are : clashes' ≡ clashes ++ (through rules (map W chans) own).clashes) where
        abbrev after : UnderwayValue Inner Chan
        after = record { clock = clock + k; lanes = map V last; chans = map W chans'; served = served'; clashes = clashes' }

        same : after ≡ pieced rules k asks before
        unfolding pieced
        same =
            let out = through rules (map W chans) own in
            let all : out ≡ through rules (map W chans) asks = ap (through rules (map W chans)) own_is in
            let lanes_are : map V last ≡ all_taking rules (clock + k) (map (λ lane. (lane_ticked rules clock k lane).0) (map V lanes)) (through rules (map W chans) asks).posts =
            last_is
            ∙ ap (λ xs. all_taking rules (clock + k) (map V xs) posts) again_is
            ∙ ap (λ xs. all_taking rules (clock + k) xs posts) now_lanes
            ∙ ap (all_taking rules (clock + k) (map (λ lane. (lane_ticked rules clock k lane).0) (map V lanes))) (posts_are ∙ ap (λ r. r.posts) all) in
            let cs = chans_are ∙ ap (λ r. r.chans) all in
            let ss = served_are ∙ ap (λ xs. served ++ xs) own_is in
            let hs = clashes_are ∙ ap (λ r. clashes ++ r.clashes) all in
            λ i. record { clock = clock + k; lanes = lanes_are i; chans = cs i; served = ss i; clashes = hs i }

        pub whole_piece : IsPiece rules k (record { clock = clock; lanes = map V lanes; chans = map W chans; served = served; clashes = clashes })
            (record { clock = clock + k; lanes = map V last; chans = map W chans'; served = served'; clashes = clashes' })
        whole_piece = record { asks = asks; sent = sent; rising = rising; after = same }
