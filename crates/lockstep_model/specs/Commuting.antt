-- An ask out of the order of the ids that doesn't clash may as well come in its place.
use Rattle.std.proofs.Common.{◌≡◌, ◌∙◌, ℕ, ◌+◌, ◌*◌, ◌/◌, ◌%◌, ◌≢◌, true, false, Bool, IsTrue, List, [], ◌∷◌, ◌++◌, Option, None, Some, refl, sym, ap, append-nil, append_assoc, div-add-mod'}
use Rattle.std.specs.List.{AllByRecursion as Each}
use Rattle.slack_base.specs.declared.configs.RawConfig.{RawConfig}
use Rattle.slack_base.specs.declared.messages.Ask.{Ask}
use Rattle.slack_base.specs.declared.messages.Post.{Post}
use Rattle.slack_base.specs.Messages.{id_of, line_of}
use Rattle.slack_base.specs.Stamps.{is_above}
use Rattle.slot_calendar.proofs.Ids.{above_trans}
use Rattle.slot_calendar.proofs.Lists.{each_weaker}
use Rattle.bus_model.specs.Asks.{channel_of_line, channel_of}
use Rattle.bus_model.specs.Channels.{ChannelValue, AsBus, AsConsole}
use Rattle.bus_model.specs.Closing.{clash, closed}
use Rattle.bus_model.specs.ClosingLaws.{AreApart, AreLinesApart, IsLast}
use Rattle.bus_model.specs.Laws.{HasSetting}
use Rattle.bus_model.specs.Serving.{served, served_all, bus_served}
use Rattle.bus_model.specs.Settings.{SettingValue, setting_of}
use Rattle.bus_model.proofs.ClosingLaws.{last_more, closed_last}
use Rattle.bus_model.proofs.Keeping.{setting_kept}
use Rattle.bus_model.proofs.Swaps.{swaps}
use Rattle.target_law.specs.Served.{AreRising, IsLineInTurn, Perm, join, inserted}
use Rattle.violation_watch.proofs.Perms.{perm_of, perm_same, perm_behind, perm_across}
use Rattle.violation_watch.proofs.Sorting.{insert_case}

pub served_all-append : (c : ChannelValue) (asks : List Ask) (x : Ask)
    → served_all c (asks ++ x ∷ []) ≡ ((served (served_all c asks).0 x).0, (served_all c asks).1 ++ (served (served_all c asks).0 x).1)
served_all-append c [] x = ap (λ (posts : List Post). ((served c x).0, posts)) (append-nil (served c x).1)
served_all-append c (y ∷ asks) x =
    let now = served c y in
    let rest = served_all now.0 asks in
    ap (λ (r : ChannelValue × List Post). (r.0, now.1 ++ r.1)) (served_all-append now.0 asks x)
    ∙ ap (λ (posts : List Post). ((served rest.0 x).0, posts)) (sym (append_assoc now.1 rest.1 (served rest.0 x).1))

-- each of these asks is above all that the channel keeps
abbrev AreLast : List Ask → ChannelValue → Type 0
AreLast asks c = Each (λ y. IsLast y c) asks

last_on : (c : ChannelValue) (y : Ask) (asks : List Ask) → AreLast asks c → Each (λ z. IsTrue (is_above (id_of z) (id_of y))) asks → AreLast asks (served c y).0
last_on c y [] last above = tt
last_on c y (z ∷ asks) last above = (last_more c z y above.0 last.0, last_on c y asks last.1 above.1)

pub closed_all : (c : ChannelValue) (asks : List Ask) → closed c ≡ c → AreLast asks c
closed_all c [] is_closed = tt
closed_all c (y ∷ asks) is_closed = (closed_last c y is_closed, closed_all c asks is_closed)

-- an ask leaves the place of each line on its bus
lines_on : (n m : ℕ) → m ≡ n → (lx lz : Option ℕ) → AreLinesApart n lx lz → AreLinesApart m lx lz
lines_on n m same lx lz apart = rw same apart

apart_on : (c : ChannelValue) (x y z : Ask) → AreApart c x z → AreApart (served c y).0 x z
unfolding served
apart_on (AsBus b) x y z apart = lines_on b.setting.buses (bus_served b y).0.setting.buses (ap (λ (s : SettingValue). s.buses) (setting_kept b y)) (line_of x) (line_of z) apart
apart_on (AsConsole c) x y z apart = tt

abbrev AreAllApart : ChannelValue → Ask → List Ask → Type 0
AreAllApart c x asks = Each (λ y. AreApart c x y) asks

all_apart_on : (c : ChannelValue) (x y : Ask) (asks : List Ask) → AreAllApart c x asks → AreAllApart (served c y).0 x asks
all_apart_on c x y [] apart = tt
all_apart_on c x y (z ∷ asks) apart = (apart_on c x y z apart.0, all_apart_on c x y asks apart.1)

-- x behind asks of greater ids is as x before them
record IsMoved (c : ChannelValue) (asks : List Ask) (x : Ask) : Type 0 where
  free : clash c x ≡ None
  value : (served (served_all c asks).0 x).0 ≡ (served_all (served c x).0 asks).0
  last : (served (served_all c asks).0 x).1 ≡ (served c x).1
  posts : (served_all (served c x).0 asks).1 ≡ (served_all c asks).1

moves : (c : ChannelValue) (asks : List Ask) (x : Ask) → AreRising asks → Each (λ y. IsTrue (is_above (id_of y) (id_of x))) asks → AreLast asks c → AreAllApart c x asks
    → clash (served_all c asks).0 x ≡ None → IsMoved c asks x
moves c [] x rising above last apart free = record { free = free; value = refl; last = refl; posts = refl }
moves c (y ∷ asks) x rising above last apart free =
    let now = served c y in
    let rest = moves now.0 asks x rising.1 above.1 (last_on c y asks last.1 rising.0) (all_apart_on c x y asks apart.1) free in
    let swap = swaps c x y above.0 last.0 apart.0 rest.free in
    record {
      free = swap.free;
      value = rest.value ∙ ap (λ (d : ChannelValue). (served_all d asks).0) swap.value;
      last = rest.last ∙ swap.posts_x;
      posts =
          ap (λ (posts : List Post). posts ++ (served_all (served (served c x).0 y).0 asks).1) swap.posts_y
          ∙ ap (λ (d : ChannelValue). now.1 ++ (served_all d asks).1) (sym swap.value)
          ∙ ap (λ (posts : List Post). now.1 ++ posts) rest.posts;
    }

-- the channel and, in another order, the posts are those of x after these asks
pub record IsLike (c : ChannelValue) (asks : List Ask) (x : Ask) (others : List Ask) : Type 0 where
  pub value : (served_all c (asks ++ x ∷ [])).0 ≡ (served_all c others).0
  pub posts : Perm Post (served_all c (asks ++ x ∷ [])).1 (served_all c others).1

in_front : (c : ChannelValue) (asks : List Ask) (x : Ask) → IsMoved c asks x → IsLike c asks x (x ∷ asks)
in_front c asks x moved =
    let whole = served_all c asks in
    let e = served_all-append c asks x in
    let its = (served c x).1 in
    record {
      value = ap (λ (r : ChannelValue × List Post). r.0) e ∙ moved.value;
      posts = join (perm_of _ _ (ap (λ (r : ChannelValue × List Post). r.1) e ∙ ap (λ (posts : List Post). whole.1 ++ posts) (moved.last ∙ sym (append-nil its))))
          (join (perm_across whole.1 its []) (perm_of _ _ (ap (λ (posts : List Post). its ++ posts) (append-nil whole.1 ∙ sym moved.posts))));
    }

-- the lines of asks of greater ids are other ones than that of x
abbrev AreApartAbove : ChannelValue → Ask → List Ask → Type 0
AreApartAbove c x asks = Each (λ y. IsTrue (is_above (id_of y) (id_of x)) → AreApart c x y) asks

above_on : (c : ChannelValue) (x y : Ask) (asks : List Ask) → AreApartAbove c x asks → AreApartAbove (served c y).0 x asks
above_on c x y [] apart = tt
above_on c x y (z ∷ asks) apart = (λ above. apart_on c x y z (apart.0 above), above_on c x y asks apart.1)

all_apart : (c : ChannelValue) (x : Ask) (asks : List Ask) → Each (λ y. IsTrue (is_above (id_of y) (id_of x))) asks → AreApartAbove c x asks → AreAllApart c x asks
all_apart c x [] above apart = tt
all_apart c x (y ∷ asks) above apart = (apart.0 above.0, all_apart c x asks above.1 apart.1)

pub inserts : (c : ChannelValue) (asks : List Ask) (x : Ask) → AreRising asks → AreLast asks c → AreApartAbove c x asks → clash (served_all c asks).0 x ≡ None
    → IsLike c asks x (inserted x asks)
inserts c [] x rising last apart free = record { value = refl; posts = perm_same (served_all c (x ∷ [])).1 }
inserts c (y ∷ asks) x rising last apart free =
    insert_case x y asks (IsLike c (y ∷ asks) x)
    (λ stops.
    let above : Each (λ z. IsTrue (is_above (id_of z) (id_of x))) (y ∷ asks) = (stops, each_weaker (λ z k. above_trans (id_of z) (id_of y) (id_of x) k stops) asks rising.0) in
    in_front c (y ∷ asks) x (moves c (y ∷ asks) x rising above last (all_apart c x (y ∷ asks) above apart) free))
    (λ passes.
    let now = served c y in
    let rest = inserts now.0 asks x rising.1 (last_on c y asks last.1 rising.0) (above_on c x y asks apart.1) free in
    record { value = rest.value; posts = perm_behind now.1 rest.posts })

-- different lines of one bus have different places
same_line : (n l m : ℕ) → l / n ≡ m / n → l % n ≡ m % n → l ≡ m
same_line n l m quotients rests = sym (div-add-mod' l n) ∙ (λ i. quotients i * n + rests i) ∙ div-add-mod' m n

lines_apart : (n : ℕ) (above : Bool) (lx ly : Option ℕ) → ((line : ℕ) → lx ≡ Some line → ly ≡ Some line → above ≡ false) → above ≡ true
    → channel_of_line n lx ≡ channel_of_line n ly → AreLinesApart n lx ly
lines_apart n above None ly turn is same = tt
lines_apart n above (Some l) None turn is same = tt
lines_apart n above (Some l) (Some m) turn is same = λ e. let off = turn l refl (ap Some (sym (same_line n l m e same))) in absurd (cc)

channel_apart : (config : RawConfig) (place : ℕ) (c : ChannelValue) (x y : Ask) → HasSetting (setting_of config place) c → channel_of config.buses y ≡ channel_of config.buses x → IsLineInTurn y x
    → IsTrue (is_above (id_of y) (id_of x)) → AreApart c x y
channel_apart config place (AsBus b) x y own here turn above =
    lines_on config.buses b.setting.buses (ap (λ (s : SettingValue). s.buses) own) (line_of x) (line_of y)
    (lines_apart config.buses (is_above (id_of y) (id_of x)) (line_of x) (line_of y) turn above (sym here))
channel_apart config place (AsConsole c) x y own here turn above = tt

pub apart_above : (config : RawConfig) (place : ℕ) (c : ChannelValue) (x : Ask) (asks : List Ask) → HasSetting (setting_of config place) c
    → Each (λ y. channel_of config.buses y ≡ channel_of config.buses x) asks → Each (λ y. IsLineInTurn y x) asks → AreApartAbove c x asks
apart_above config place c x [] own here turn = tt
apart_above config place c x (y ∷ asks) own here turn = (channel_apart config place c x y own here.0 turn.0, apart_above config place c x asks own here.1 turn.1)
