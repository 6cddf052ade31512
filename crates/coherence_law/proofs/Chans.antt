-- The channels in the midst of a cycle: which entry each line has.
use Rattle.std.proofs.Common.{◌≡◌, ◌≢◌, ◌∙◌, ℕ, zero, suc, ◌+◌, ◌*◌, ◌/◌, ◌%◌, ◌<◌, ◌≤◌, Option, None, Some, List, [], ◌∷◌, map, slice_get, refl, sym, ap, inl, inr, arith, div-add-mod'}
use Rattle.std.specs.Prelude.{slice_set}
use Rattle.std.proofs.lemmas.Bool.{cases_eq, eq-eqb}
use Rattle.std.proofs.Math.Nat.{mod-lt}
use Rattle.slack_base.specs.declared.configs.RawConfig.{RawConfig}
use Rattle.slack_base.specs.declared.messages.Ask.{Ask}
use Rattle.slack_base.specs.declared.messages.Post.{Post}
use Rattle.slack_base.specs.Messages.{id_of, line_of}
use Rattle.status_map.specs.declared.views.EntryView.{EntryView}
use Rattle.status_map.specs.Table.{serve}
use Rattle.bus_model.specs.Asks.{channel_of, channel_of_line}
use Rattle.bus_model.specs.Channels.{BusValue, ConsoleValue, ChannelValue, AsBus, AsConsole, found_entry}
use Rattle.bus_model.specs.Closing.{bus_closed, closed}
use Rattle.bus_model.specs.Serving.{bus_served, console_served, served}
use Rattle.bus_model.specs.Settings.{SettingValue, delays_of, setting_of}
use Rattle.target_law.specs.Cycles.{changed_at, seen_at}
use Rattle.coherence_law.proofs.Grants.{IsGranted, bus_granted}

module _ {X : Type 0} (f : X → X) where
  pub get_changed : (n : ℕ) (xs : List X) (x : X) → slice_get xs n ≡ Some x → slice_get (changed_at n f xs) n ≡ Some (f x)
  get_changed n [] x h = absurd (cc)
  get_changed zero (y ∷ xs) x h = let e : y ≡ x = cc in ap (λ z. Some (f z)) e
  get_changed (suc n) (y ∷ xs) x h = get_changed n xs x h

  pub get_off : (n k : ℕ) (xs : List X) → k ≢ n → slice_get (changed_at n f xs) k ≡ slice_get xs k
  get_off n k [] h = refl
  get_off zero zero (y ∷ xs) h = absurd (h refl)
  get_off zero (suc k) (y ∷ xs) h = refl
  get_off (suc n) zero (y ∷ xs) h = refl
  get_off (suc n) (suc k) (y ∷ xs) h = get_off n k xs (λ e. h (ap suc e))

  get_mapped : (n : ℕ) (xs : List X) (x : X) → slice_get xs n ≡ Some x → slice_get (map f xs) n ≡ Some (f x)
  get_mapped n [] x h = absurd (cc)
  get_mapped zero (y ∷ xs) x h = let e : y ≡ x = cc in ap (λ z. Some (f z)) e
  get_mapped (suc n) (y ∷ xs) x h = get_mapped n xs x h

seen_there : {X Y : Type 0} (g : X → Y) (past : Y) (n : ℕ) (xs : List X) (x : X) → slice_get xs n ≡ Some x → seen_at n g past xs ≡ g x
seen_there g past n [] x h = absurd (cc)
seen_there g past zero (y ∷ xs) x h = let e : y ≡ x = cc in ap g e
seen_there g past (suc n) (y ∷ xs) x h = seen_there g past n xs x h

module _ {X : Type 0} where
  get_set : (xs : List X) (n : ℕ) (x y : X) → slice_get xs n ≡ Some y → slice_get (slice_set xs n x) n ≡ Some x
  get_set [] n x y h = absurd (cc)
  get_set (z ∷ xs) zero x y h = refl
  get_set (z ∷ xs) (suc n) x y h = get_set xs n x y h

  get_set_off : (xs : List X) (n k : ℕ) (x : X) → k ≢ n → slice_get (slice_set xs n x) k ≡ slice_get xs k
  get_set_off [] n k x h = refl
  get_set_off (z ∷ xs) zero zero x h = absurd (h refl)
  get_set_off (z ∷ xs) zero (suc k) x h = refl
  get_set_off (z ∷ xs) (suc n) zero x h = refl
  get_set_off (z ∷ xs) (suc n) (suc k) x h = get_set_off xs n k x (λ e. h (ap suc e))

-- the entry of a line
pub record HasEntry (config : RawConfig) (chans : List ChannelValue) (l : ℕ) (e : EntryView) : Type 0 where
  pub bus : BusValue
  pub at : slice_get chans (l % config.buses) ≡ Some (AsBus bus)
  pub same : bus.setting ≡ setting_of config (l % config.buses)
  pub its : slice_get bus.entries (l / config.buses) ≡ Some e

pub record HasConsole (config : RawConfig) (chans : List ChannelValue) : Type 0 where
  pub console : ConsoleValue
  pub at : slice_get chans config.buses ≡ Some (AsConsole console)

abbrev bus_in : BusValue → ChannelValue → BusValue
bus_in d (AsBus b) = b
bus_in d (AsConsole c) = d

abbrev in_some : {X : Type 0} → X → Option X → X
in_some d None = d
in_some d (Some x) = x

same_bus : (a b : BusValue) → Some (AsBus a) ≡ Some (AsBus b) → a ≡ b
same_bus a b e = ap (λ o. bus_in a (in_some (AsBus a) o)) e

same_line : (n l k : ℕ) → l / n ≡ k / n → l % n ≡ k % n → l ≡ k
same_line n l k q r = sym (div-add-mod' l n) ∙ ap (λ x. x * n + l % n) q ∙ ap (λ x. k / n * n + x) r ∙ div-add-mod' k n

-- the channels after an ask, and the posts
abbrev pub chans_after : RawConfig → List ChannelValue → Ask → List ChannelValue
chans_after config chans ask = changed_at (channel_of config.buses ask) (λ chan. (served chan ask).0) chans

abbrev pub posts_of : RawConfig → List ChannelValue → Ask → List Post
posts_of config chans ask = seen_at (channel_of config.buses ask) (λ chan. (served chan ask).1) [] chans

-- what the channels are after an ask for a line
pub record IsAsked (config : RawConfig) (chans : List ChannelValue) (ask : Ask) (la : ℕ) (e : EntryView) : Type 0 where
  pub grant : ℕ
  pub soon : (id_of ask).cycle ≤ grant
  pub posts : posts_of config chans ask ≡ (serve (delays_of config) grant ask e).posts
  pub own : HasEntry config (chans_after config chans ask) la (serve (delays_of config) grant ask e).entry
  pub others : (l : ℕ) (f : EntryView) → l ≢ la → HasEntry config chans l f → HasEntry config (chans_after config chans ask) l f
  pub console : 0 < config.buses → HasConsole config chans → HasConsole config (chans_after config chans ask)

module _ (config : RawConfig) (chans : List ChannelValue) (ask : Ask) (la : ℕ) (e : EntryView) (is : line_of ask ≡ Some la) (h : HasEntry config chans la e) where
  abbrev place : ℕ
  place = channel_of config.buses ask

  abbrev after : List ChannelValue
  after = chans_after config chans ask

  abbrev now : BusValue
  now = (bus_served h.bus ask).0

  on_bus : place ≡ la % config.buses
  on_bus = ap (channel_of_line config.buses) is

  here : slice_get chans place ≡ Some (AsBus h.bus)
  here = ap (slice_get chans) on_bus ∙ h.at

  grants : IsGranted (setting_of config (la % config.buses)) h.bus ask la e (bus_served h.bus ask)
  grants =
      bus_granted (setting_of config (la % config.buses)) h.bus ask la e is h.same
      (ap (λ (s : SettingValue). slice_get h.bus.entries (la / s.buses)) h.same ∙ h.its)

  chan_is : slice_get after (la % config.buses) ≡ Some (AsBus now)
  unfolding served
  chan_is = ap (slice_get after) (sym on_bus) ∙ get_changed (λ chan. (served chan ask).0) place chans (AsBus h.bus) here

  posts_are : posts_of config chans ask ≡ (serve (delays_of config) grants.grant ask e).posts
  unfolding served
  posts_are = seen_there (λ chan. (served chan ask).1) [] place chans (AsBus h.bus) here ∙ grants.posts

  own_line : HasEntry config after la (serve (delays_of config) grants.grant ask e).entry
  own_line = record {
    bus = now;
    at = chan_is;
    same = grants.setting;
    its = ap (λ es. slice_get es (la / config.buses)) grants.entries ∙ get_set h.bus.entries (la / config.buses) _ e h.its;
  }

  other_line : (l : ℕ) (f : EntryView) → l ≢ la → HasEntry config chans l f → HasEntry config after l f
  other_line l f n other = elim (cases_eq (l % config.buses) (la % config.buses)) [
    | inl r ↦
        let same : other.bus ≡ h.bus = same_bus other.bus h.bus (sym other.at ∙ ap (slice_get chans) r ∙ h.at) in
        record {
          bus = now;
          at = ap (slice_get after) r ∙ chan_is;
          same = grants.setting ∙ ap (setting_of config) (sym r);
          its = ap (λ es. slice_get es (l / config.buses)) grants.entries
              ∙ get_set_off h.bus.entries (la / config.buses) (l / config.buses) _ (λ q. n (same_line config.buses l la q r))
              ∙ ap (λ (b : BusValue). slice_get b.entries (l / config.buses)) (sym same) ∙ other.its;
        }
    | inr m ↦ record {
      bus = other.bus;
      at = get_off (λ chan. (served chan ask).0) place (l % config.buses) chans (λ g. m (g ∙ on_bus)) ∙ other.at;
      same = other.same;
      its = other.its;
    }
  ]

  still_console : 0 < config.buses → HasConsole config chans → HasConsole config after
  still_console some c = record {
    console = c.console;
    at = get_off (λ chan. (served chan ask).0) place config.buses chans (λ g. let low = mod-lt la some in let f : config.buses ≡ la % config.buses = g ∙ on_bus in absurd (omega arith)) ∙ c.at;
  }

  pub asked_line : IsAsked config chans ask la e
  asked_line = record { grant = grants.grant; soon = grants.soon; posts = posts_are; own = own_line; others = other_line; console = still_console }

-- what they are after a byte for the console
pub record IsPut (config : RawConfig) (chans : List ChannelValue) (ask : Ask) : Type 0 where
  pub posts : posts_of config chans ask ≡ []
  pub lines : (l : ℕ) (f : EntryView) → HasEntry config chans l f → HasEntry config (chans_after config chans ask) l f
  pub console : HasConsole config (chans_after config chans ask)

pub asked_console : (config : RawConfig) (chans : List ChannelValue) (ask : Ask) → line_of ask ≡ None → 0 < config.buses → HasConsole config chans → IsPut config chans ask
unfolding served
asked_console config chans ask is some h =
    let place = channel_of config.buses ask in
    let on : place ≡ config.buses = ap (channel_of_line config.buses) is in
    let here : slice_get chans place ≡ Some (AsConsole h.console) = ap (slice_get chans) on ∙ h.at in
    record {
      posts = seen_there (λ chan. (served chan ask).1) [] place chans (AsConsole h.console) here;
      lines = λ l f has. record {
        bus = has.bus;
        at = get_off (λ chan. (served chan ask).0) place (l % config.buses) chans (λ g. let low = mod-lt l some in let f : l % config.buses ≡ config.buses = g ∙ on in absurd (omega arith)) ∙ has.at;
        same = has.same;
        its = has.its;
      };
      console = record {
        console = console_served h.console ask;
        at = ap (slice_get (chans_after config chans ask)) (sym on) ∙ get_changed (λ chan. (served chan ask).0) place chans (AsConsole h.console) here;
      };
    }

-- closing changes no entry
module _ (config : RawConfig) (chans : List ChannelValue) where
  pub entry_closed : (l : ℕ) (e : EntryView) → HasEntry config chans l e → HasEntry config (map closed chans) l e
  entry_closed l e h = record {
    bus = bus_closed h.bus;
    at = get_mapped closed (l % config.buses) chans (AsBus h.bus) h.at;
    same = h.same;
    its = h.its;
  }

  pub console_closed : HasConsole config chans → HasConsole config (map closed chans)
  console_closed h = record { console = record h.console { highest = None }; at = get_mapped closed config.buses chans (AsConsole h.console) h.at }

-- a bus that has the line finds its entry
pub entry_found : (config : RawConfig) (chans : List ChannelValue) (l : ℕ) (e : EntryView) (h : HasEntry config chans l e) → found_entry (AsBus h.bus) l ≡ Some e
entry_found config chans l e h =
    let buses : h.bus.setting.buses ≡ config.buses = ap (λ (s : SettingValue). s.buses) h.same in
    let number : h.bus.setting.number ≡ l % config.buses = ap (λ (s : SettingValue). s.number) h.same in
    let own : l % h.bus.setting.buses ≡ h.bus.setting.number = ap (λ n. l % n) buses ∙ sym number in
    rw (eq-eqb (l % h.bus.setting.buses) h.bus.setting.number own) (ap (λ n. slice_get h.bus.entries (l / n)) buses ∙ h.its)
