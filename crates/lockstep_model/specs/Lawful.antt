-- The RISC-V machine keeps to the laws of targets.
use Rattle.std.proofs.Common.{◌≡◌, ◌∙◌, ℕ, ◌+◌, ◌*◌, ◌%◌, ◌<◌, ◌≤◌, ◌&&◌, List, [], ◌∷◌, ◌++◌, length, Bool, true, false, cond, Option, Some, None, nat_lt, nat_le, IsTrue, refl, sym, ap, subst, arith}
use Rattle.std.specs.List.{All, AllByRecursion as Each}
use Rattle.std.proofs.Math.Nat.{mod-lt}
use Rattle.std.proofs.lemmas.Bool.Decides.{nat_tests}
use Rattle.std.proofs.lemmas.List.Elements.{All-nil, All-cons, All-weaker}
use Rattle.slack_base.specs.Bounds.{is_among}
use Rattle.slack_base.specs.declared.bounds.TheConstants.{TOP}
use Rattle.slack_base.specs.declared.configs.RawConfig.{RawConfig}
use Rattle.slack_base.specs.declared.messages.Ask.{Ask}
use Rattle.slack_base.specs.declared.messages.Post.{Post}
use Rattle.slack_base.specs.declared.stamps.Id.{Id}
use Rattle.slack_base.specs.Inboxes.{CoreValue}
use Rattle.slack_base.specs.Messages.{id_of, line_of}
use Rattle.slack_base.specs.Numbers.{lines_of}
use Rattle.bus_model.specs.Asks.{IsProperAsk as IsBusAsk, IsLine, channel_of_line, channel_of}
use Rattle.bus_model.specs.Channels.{ChannelValue, AsBus, AsConsole}
use Rattle.bus_model.specs.Closing.{clash, closed}
use Rattle.bus_model.specs.Laws.{IsSlowMemory, HasSetting, lookahead_of}
use Rattle.bus_model.specs.Laws.{IsPostOf as IsBusPost}
use Rattle.bus_model.specs.Serving.{served, served_all as bus_served_all}
use Rattle.bus_model.specs.Settings.{delays_of, setting_of}
use Rattle.bus_model.proofs.Lawful.{channels-lawful}
use Rattle.bus_model.specs.ClosingLaws.{IsLast}
use Rattle.bus_model.proofs.ClosingLaws.{closes as bus_closes, reopens as bus_reopens, stays_last}
use Rattle.timed_core.specs.Code.{CodeValue}
use Rattle.timed_core.specs.Cores.{HartValue}
use Rattle.timed_core.specs.Laws.{IsTick as IsCoreTick, IsLineBelow, AreAsksFrom}
use Rattle.timed_core.proofs.Lawful.{all_ticks}
use Rattle.target_law.specs.Cycles.{tick_of}
use Rattle.target_law.specs.Laws.{Laws, AreIds, IsTick, IsServing, IsPostOf, IsFreeAfter, IsNext, IsCommuting, IsClosing}
use Rattle.target_law.specs.Proper.{IsProperAsk, IsPostTo, IsCoreOf, IsChanOf}
use Rattle.target_law.specs.Served.{join, inserted, served_all}
use Rattle.violation_watch.proofs.Perms.{perm_of}
use Rattle.lockstep_model.specs.Rules.{rules_of, owns_of, is_line, number_in}
use Rattle.lockstep_model.specs.Commuting.{inserts, closed_all, apart_above}
use Rattle.lockstep_model.specs.Unseen.{unseen}

-- the code and the configuration of one machine
pub record IsMachine (config : RawConfig) (code : CodeValue) : Type 0 where
  pub cores : 1 ≤ config.cores
  pub buses : 1 ≤ config.buses
  pub memory : length code.bytes ≡ 16 * lines_of config
  pub slow : IsSlowMemory (delays_of config)
  pub soon : 1 ≤ lookahead_of (delays_of config)
  pub sets : 1 ≤ config.sets

some_buses : (buses : ℕ) → IsTrue (is_among buses (1 ∷ 2 ∷ 4 ∷ [])) → 1 ≤ buses
some_buses buses among = grind (arith, nat_tests)

some_sets : (sets : ℕ) → IsTrue (is_among sets (1 ∷ 2 ∷ 4 ∷ 8 ∷ 16 ∷ 32 ∷ 64 ∷ [])) → 1 ≤ sets
some_sets sets among = grind (arith, nat_tests)

-- what the bounds of a configuration say of its machine
pub machine_from : (config : RawConfig) (code : CodeValue) → 1 ≤ config.cores → IsTrue (is_among config.buses (1 ∷ 2 ∷ 4 ∷ [])) → IsTrue (is_among config.sets (1 ∷ 2 ∷ 4 ∷ 8 ∷ 16 ∷ 32 ∷ 64 ∷ [])) → config.memory % 4096 ≡ 0 → length code.bytes ≡ config.memory
    → config.snoop + 1 ≤ config.memory_delay → 1 ≤ config.snoop → 1 ≤ config.transfer → IsMachine config code
machine_from config code cores buses sets pages whole late snoop transfer = record {
  cores = cores;
  buses = some_buses config.buses buses;
  sets = some_sets config.sets sets;
  memory = omega arith;
  slow = omega arith;
  soon = omega arith;
}

both_true : (x y : Bool) → (x && y) ≡ true → (x ≡ true) × (y ≡ true)
both_true true y h = (refl, h)
both_true false y h = absurd (cc)

true_both : (x y : Bool) → x ≡ true → y ≡ true → (x && y) ≡ true
true_both x y h k = cc

lt_of : (m n : ℕ) → nat_lt m n ≡ true → m < n
lt_of m n h = grind (arith, nat_tests)

le_of : (m n : ℕ) → nat_le m n ≡ true → m ≤ n
le_of m n h = grind (arith, nat_tests)

lt_is : (m n : ℕ) → m < n → nat_lt m n ≡ true
lt_is m n h = grind (arith, nat_tests)

le_is : (m n : ℕ) → m ≤ n → nat_le m n ≡ true
le_is m n h = grind (arith, nat_tests)

line_of_test : (config : RawConfig) (line : Option ℕ) → is_line config line ≡ true → IsLine (lines_of config) line
line_of_test config None h = tt
line_of_test config (Some line) h = lt_of line (lines_of config) h

test_of_line : (config : RawConfig) (line : Option ℕ) → IsLineBelow (lines_of config) line → is_line config line ≡ true
test_of_line config None h = refl
test_of_line config (Some line) h = lt_is line (lines_of config) h

channel_below : (buses : ℕ) (line : Option ℕ) → 1 ≤ buses → channel_of_line buses line < buses + 1
channel_below buses None some = omega arith
channel_below buses (Some line) some = let low = mod-lt line some in omega arith

module _ (config : RawConfig) (code : CodeValue) (machine : IsMachine config code) where
  bus_ask : (ask : Ask) → IsProperAsk (rules_of config code) ask → IsBusAsk config.cores (lines_of config) ask
  bus_ask ask h =
      let parts = both_true (nat_lt (id_of ask).core config.cores) (nat_le (id_of ask).cycle TOP && is_line config (line_of ask)) h in
      let more = both_true (nat_le (id_of ask).cycle TOP) (is_line config (line_of ask)) parts.1 in
      record { core = lt_of (id_of ask).core config.cores parts.0; cycle = le_of (id_of ask).cycle TOP more.0; line = line_of_test config (line_of ask) more.1 }

  proper_ask : (ask : Ask) → (id_of ask).core < config.cores → (id_of ask).cycle ≤ TOP → IsLineBelow (lines_of config) (line_of ask) → IsProperAsk (rules_of config code) ask
  proper_ask ask core cycle line =
      true_both (nat_lt (id_of ask).core config.cores) (nat_le (id_of ask).cycle TOP && is_line config (line_of ask)) (lt_is (id_of ask).core config.cores core)
      (true_both (nat_le (id_of ask).cycle TOP) (is_line config (line_of ask)) (le_is (id_of ask).cycle TOP cycle) (test_of_line config (line_of ask) line))

  asks_proper : (t core n : ℕ) (asks : List Ask) → core < config.cores → t ≤ TOP → AreAsksFrom (lines_of config) t core n asks → All (IsProperAsk (rules_of config code)) asks
  asks_proper t core n [] low early are = All-nil (IsProperAsk (rules_of config code))
  asks_proper t core n (ask ∷ asks) low early are =
      All-cons (IsProperAsk (rules_of config code)) ask asks
      (proper_ask ask (subst (λ (id : Id). id.core < config.cores) (sym are.0) low) (subst (λ (id : Id). id.cycle ≤ TOP) (sym are.0) early) are.1)
      (asks_proper t core (n + 1) asks low early are.2)

  asks_numbered : (t core place n : ℕ) (asks : List Ask) → core ≡ place → AreAsksFrom (lines_of config) t core n asks → AreIds t place n asks
  asks_numbered t core place n [] e are = tt
  asks_numbered t core place n (ask ∷ asks) e are = (are.0 ∙ (λ i. record { cycle = t; core = e i; number = n }), asks_numbered t core place (n + 1) asks e are.2)

  core_tick : (t place : ℕ) (core : CoreValue HartValue) → IsCoreOf (rules_of config code) (owns_of config) place core
      → IsCoreTick config t core (tick_of (rules_of config code) t core).0 (tick_of (rules_of config code) t core).1
  core_tick t place core is =
      all_ticks code config t core machine.memory (record {
        hart = is.own;
        posts = All-weaker (IsPostTo (rules_of config code) place) (λ p. p.line < lines_of config)
            (λ p to. lt_of p.line (lines_of config) (both_true (nat_lt p.to config.cores) (nat_lt p.line (lines_of config)) to.proper).1) core.inbox is.inbox;
      })

  ticks : (t place : ℕ) (core : CoreValue HartValue) → t ≤ TOP → IsCoreOf (rules_of config code) (owns_of config) place core → IsTick (rules_of config code) (owns_of config) t place core
  ticks t place core early is =
      let law = core_tick t place core is in
      record {
        own = law.sound.hart;
        number = law.number ∙ is.number;
        proper = asks_proper t core.inner.number 0 (tick_of (rules_of config code) t core).1 is.own.number early law.asks;
        ids = asks_numbered t core.inner.number place 0 (tick_of (rules_of config code) t core).1 is.number law.asks;
      }

  line_test : (ask : Ask) (line : ℕ) → Some line ≡ line_of ask → IsLine (lines_of config) (line_of ask) → line < lines_of config
  line_test ask line e is = subst (IsLine (lines_of config)) (sym e) is

  post_of : (place : ℕ) (ask : Ask) (p : Post) → IsBusAsk config.cores (lines_of config) ask → IsBusPost (setting_of config place) ask p → IsPostOf (rules_of config code) ask p
  post_of place ask p proper post = record {
    proper = true_both (nat_lt p.to config.cores) (nat_lt p.line (lines_of config)) (lt_is p.to config.cores post.to) (lt_is p.line (lines_of config) (line_test ask p.line post.line proper.line));
    id = post.id;
    due = post.due;
  }

  same_number : (place : ℕ) (chan : ChannelValue) → HasSetting (setting_of config place) chan → number_in config chan ≡ place
  same_number place (AsBus b) h = ap (λ s. s.number) h
  same_number place (AsConsole c) h = sym h

  own_channel : (place : ℕ) (chan : ChannelValue) → HasSetting (setting_of config place) chan → HasSetting (setting_of config (number_in config chan)) chan
  own_channel place chan h = subst (λ n. HasSetting (setting_of config n) chan) (sym (same_number place chan h)) h

  set_at : (place : ℕ) (chan : ChannelValue) → IsChanOf (rules_of config code) (owns_of config) place chan → HasSetting (setting_of config place) chan
  set_at place chan is = subst (λ n. HasSetting (setting_of config n) chan) is.number is.own.setting

  serves : (chan : ChannelValue) (ask : Ask) → IsProperAsk (rules_of config code) ask → IsChanOf (rules_of config code) (owns_of config) (channel_of config.buses ask) chan
      → IsServing (rules_of config code) (owns_of config) (channel_of config.buses ask) chan ask
  serves chan ask proper is =
      let place = channel_of config.buses ask in
      let asked = bus_ask ask proper in
      let law = channels-lawful (setting_of config place) chan ask machine.slow is.own.sound (set_at place chan is) (record { proper = asked; own = refl }) in
      record {
        own = record { setting = own_channel place (served chan ask).0 law.same; sound = law.sound };
        number = same_number place (served chan ask).0 law.same;
        posts = All-weaker (IsBusPost (setting_of config place) ask) (IsPostOf (rules_of config code) ask) (λ p post. post_of place ask p asked post) (served chan ask).1 law.posts;
        once = law.once;
      }

  closes : (place : ℕ) (chan : ChannelValue) → IsChanOf (rules_of config code) (owns_of config) place chan → IsChanOf (rules_of config code) (owns_of config) place (closed chan)
  closes place chan is =
      let law = bus_closes (setting_of config place) chan is.own.sound (set_at place chan is) in
      record { own = record { setting = own_channel place (closed chan) law.same; sound = law.sound }; number = same_number place (closed chan) law.same }

  closes_once : (place : ℕ) (chan : ChannelValue) → IsChanOf (rules_of config code) (owns_of config) place chan → closed (closed chan) ≡ closed chan
  closes_once place chan is = (bus_closes (setting_of config place) chan is.own.sound (set_at place chan is)).once

  -- serving one after another is the same by the rules and by the channels' own definition
  same_all : (chan : ChannelValue) (asks : List Ask) → served_all (rules_of config code) chan asks ≡ bus_served_all chan asks
  same_all chan [] = refl
  same_all chan (ask ∷ asks) = ap (λ (rest : ChannelValue × List Post). (rest.0, (served chan ask).1 ++ rest.1)) (same_all (served chan ask).0 asks)

  commutes : (chan : ChannelValue) (asks : List Ask) (x : Ask) → IsFreeAfter (rules_of config code) (owns_of config) chan asks x → IsCommuting (rules_of config code) chan asks x
  commutes chan asks x is =
      let place = channel_of config.buses x in
      let free : clash (bus_served_all chan asks).0 x ≡ None = ap (λ (s : ChannelValue × List Post). clash s.0 x) (sym (same_all chan asks)) ∙ is.free in
      let like = inserts chan asks x is.rising (closed_all chan asks is.since.closed)
      (apart_above config place chan x asks (set_at place chan is.since.own) is.since.here is.lines) free in
      let last = same_all chan (asks ++ x ∷ []) in
      let placed = same_all chan (inserted x asks) in
      record {
        value = ap (λ (s : ChannelValue × List Post). s.0) last ∙ like.value ∙ sym (ap (λ (s : ChannelValue × List Post). s.0) placed);
        posts = join (perm_of _ _ (ap (λ (s : ChannelValue × List Post). s.1) last)) (join like.posts (perm_of _ _ (sym (ap (λ (s : ChannelValue × List Post). s.1) placed))));
      }

  reopens : (chan : ChannelValue) (asks : List Ask) (x : Ask) → IsNext (rules_of config code) (owns_of config) chan asks x → IsClosing (rules_of config code) (served_all (rules_of config code) chan asks).0 x
  reopens chan asks x is =
      let last = subst (λ (s : ChannelValue × List Post). IsLast x s.0) (sym (same_all chan asks)) (stays_last chan asks x is.since.closed is.above) in
      let law = bus_reopens (served_all (rules_of config code) chan asks).0 x last in
      record { free = law.free; posts = law.posts; value = law.value }

  pub lawful : Laws (rules_of config code) (owns_of config)
  lawful = record {
    some_cores = machine.cores;
    some_channels = omega arith;
    soon = machine.soon;
    asks = λ ask is. let bus = bus_ask ask is in record { core = bus.core; channel = channel_below config.buses (line_of ask) machine.buses; cycle = bus.cycle };
    posts = λ p is. lt_of p.to config.cores (both_true (nat_lt p.to config.cores) (nat_lt p.line (lines_of config)) is).0;
    ticks = ticks;
    serves = serves;
    closes = closes;
    closes_once = closes_once;
    commutes = commutes;
    reopens = reopens;
    unseen = unseen config code machine.sets;
  }
