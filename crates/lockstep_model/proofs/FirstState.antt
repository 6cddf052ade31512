-- The state before the first cycle.
use Rattle.std.proofs.Common.{◌≡◌, ◌∙◌, ℕ, ◌+◌, ◌<◌, ◌≤◌, List, [], ◌∷◌, ◌++◌, None, map, length, refl, sym, ap, subst, arith, zero, suc}
use Rattle.std.specs.List.{All, range_with_len}
use Rattle.std.proofs.lemmas.List.{length-map, map-append}
use Rattle.std.proofs.lemmas.List.Elements.{All-nil, All-cons, All-append}
use Rattle.std.proofs.lemmas.List.FromFn.{length-range_with_len}
use Rattle.slack_base.specs.declared.configs.RawConfig.{RawConfig}
use Rattle.slack_base.specs.declared.images.Image.{Image}
use Rattle.slack_base.specs.declared.messages.Post.{Post}
use Rattle.slack_base.specs.Inboxes.{CoreValue}
use Rattle.slack_base.specs.Marks.{Marked}
use Rattle.first_memory.specs.Memory.{bytes_from}
use Rattle.bus_model.specs.Channels.{ChannelValue, AsBus, AsConsole, IsSound}
use Rattle.bus_model.specs.Closing.{closed}
use Rattle.bus_model.specs.Laws.{HasSetting}
use Rattle.bus_model.specs.Settings.{setting_of}
use Rattle.bus_model.specs.Starting.{first_bus}
use Rattle.timed_core.specs.Code.{CodeValue, code_of}
use Rattle.timed_core.specs.Cores.{HartValue}
use Rattle.timed_core.specs.Views.{MarkedCore}
use Rattle.timed_core.proofs.Lawful.{all_starts}
use Rattle.target_law.specs.Numbered.{AllNumbered}
use Rattle.target_law.specs.Proper.{IsCoreOf, IsChanOf}
use Rattle.lockstep_model.specs.Rules.{rules_of, owns_of, number_in}
use Rattle.lockstep_model.specs.Start.{first_core_value, first_console, IsFirstChannel}
use Rattle.lockstep_model.specs.Views.{cores_of, values_of}

-- one item more
pub numbered_more : {X : Type 0} (P : ℕ → X → Type 0) (n k : ℕ) (xs : List X) (x : X) → k ≡ n + length xs → AllNumbered P n xs → P k x → AllNumbered P n (xs ++ x ∷ [])
numbered_more P n k [] x e all is = let at : k ≡ n = omega arith in (subst (λ m. P m x) at is, tt)
numbered_more P n k (y ∷ xs) x e all is = (all.0, numbered_more P (n + 1) k xs x (omega arith) all.1 is)

-- one more that may be marked
pub values_more : {X : Type 0} (xs : List (Marked X)) (x : Marked X) (before : List X) (value : X) → values_of xs ≡ before → x.value ≡ value → values_of (xs ++ x ∷ []) ≡ before ++ value ∷ []
values_more xs x before value many one = map-append (λ y. y.value) xs (x ∷ []) ∙ ap (λ ys. ys ++ x.value ∷ []) many ∙ ap (λ y. before ++ y ∷ []) one

pub unmarked_more : {X : Type 0} (xs : List (Marked X)) (x : Marked X) → All (λ y. y.saved ≡ None) xs → x.saved ≡ None → All (λ y. y.saved ≡ None) (xs ++ x ∷ [])
unmarked_more xs x all one = All-append (λ y. y.saved ≡ None) xs (x ∷ []) all (All-cons (λ y. y.saved ≡ None) x [] one (All-nil (λ y. y.saved ≡ None)))

-- one core more
pub cores_more : (cores : List MarkedCore) (core : MarkedCore) (before : List (CoreValue HartValue)) (value : CoreValue HartValue)
    → cores_of cores ≡ before → core.value ≡ value → cores_of (cores ++ core ∷ []) ≡ before ++ value ∷ []
cores_more cores core before value many one =
    map-append (λ (x : MarkedCore). x.value) cores (core ∷ []) ∙ ap (λ xs. xs ++ core.value ∷ []) many ∙ ap (λ x. before ++ x ∷ []) one

pub cores_unmarked_more : (cores : List MarkedCore) (core : MarkedCore) → All (λ x. x.saved ≡ None) cores → core.saved ≡ None → All (λ x. x.saved ≡ None) (cores ++ core ∷ [])
cores_unmarked_more cores core all one =
    All-append (λ x. x.saved ≡ None) cores (core ∷ []) all (All-cons (λ x. x.saved ≡ None) core [] one (All-nil (λ (x : MarkedCore). x.saved ≡ None)))

count_of : (image : Image) (config : RawConfig) → length (code_of image config).bytes ≡ config.memory
unfolding bytes_from
count_of image config = length-map (range_with_len 0 config.memory) _ ∙ length-range_with_len 0 config.memory

-- the code of an image has all of memory
pub whole_code : (code : CodeValue) (image : Image) (config : RawConfig) → code ≡ code_of image config → length code.bytes ≡ config.memory
whole_code code image config e = ap (λ (c : CodeValue). length c.bytes) e ∙ count_of image config

-- the bus of a number is closed and has its setting
pub is_bus : (config : RawConfig) (image : Image) (number : ℕ) → IsSound (AsBus (first_bus config image number)) → IsFirstChannel config number (AsBus (first_bus config image number))
unfolding first_bus
is_bus config image number sound = record { setting = refl; sound = sound; is_closed = refl }

pub is_console : (config : RawConfig) (number : ℕ) → number ≡ config.buses → IsFirstChannel config number first_console
is_console config number e = record { setting = e; sound = tt; is_closed = refl }

module _ (config : RawConfig) (code : CodeValue) where
  first_core_is : (entry number : ℕ) → number < config.cores → IsCoreOf (rules_of config code) (owns_of config) number (first_core_value config entry number)
  first_core_is entry number low = record { own = (all_starts config entry number low).hart; number = refl; inbox = All-nil _ }

  -- the cores of so many numbers from one on
  pub first_cores_are : (entry n count : ℕ) → n + count ≤ config.cores → AllNumbered (IsCoreOf (rules_of config code) (owns_of config)) n (map (first_core_value config entry) (range_with_len n count))
  first_cores_are entry n zero room = tt
  first_cores_are entry n (suc count) room = (first_core_is entry n (omega arith), first_cores_are entry (n + 1) count (omega arith))

  same_number : (number : ℕ) (chan : ChannelValue) → HasSetting (setting_of config number) chan → number_in config chan ≡ number
  same_number number (AsBus b) h = ap (λ s. s.number) h
  same_number number (AsConsole c) h = sym h

  first_channel_is : (number : ℕ) (chan : ChannelValue) → IsFirstChannel config number chan → IsChanOf (rules_of config code) (owns_of config) number chan
  first_channel_is number chan is =
      let same = same_number number chan is.setting in
      record { own = record { setting = subst (λ n. HasSetting (setting_of config n) chan) (sym same) is.setting; sound = is.sound }; number = same }

  pub first_channels_are : (n : ℕ) (chans : List ChannelValue) → AllNumbered (IsFirstChannel config) n chans → AllNumbered (IsChanOf (rules_of config code) (owns_of config)) n chans
  first_channels_are n [] all = tt
  first_channels_are n (chan ∷ chans) all = (first_channel_is n chan all.0, first_channels_are (n + 1) chans all.1)

pub first_closed : (config : RawConfig) (n : ℕ) (chans : List ChannelValue) → AllNumbered (IsFirstChannel config) n chans → All (λ chan. closed chan ≡ chan) chans
first_closed config n [] all = All-nil (λ chan. closed chan ≡ chan)
first_closed config n (chan ∷ chans) all = All-cons (λ chan. closed chan ≡ chan) chan chans all.0.is_closed (first_closed config (n + 1) chans all.1)

pub none_waits : (config : RawConfig) (entry n count : ℕ) (P : Post → Type 0) → All (λ (core : CoreValue HartValue). All P core.inbox) (map (first_core_value config entry) (range_with_len n count))
none_waits config entry n zero P = All-nil (λ (core : CoreValue HartValue). All P core.inbox)
none_waits config entry n (suc count) P =
    All-cons (λ (core : CoreValue HartValue). All P core.inbox) (first_core_value config entry n) (map (first_core_value config entry) (range_with_len (n + 1) count))
    (All-nil P) (none_waits config entry (n + 1) count P)
