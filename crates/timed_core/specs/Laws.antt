-- What is true of every core and every tick, whatever the code.
use Rattle.std.specs.Prelude.{ℕ, ◌+◌, ◌*◌, ◌≡◌, ◌<◌, List, [], ◌∷◌, Option, Some, None, All, length, filter, nat_lt, slice_index}
use Rattle.slack_base.specs.declared.configs.RawConfig.{RawConfig}
use Rattle.slack_base.specs.declared.messages.Ask.{Ask}
use Rattle.slack_base.specs.declared.messages.Post.{Post}
use Rattle.slack_base.specs.Inboxes.{CoreValue, with_put, tick_by}
use Rattle.slack_base.specs.Messages.{id_of, line_of}
use Rattle.slack_base.specs.Numbers.{lines_of}
use Rattle.mesi_cache.specs.Caches.{CacheValue, HasShape}
use Rattle.stamp_queue.specs.Inbox.{IsInOrder}
use Rattle.timed_core.specs.Code.{CodeValue}
use Rattle.timed_core.specs.Cores.{HartValue, first_core}
use Rattle.timed_core.specs.Ticks.{tick}

-- every line that the cache holds is one of so many
abbrev pub HoldsBelow : (lines : ℕ) → CacheValue → Type 0
HoldsBelow lines cache = All (λ set. All (λ l. l.line < lines) set) cache.sets

-- a cache of the configuration: it has its sets and ways, and holds lines of its memory alone
pub record IsCacheOf (config : RawConfig) (cache : CacheValue) : Type 0 where
  pub shape : HasShape config.sets config.ways cache
  pub lines : HoldsBelow (lines_of config) cache

-- a hart of the configuration: its number is below the cores, x0 is 0, it has a cache of the configuration, and a touch of
-- each of its sets
pub record IsSoundHart (config : RawConfig) (hart : HartValue) : Type 0 where
  pub number : hart.number < config.cores
  pub zero : slice_index hart.registers 0 ≡ 0
  pub cache : IsCacheOf config hart.cache
  pub touches : length hart.touches ≡ config.sets

-- a core of the configuration: its posts name lines of memory alone
pub record IsSoundCore (config : RawConfig) (core : CoreValue HartValue) : Type 0 where
  pub hart : IsSoundHart config core.inner
  pub posts : All (λ p. p.line < lines_of config) core.inbox

-- the line, if it is one at all, is one of so many
abbrev pub IsLineBelow : (lines : ℕ) → Option ℕ → Type 0
IsLineBelow lines None = Unit {0}
IsLineBelow lines (Some line) = line < lines

-- the asks have the ids (t, core, n), (t, core, n + 1) and so on, and name lines of memory alone
abbrev pub AreAsksFrom : (lines t core n : ℕ) → List Ask → Type 0
AreAsksFrom lines t core n [] = Unit {0}
AreAsksFrom lines t core n (ask ∷ asks) =
    (id_of ask ≡ record { cycle = t; core = core; number = n }) × IsLineBelow lines (line_of ask) × AreAsksFrom lines t core (n + 1) asks

-- a tick at clock t leaves a sound core of the same number and exactly the posts that are due later, in their order if
-- they were, and numbers its asks from 0
pub record IsTick (config : RawConfig) (t : ℕ) (before after : CoreValue HartValue) (sent : List Ask) : Type 0 where
  pub sound : IsSoundCore config after
  pub number : after.inner.number ≡ before.inner.number
  pub later : after.inbox ≡ filter (λ p. nat_lt t p.due) before.inbox
  pub in_order : IsInOrder before.inbox → IsInOrder after.inbox
  pub asks : AreAsksFrom (lines_of config) t before.inner.number 0 sent

-- every tick of a sound core, over a memory of the configuration's lines
abbrev pub AllTicks : Type 0
AllTicks =
    (code : CodeValue) (config : RawConfig) (t : ℕ) (core : CoreValue HartValue)
    → length code.bytes ≡ 16 * lines_of config → IsSoundCore config core
    → IsTick config t core (tick_by (tick code) t core).0 (tick_by (tick code) t core).1

-- a sound core stays sound where a post that names a line of memory comes in, and its posts stay in their order
pub record IsPut (config : RawConfig) (before after : CoreValue HartValue) : Type 0 where
  pub sound : IsSoundCore config after
  pub in_order : IsInOrder before.inbox → IsInOrder after.inbox

abbrev pub AllPuts : Type 0
AllPuts =
    (config : RawConfig) (core : CoreValue HartValue) (post : Post)
    → IsSoundCore config core → post.line < lines_of config → IsPut config core (with_put post core)

-- each core of the configuration is sound before the first cycle
abbrev pub AllStarts : Type 0
AllStarts =
    (config : RawConfig) (entry number : ℕ)
    → number < config.cores → IsSoundCore config (record { inner = first_core config entry number; inbox = [] })
