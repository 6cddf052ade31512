-- A post that names a line of memory is a step.
use Rattle.std.proofs.Common.{◌≡◌, ℕ, ◌<◌, Bool, true, false, Option, None, Some, refl}
use Rattle.std.specs.Option.{IfSome}
use Rattle.slack_base.specs.Numbers.{lines_of}
use Rattle.slack_base.specs.declared.configs.RawConfig.{RawConfig}
use Rattle.slack_base.specs.declared.stamps.Id.{Id}
use Rattle.slack_base.specs.declared.messages.Words.{Words}
use Rattle.slack_base.specs.declared.messages.PostKind.{PostKind}
use Rattle.slack_base.specs.declared.messages.PostKind.TheVariants.{Reply, Retry, SnoopShare, SnoopOwn, Invalidate}
use Rattle.mesi_cache.specs.declared.lines.CacheLine.{CacheLine}
use Rattle.mesi_cache.specs.Lines.{filled}
use Rattle.mesi_cache.specs.Caches.{fill_line, victim_of}
use Rattle.timed_core.specs.Cores.{HartValue}
use Rattle.timed_core.specs.Laws.{IsSoundHart}
use Rattle.timed_core.specs.Touches.{touched_at}
use Rattle.timed_core.specs.Posts.{without_reservation, is_modified, written_back, evicted, replied, snooped, given_up, applied}
use Rattle.timed_core.proofs.OwnCaches.{fill_holds, victim_below, snoop_holds}
use Rattle.timed_core.proofs.Steps.{IsStep, touched_sound}

module _ (config : RawConfig) (base : ℕ) (id : Id) where
  by_state : (victim : CacheLine) (core : HartValue) → IsSoundHart config core → victim.line < lines_of config → (modified : Bool) → is_modified victim.held ≡ modified → IsStep config core.number id (written_back victim id core)
  by_state victim core s low true is = rw is (record { sound = record { number = s.number; zero = s.zero; cache = s.cache; touches = s.touches }; same = refl; ask = (refl, low) })
  by_state victim core s low false is = rw is (record { sound = s; same = refl; ask = tt })

  evicted_step : (victim : Option CacheLine) (core : HartValue) → IsSoundHart config core → IfSome victim (λ l. l.line < lines_of config) → IsStep config core.number id (evicted base victim id core)
  unfolding evicted
  evicted_step None core s low = record { sound = s; same = refl; ask = tt }
  evicted_step (Some victim) core s low =
      by_state victim (without_reservation base victim.line core) (record { number = s.number; zero = s.zero; cache = s.cache; touches = s.touches }) low (is_modified victim.held) refl

  module _ (line : ℕ) (low : line < lines_of config) where
    replied_step : (exclusive : Bool) (words : Words) (core : HartValue) → IsSoundHart config core → IsStep config core.number id (replied base line exclusive words id core)
    unfolding replied
    replied_step exclusive words core s =
        let new = filled line exclusive words in
        evicted_step (victim_of core.cache new) (record core { cache = fill_line core.cache new; waiting = false })
        (record { number = s.number; zero = s.zero; cache = fill_holds config core.cache new low s.cache; touches = s.touches })
        (victim_below config core.cache new low s.cache)

    snooped_sound : (own : Bool) (core : HartValue) → IsSoundHart config core → IsSoundHart config (snooped line own core)
    snooped_sound own core s = record { number = s.number; zero = s.zero; cache = snoop_holds config core.cache line own s.cache; touches = s.touches }

    given_up_sound : (core : HartValue) → IsSoundHart config core → IsSoundHart config (given_up base line core)
    given_up_sound core s = record { number = s.number; zero = s.zero; cache = snoop_holds config core.cache line true s.cache; touches = s.touches }

  pub applied_step : (line : ℕ) (core : HartValue) → IsSoundHart config core → line < lines_of config → (kind : PostKind) → IsStep config core.number id (applied kind base line id core)
  unfolding applied
  applied_step line core s low kind =
      let touched = touched_at id.cycle line core in
      let sound : IsSoundHart config touched = touched_sound config id.cycle line core s in
      elim kind as (λ k. IsStep config core.number id (applied k base line id core)) [
        | Reply exclusive words ↦ replied_step line low exclusive words touched sound
        | Retry ↦ record { sound = record { number = s.number; zero = s.zero; cache = s.cache; touches = s.touches }; same = refl; ask = tt }
        | SnoopShare ↦ record { sound = snooped_sound line low false touched sound; same = refl; ask = (refl, low) }
        | SnoopOwn ↦ record { sound = given_up_sound line low touched sound; same = refl; ask = (refl, low) }
        | Invalidate ↦ record { sound = given_up_sound line low core s; same = refl; ask = tt }
      ]
