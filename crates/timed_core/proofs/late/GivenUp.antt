-- A line that another core takes: it may leave before or after what happens in another set.
use Rattle.std.proofs.Common.{◌≡◌, ◌∙◌, ℕ, ◌==◌, ◌≤◌, Bool, true, false, Option, None, Some, length, refl, ap}
use Rattle.std.specs.Option.{option_map}
use Rattle.slack_base.specs.declared.stamps.Id.{Id}
use Rattle.slack_base.specs.declared.messages.Ask.{Ask}
use Rattle.slack_base.specs.declared.messages.Ask.TheVariants.{Flush}
use Rattle.slack_base.specs.declared.messages.Words.{Words}
use Rattle.slack_base.specs.declared.messages.PostKind.{PostKind}
use Rattle.slack_base.specs.declared.messages.PostKind.TheVariants.{Reply, Retry, SnoopShare, SnoopOwn, Invalidate}
use Rattle.mesi_cache.specs.declared.lines.CacheLine.{CacheLine}
use Rattle.mesi_cache.specs.Lines.{filled}
use Rattle.mesi_cache.specs.Sets.{fill_set, snoop_set}
use Rattle.mesi_cache.specs.Caches.{CacheValue, fill_line, victim_of}
use Rattle.timed_core.specs.Cores.{HartValue, line_number}
use Rattle.timed_core.specs.Posts.{kept, without_reservation, is_modified, written_back, evicted, replied, snooped, given_up, flush_of, applied}
use Rattle.timed_core.specs.Touches.{touched_at}
use Rattle.timed_core.proofs.late.Touched.{posted}
use Rattle.timed_core.proofs.late.Places.{IsApart, AreOther, changed_other, line_other, victim_other, leaves_comm}

-- the line, if there is one, is of another set
abbrev pub IsOther : CacheValue → Option ℕ → ℕ → Type 0
IsOther c m line = IsApart (length c.sets) m line

kept_comm : (base m line : ℕ) (r : Option ℕ) → kept base m (kept base line r) ≡ kept base line (kept base m r)
kept_comm base m line None = refl
kept_comm base m line (Some a) =
    elim (line_number base a == line) as (λ b. (line_number base a == line) ≡ b → kept base m (kept base line (Some a)) ≡ kept base line (kept base m (Some a))) [
      | true ↦ λ on. elim (line_number base a == m) as (λ b. (line_number base a == m) ≡ b → kept base m (kept base line (Some a)) ≡ kept base line (kept base m (Some a))) [
        | true ↦ λ too. rw (on, too) refl
        | false ↦ λ off. rw (on, off, on) refl
      ] refl
      | false ↦ λ off. elim (line_number base a == m) as (λ b. (line_number base a == m) ≡ b → kept base m (kept base line (Some a)) ≡ kept base line (kept base m (Some a))) [
        | true ↦ λ too. rw (off, too) refl
        | false ↦ λ nor. rw (off, nor, off) refl
      ] refl
    ] refl

module _ (base line : ℕ) where
  -- the core without the line
  abbrev pub less : HartValue → HartValue
  less core = given_up base line core

  -- what happens to a core happens to it without the line in the same way
  abbrev pub Passes : (HartValue → HartValue × Option Ask) → HartValue → Type 0
  Passes f core = f (less core) ≡ (less (f core).0, (f core).1)

  module _ (id : Id) where
    by_state : (victim : CacheLine) (core : HartValue) (modified : Bool) → is_modified victim.held ≡ modified → Passes (λ c. written_back victim id c) core
    by_state victim core true is = rw is refl
    by_state victim core false is = rw is refl

    evicted_passes : (victim : Option CacheLine) (core : HartValue) → Passes (λ c. evicted base victim id c) core
    unfolding evicted
    evicted_passes None core = refl
    evicted_passes (Some victim) core =
        ap (λ r. written_back victim id (record (less core) { reservation = r })) (kept_comm base victim.line line core.reservation)
        ∙ by_state victim (without_reservation base victim.line core) (is_modified victim.held) refl

    module _ (m : ℕ) (core : HartValue) where
      replied_passes : (exclusive : Bool) (words : Words) → AreOther core.cache m line → Passes (λ c. replied base m exclusive words id c) core
      unfolding replied
      replied_passes exclusive words other =
          let new = filled m exclusive words in
          ap (λ v. evicted base v id (record (less core) { cache = fill_line (less core).cache new; waiting = false })) (victim_other core.cache m line other new refl)
          ∙ ap (λ c. evicted base (victim_of core.cache new) id (record (less core) { cache = c; waiting = false })) (changed_other core.cache m line other (fill_set core.cache.ways new))
          ∙ evicted_passes (victim_of core.cache new) (record core { cache = fill_line core.cache new; waiting = false })

      flush_passes : AreOther core.cache m line → flush_of id m (less core).cache ≡ flush_of id m core.cache
      flush_passes other = ap (λ l. Flush id m (option_map (λ l. l.words) l)) (line_other core.cache m line other)

      given_up_passes : 1 ≤ length core.cache.sets → given_up base m (less core) ≡ less (given_up base m core)
      given_up_passes some = λ i. record (given_up base m (less core)) { cache = leaves_comm core.cache m line some i; reservation = kept_comm base m line core.reservation i }

    module _ (m : ℕ) (core : HartValue) where
      pub applied_passes : (kind : PostKind) → 1 ≤ length core.cache.sets → IsOther core.cache (posted kind m) line → Passes (λ c. applied kind base m id c) core
      unfolding applied
      applied_passes (Reply exclusive words) some other = replied_passes m (touched_at id.cycle m core) exclusive words other
      applied_passes Retry some other = refl
      applied_passes SnoopShare some other =
          λ i. (record (snooped m false (less (touched_at id.cycle m core))) { cache = changed_other core.cache m line other (snoop_set m false) i }, Some (flush_passes m core other i))
      applied_passes SnoopOwn some other = λ i. (given_up_passes m (touched_at id.cycle m core) some i, Some (flush_passes m core other i))
      applied_passes Invalidate some other = ap (λ c. (c, None)) (given_up_passes m core some)
