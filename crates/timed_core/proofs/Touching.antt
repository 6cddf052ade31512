-- What touches a set of a core's cache.
use Rattle.std.proofs.Common.{◌≡◌, ℕ, ◌==◌, get_or, Bool, false, Option, None, Some, refl, inl, inr}
use Rattle.std.proofs.lemmas.Bool.{cases_Bool}
use Rattle.slack_base.specs.declared.stamps.Id.{Id}
use Rattle.slack_base.specs.declared.messages.PostKind.{PostKind}
use Rattle.slack_base.specs.declared.messages.PostKind.TheVariants.{Reply, Retry, SnoopShare, SnoopOwn, Invalidate}
use Rattle.mesi_cache.specs.declared.lines.CacheLine.{CacheLine}
use Rattle.mesi_cache.specs.declared.lines.HeldLine.{HeldLine}
use Rattle.mesi_cache.specs.Lines.{filled}
use Rattle.mesi_cache.specs.Caches.{fill_line, victim_of}
use Rattle.timed_core.specs.Accesses.{is_aligned, hits, held_in, hit, looked_up, is_reserved, tried, accessed}
use Rattle.timed_core.specs.Code.{CodeValue, is_in_memory}
use Rattle.timed_core.specs.Cores.{HartValue, line_number}
use Rattle.timed_core.specs.Posts.{is_modified, written_back, evicted, replied, applied, without_reservation}
use Rattle.timed_core.specs.Ticks.{called, performed}
use Rattle.timed_core.specs.Touches.{touched_at}
use Rattle.timed_core.specs.Touching.{touches_of_post, touches_of_effect, WhatTouches}
use Rattle.timed_core.specs.declared.accesses.Access.{Access}
use Rattle.timed_core.specs.declared.accesses.Access.TheVariants.{Load, Store, LoadReserved, StoreConditional, Amo}
use Rattle.timed_core.specs.declared.effects.Effect.{Effect}
use Rattle.timed_core.specs.declared.effects.Effect.TheVariants.{Write, Jump, Branch, Pass, Memory, Stop, Call}

module _ (base : ℕ) (id : Id) where
  written_touches : (victim : CacheLine) (core : HartValue) → (written_back victim id core).0.touches ≡ core.touches
  written_touches victim core = elim (cases_Bool (is_modified victim.held)) [
    | inl modified ↦ rw modified refl
    | inr clean ↦ rw clean refl
  ]

  evicted_touches : (victim : Option CacheLine) (core : HartValue) → (evicted base victim id core).0.touches ≡ core.touches
  unfolding evicted
  evicted_touches None core = refl
  evicted_touches (Some victim) core = written_touches victim (without_reservation base victim.line core)

  -- each post
  applied_touches : (line : ℕ) (core : HartValue) (kind : PostKind) → (applied kind base line id core).0.touches ≡ touches_of_post kind id.cycle line core.touches
  unfolding applied replied
  applied_touches line core (Reply exclusive words) =
      let new = filled line exclusive words in
      evicted_touches (victim_of core.cache new) (record (touched_at id.cycle line core) { cache = fill_line core.cache new; waiting = false })
  applied_touches line core Retry = refl
  applied_touches line core SnoopShare = refl
  applied_touches line core SnoopOwn = refl
  applied_touches line core Invalidate = refl

  hit_touches : (access : Access) (address old cost : ℕ) (core : HartValue) → (hit access base address old cost core).touches ≡ core.touches
  unfolding hit
  hit_touches (Load op rd) address old cost core = refl
  hit_touches (Store op value) address old cost core = refl
  hit_touches (LoadReserved rd) address old cost core = refl
  hit_touches (StoreConditional rd value) address old cost core = refl
  hit_touches (Amo op rd operand) address old cost core = refl

  looked_up_touches : (held : Option HeldLine) (access : Access) (address cost : ℕ) (core : HartValue) → (looked_up held access base address cost id core).0.touches ≡ core.touches
  unfolding looked_up
  looked_up_touches None access address cost core = refl
  looked_up_touches (Some line) access address cost core = elim (cases_Bool (hits access line.held)) [
    | inl hits_it ↦ rw hits_it (hit_touches access address _ cost core)
    | inr misses_it ↦ rw misses_it refl
  ]

  -- an access that is tried touches no more
  tried_touches : (access : Access) (address cost : ℕ) (core : HartValue) → (tried access base address cost id core).0.touches ≡ core.touches
  unfolding tried
  tried_touches (Load op rd) address cost core = looked_up_touches (held_in core.cache (line_number base address)) (Load op rd) address cost core
  tried_touches (Store op value) address cost core = looked_up_touches (held_in core.cache (line_number base address)) (Store op value) address cost core
  tried_touches (LoadReserved rd) address cost core = looked_up_touches (held_in core.cache (line_number base address)) (LoadReserved rd) address cost core
  tried_touches (StoreConditional rd value) address cost core = elim (cases_Bool (is_reserved core.reservation address)) [
    | inl reserved ↦ rw reserved (looked_up_touches (held_in core.cache (line_number base address)) (StoreConditional rd value) address cost core)
    | inr lost ↦ rw lost refl
  ]
  tried_touches (Amo op rd operand) address cost core = looked_up_touches (held_in core.cache (line_number base address)) (Amo op rd operand) address cost core

module _ (code : CodeValue) (cost : ℕ) (id : Id) (core : HartValue) where
  accessed_touches : (access : Access) (address : ℕ) → (accessed code access address cost id core).0.touches ≡ touches_of_effect code (Memory address access) id.cycle core.touches
  unfolding accessed
  accessed_touches access address = elim (cases_Bool (is_aligned access address)) [
    | inl aligned ↦ elim (cases_Bool (is_in_memory code address)) [
      | inl inside ↦ rw (aligned, inside) (tried_touches code.base id access address cost (touched_at id.cycle (line_number code.base address) core))
      | inr outside ↦ rw (aligned, outside) refl
    ]
    | inr misaligned ↦ rw misaligned refl
  ]

  called_touches : (called cost id core).0.touches ≡ core.touches
  unfolding called
  called_touches = elim (cases_Bool (get_or core.registers 17 0 == 1)) [
    | inl puts ↦ rw puts refl
    | inr other ↦ elim (cases_Bool (get_or core.registers 17 0 == 93)) [
      | inl exits ↦ rw (other, exits) refl
      | inr none ↦ rw (other, none) refl
    ]
  ]

  -- each instruction
  performed_touches : (effect : Effect) → (performed code effect cost id core).0.touches ≡ touches_of_effect code effect id.cycle core.touches
  unfolding performed
  performed_touches (Write rd value) = refl
  performed_touches (Jump rd target) = refl
  performed_touches (Branch target) = refl
  performed_touches Pass = refl
  performed_touches (Memory address access) = accessed_touches access address
  performed_touches (Stop trap) = refl
  performed_touches Call = called_touches

pub what_touches : WhatTouches
what_touches = record {
  posts = λ kind base line id core. applied_touches base id line core kind;
  instructions = λ code effect cost id core. performed_touches code cost id core effect;
}
