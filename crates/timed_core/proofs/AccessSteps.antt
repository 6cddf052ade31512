-- An access to memory is a step: the line of an address of memory is one of memory's.
use Rattle.std.proofs.Common.{◌≡◌, ℕ, ◌+◌, ◌*◌, ◌<◌, ◌≤◌, true, Option, None, Some, length, nat_le, nat_lt, refl, inl, inr, arith}
use Rattle.std.proofs.lemmas.Bool.{cases_Bool, and_parts}
use Rattle.std.proofs.lemmas.Bool.Decides.{nat_tests}
use Rattle.slack_base.specs.Numbers.{lines_of}
use Rattle.slack_base.specs.declared.configs.RawConfig.{RawConfig}
use Rattle.slack_base.specs.declared.stamps.Id.{Id}
use Rattle.slack_base.specs.declared.cores.Trap.TheVariants.{Misaligned, Outside}
use Rattle.mesi_cache.specs.declared.lines.HeldLine.{HeldLine}
use Rattle.mesi_cache.specs.Words.{word_of}
use Rattle.timed_core.specs.Accesses.{is_aligned, hits, asked_for, word_in_line, held_in, read_at, write_at, with_reservation, hit, missed, looked_up, is_reserved, tried, accessed}
use Rattle.timed_core.specs.Code.{CodeValue, is_in_memory}
use Rattle.timed_core.specs.Cores.{HartValue, line_number}
use Rattle.timed_core.specs.Laws.{IsSoundHart}
use Rattle.timed_core.specs.Touches.{touched_at}
use Rattle.timed_core.specs.declared.accesses.Access.{Access}
use Rattle.timed_core.specs.declared.accesses.Access.TheVariants.{Load, Store, LoadReserved, StoreConditional, Amo}
use Rattle.timed_core.proofs.OwnCaches.{read_holds, write_holds}
use Rattle.timed_core.proofs.Steps.{IsAskBelow, IsStep, touched_sound, gives_step, goes_on_step, trapped_step}

line_below : (code : CodeValue) (lines address : ℕ) → length code.bytes ≡ 16 * lines → is_in_memory code address ≡ true → line_number code.base address < lines
line_below code lines address whole inside =
    let parts = and_parts (nat_le code.base address) (nat_lt address (code.base + length code.bytes)) inside in
    let low : code.base ≤ address = grind (arith, nat_tests, parts.0) in
    let high : address < code.base + length code.bytes = grind (arith, nat_tests, parts.1) in
    omega arith

module _ (config : RawConfig) (base address : ℕ) (id : Id) where
  read_sound : (core : HartValue) → IsSoundHart config core → IsSoundHart config (read_at base address core)
  read_sound core s = record { number = s.number; zero = s.zero; cache = read_holds config core.cache (line_number base address) s.cache; touches = s.touches }

  write_sound : (value : ℕ) (core : HartValue) → IsSoundHart config core → IsSoundHart config (write_at base address value core)
  write_sound value core s = record { number = s.number; zero = s.zero; cache = write_holds config core.cache (line_number base address) (word_in_line address) value s.cache; touches = s.touches }

  reserved_sound : (reservation : Option ℕ) (core : HartValue) → IsSoundHart config core → IsSoundHart config (with_reservation reservation core)
  reserved_sound reservation core s = record { number = s.number; zero = s.zero; cache = s.cache; touches = s.touches }

  module _ (old cost : ℕ) (core : HartValue) (s : IsSoundHart config core) where
    hit_step : (access : Access) → IsStep config core.number id (hit access base address old cost core, None)
    unfolding hit
    hit_step (Load op rd) = gives_step config id (read_at base address core) (read_sound core s) rd _ cost
    hit_step (Store op value) = goes_on_step config id (write_at base address _ core) (write_sound _ core s) cost
    hit_step (LoadReserved rd) = gives_step config id (with_reservation (Some address) (read_at base address core)) (reserved_sound (Some address) _ (read_sound core s)) rd _ cost
    hit_step (StoreConditional rd value) = gives_step config id (with_reservation None (write_at base address value core)) (reserved_sound None _ (write_sound value core s)) rd _ cost
    hit_step (Amo op rd operand) = gives_step config id (write_at base address _ core) (write_sound _ core s) rd _ cost

  module _ (low : line_number base address < lines_of config) (cost : ℕ) (core : HartValue) (s : IsSoundHart config core) where
    asked_below : (access : Access) → IsAskBelow (lines_of config) id (asked_for access id (line_number base address))
    asked_below (Load op rd) = (refl, low)
    asked_below (Store op value) = (refl, low)
    asked_below (LoadReserved rd) = (refl, low)
    asked_below (StoreConditional rd value) = (refl, low)
    asked_below (Amo op rd operand) = (refl, low)

    missed_step : (access : Access) → IsStep config core.number id (missed access id (line_number base address) core)
    missed_step access = record { sound = record { number = s.number; zero = s.zero; cache = s.cache; touches = s.touches }; same = refl; ask = asked_below access }

    looked_up_step : (held : Option HeldLine) (access : Access) → IsStep config core.number id (looked_up held access base address cost id core)
    unfolding looked_up
    looked_up_step None access = missed_step access
    looked_up_step (Some line) access = elim (cases_Bool (hits access line.held)) [
      | inl hits_it ↦ rw hits_it (hit_step (word_of line.words (word_in_line address)) cost core s access)
      | inr misses_it ↦ rw misses_it (missed_step access)
    ]

    looked_up_here : (access : Access) → IsStep config core.number id (looked_up (held_in core.cache (line_number base address)) access base address cost id core)
    looked_up_here access = looked_up_step (held_in core.cache (line_number base address)) access

    tried_step : (access : Access) → IsStep config core.number id (tried access base address cost id core)
    unfolding tried
    tried_step (Load op rd) = looked_up_here (Load op rd)
    tried_step (Store op value) = looked_up_here (Store op value)
    tried_step (LoadReserved rd) = looked_up_here (LoadReserved rd)
    tried_step (StoreConditional rd value) = elim (cases_Bool (is_reserved core.reservation address)) [
      | inl reserved ↦ rw reserved (looked_up_here (StoreConditional rd value))
      | inr lost ↦ rw lost (gives_step config id (with_reservation None core) (reserved_sound None core s) rd 1 cost)
    ]
    tried_step (Amo op rd operand) = looked_up_here (Amo op rd operand)

pub accessed_step : (config : RawConfig) (code : CodeValue) (address cost : ℕ) (id : Id) (core : HartValue) (access : Access) → length code.bytes ≡ 16 * lines_of config → IsSoundHart config core → IsStep config core.number id (accessed code access address cost id core)
unfolding accessed
accessed_step config code address cost id core access whole s = elim (cases_Bool (is_aligned access address)) [
  | inl aligned ↦ elim (cases_Bool (is_in_memory code address)) [
    | inl inside ↦ rw (aligned, inside) (tried_step config code.base address id (line_below code (lines_of config) address whole inside) cost (touched_at id.cycle (line_number code.base address) core)
        (touched_sound config id.cycle (line_number code.base address) core s) access)
    | inr outside ↦ rw (aligned, outside) (trapped_step config id core s id.cycle (Outside address))
  ]
  | inr misaligned ↦ rw misaligned (trapped_step config id core s id.cycle (Misaligned address))
]
