-- A core's cache keeps its number of sets.
use Rattle.std.proofs.Common.{◌≡◌, ◌∙◌, ℕ, ◌+◌, ◌==◌, Bool, true, false, List, [], ◌∷◌, Option, None, Some, length, slice_index, refl, cond, inl, inr}
use Rattle.std.proofs.lemmas.Bool.{cases_Bool}
use Rattle.slack_base.specs.declared.stamps.Id.{Id}
use Rattle.slack_base.specs.declared.messages.Post.{Post}
use Rattle.slack_base.specs.declared.messages.PostKind.{PostKind}
use Rattle.slack_base.specs.declared.messages.PostKind.TheVariants.{Reply, Retry, SnoopShare, SnoopOwn, Invalidate}
use Rattle.slack_base.specs.declared.instructions.Instr.{Instr}
use Rattle.rv_decode.specs.Decoding.{instr_of}
use Rattle.mesi_cache.specs.declared.lines.CacheLine.{CacheLine}
use Rattle.mesi_cache.specs.declared.lines.HeldLine.{HeldLine}
use Rattle.mesi_cache.specs.Words.{word_of}
use Rattle.mesi_cache.specs.Lines.{filled}
use Rattle.mesi_cache.specs.Caches.{fill_line, victim_of}
use Rattle.timed_core.specs.Accesses.{is_aligned, hits, word_in_line, held_in, hit, looked_up, is_reserved, tried, accessed}
use Rattle.timed_core.specs.Code.{CodeValue, is_in_memory, word_at}
use Rattle.timed_core.specs.Cores.{HartValue, is_running, line_number}
use Rattle.timed_core.specs.Effects.{effect_of, cost_of}
use Rattle.timed_core.specs.Posts.{without_reservation, is_modified, written_back, evicted, replied, applied}
use Rattle.timed_core.specs.Touches.{touched_at}
use Rattle.slack_base.specs.Growing.{raised}
use Rattle.timed_core.specs.Ticks.{applied_all, asks_of, id_at, called, performed, decoded, fetched, stepped, tick}
use Rattle.timed_core.specs.declared.accesses.Access.{Access}
use Rattle.timed_core.specs.declared.accesses.Access.TheVariants.{Load, Store, LoadReserved, StoreConditional, Amo}
use Rattle.timed_core.specs.declared.effects.Effect.{Effect}
use Rattle.timed_core.specs.declared.effects.Effect.TheVariants.{Write, Jump, Branch, Pass, Memory, Stop, Call}
use Rattle.timed_core.proofs.late.Places.{set_length}

abbrev pub count_of : HartValue → ℕ
count_of core = length core.cache.sets

module _ (base : ℕ) (id : Id) where
  by_state : (victim : CacheLine) (core : HartValue) (modified : Bool) → is_modified victim.held ≡ modified → count_of (written_back victim id core).0 ≡ count_of core
  by_state victim core true is = rw is refl
  by_state victim core false is = rw is refl

  evicted_count : (victim : Option CacheLine) (core : HartValue) → count_of (evicted base victim id core).0 ≡ count_of core
  unfolding evicted
  evicted_count None core = refl
  evicted_count (Some victim) core = by_state victim (without_reservation base victim.line core) (is_modified victim.held) refl

  pub applied_count : (m : ℕ) (core : HartValue) (kind : PostKind) → count_of (applied kind base m id core).0 ≡ count_of core
  unfolding applied replied
  applied_count m core (Reply exclusive words) =
      let new = filled m exclusive words in
      evicted_count (victim_of core.cache new) (record (touched_at id.cycle m core) { cache = fill_line core.cache new; waiting = false }) ∙ set_length core.cache m _
  applied_count m core Retry = refl
  applied_count m core SnoopShare = set_length core.cache m _
  applied_count m core SnoopOwn = set_length core.cache m _
  applied_count m core Invalidate = set_length core.cache m _

module _ (base address : ℕ) (core : HartValue) where
  abbrev m : ℕ
  m = line_number base address

  hit_count : (old cost : ℕ) (access : Access) → count_of (hit access base address old cost core) ≡ count_of core
  unfolding hit
  hit_count old cost (Load op rd) = set_length core.cache m _
  hit_count old cost (Store op value) = set_length core.cache m _
  hit_count old cost (LoadReserved rd) = set_length core.cache m _
  hit_count old cost (StoreConditional rd value) = set_length core.cache m _
  hit_count old cost (Amo op rd operand) = set_length core.cache m _

  module _ (cost : ℕ) (id : Id) where
    looked_up_count : (held : Option HeldLine) (access : Access) → count_of (looked_up held access base address cost id core).0 ≡ count_of core
    unfolding looked_up
    looked_up_count None access = refl
    looked_up_count (Some l) access = elim (cases_Bool (hits access l.held)) [
      | inl hits_it ↦ rw hits_it (hit_count (word_of l.words (word_in_line address)) cost access)
      | inr misses_it ↦ rw misses_it refl
    ]

    tried_count : (access : Access) → count_of (tried access base address cost id core).0 ≡ count_of core
    unfolding tried
    tried_count (Load op rd) = looked_up_count (held_in core.cache m) (Load op rd)
    tried_count (Store op value) = looked_up_count (held_in core.cache m) (Store op value)
    tried_count (LoadReserved rd) = looked_up_count (held_in core.cache m) (LoadReserved rd)
    tried_count (StoreConditional rd value) = elim (cases_Bool (is_reserved core.reservation address)) [
      | inl reserved ↦ rw reserved (looked_up_count (held_in core.cache m) (StoreConditional rd value))
      | inr lost ↦ rw lost refl
    ]
    tried_count (Amo op rd operand) = looked_up_count (held_in core.cache m) (Amo op rd operand)

module _ (code : CodeValue) (id : Id) (core : HartValue) where
  accessed_count : (access : Access) (address cost : ℕ) → count_of (accessed code access address cost id core).0 ≡ count_of core
  unfolding accessed
  accessed_count access address cost = elim (cases_Bool (is_aligned access address)) [
    | inl aligned ↦ elim (cases_Bool (is_in_memory code address)) [
      | inl inside ↦ rw (aligned, inside) (tried_count code.base address (touched_at id.cycle (line_number code.base address) core) cost id access)
      | inr outside ↦ rw (aligned, outside) refl
    ]
    | inr misaligned ↦ rw misaligned refl
  ]

  called_count : (cost : ℕ) → count_of (called cost id core).0 ≡ count_of core
  unfolding called
  called_count cost = elim (cases_Bool (slice_index core.registers 17 == 1)) [
    | inl puts ↦ rw puts refl
    | inr other ↦ elim (cases_Bool (slice_index core.registers 17 == 93)) [
      | inl exits ↦ rw (other, exits) refl
      | inr none ↦ rw (other, none) refl
    ]
  ]

  performed_count : (effect : Effect) (cost : ℕ) → count_of (performed code effect cost id core).0 ≡ count_of core
  unfolding performed
  performed_count (Write rd value) cost = refl
  performed_count (Jump rd target) cost = refl
  performed_count (Branch target) cost = refl
  performed_count Pass cost = refl
  performed_count (Memory address access) cost = accessed_count access address cost
  performed_count (Stop trap) cost = refl
  performed_count Call cost = called_count cost

  decoded_count : (instr : Option Instr) (bits : ℕ) → count_of (decoded code instr bits id core).0 ≡ count_of core
  unfolding decoded
  decoded_count None bits = refl
  decoded_count (Some instr) bits = performed_count (effect_of instr core.registers core.pc) (cost_of instr)

  fetched_count : (bits : Option ℕ) → count_of (fetched code bits id core).0 ≡ count_of core
  unfolding fetched
  fetched_count None = refl
  fetched_count (Some bits) = decoded_count (instr_of bits) bits

  waiting_count : (waiting : Bool) → count_of (cond waiting (record core { counts = record core.counts { waits = raised core.counts.waits } }, None) (fetched code (word_at code core.pc) id core)).0 ≡ count_of core
  waiting_count true = refl
  waiting_count false = fetched_count (word_at code core.pc)

  pub stepped_count : count_of (stepped code id core).0 ≡ count_of core
  unfolding stepped
  stepped_count = elim (cases_Bool (is_running core.ended)) [
    | inl running ↦ elim (cases_Bool (core.busy == 0)) [
      | inl free ↦ rw (running, free) (waiting_count core.waiting)
      | inr busy ↦ rw (running, busy) refl
    ]
    | inr ended ↦ rw ended refl
  ]

pub applied_all_count : (base t n : ℕ) (core : HartValue) (due : List Post) → count_of (applied_all base t n core due).0 ≡ count_of core
applied_all_count base t n core [] = refl
applied_all_count base t n core (p ∷ due) =
    let one = applied p.kind base p.line (id_at t core n) core in
    applied_all_count base t (n + length (asks_of one.1)) one.0 due ∙ applied_count base (id_at t core n) p.line core p.kind

pub tick_count : (code : CodeValue) (core : HartValue) (t : ℕ) (due : List Post) → count_of (tick code core t due).0 ≡ count_of core
unfolding tick
tick_count code core t due =
    let posts = applied_all code.base t 0 core due in
    stepped_count code (id_at t posts.0 (length posts.1)) posts.0 ∙ applied_all_count code.base t 0 core due
