-- An instruction that accesses no line of its set does the same without a line.
use Rattle.std.proofs.Common.{◌≡◌, ◌≢◌, ◌∙◌, ℕ, ◌%◌, ◌==◌, Bool, true, false, Option, None, Some, length, slice_index, refl, sym, ap, cond, inl, inr, arith}
use Rattle.std.proofs.lemmas.Bool.{cases_Bool}
use Rattle.std.proofs.lemmas.Bool.Decides.{nat_tests}
use Rattle.std.specs.Option.{option_map}
use Rattle.slack_base.specs.declared.stamps.Id.{Id}
use Rattle.slack_base.specs.declared.messages.Ask.{Ask}
use Rattle.slack_base.specs.declared.instructions.Instr.{Instr}
use Rattle.rv_decode.specs.Decoding.{instr_of}
use Rattle.rv_exec.specs.Access.{load_of, store_of, amo_of}
use Rattle.mesi_cache.specs.declared.lines.HeldLine.{HeldLine}
use Rattle.mesi_cache.specs.Words.{word_of}
use Rattle.mesi_cache.specs.Lines.{held_line, written}
use Rattle.mesi_cache.specs.Sets.{to_front}
use Rattle.mesi_cache.specs.Caches.{CacheValue, read_line, write_line, snoop_line}
use Rattle.timed_core.specs.Accesses.{is_aligned, hits, word_in_line, held_in, with_reservation, hit, looked_up, is_reserved, failed, tried, accessed}
use Rattle.timed_core.specs.Code.{CodeValue, is_in_memory, word_at}
use Rattle.timed_core.specs.Cores.{HartValue, is_running, goes_on, gives, line_number}
use Rattle.timed_core.specs.Effects.{effect_of, cost_of}
use Rattle.timed_core.specs.Posts.{kept}
use Rattle.timed_core.specs.Ticks.{called, performed, decoded, fetched, stepped}
use Rattle.timed_core.specs.declared.accesses.Access.{Access}
use Rattle.timed_core.specs.declared.accesses.Access.TheVariants.{Load, Store, LoadReserved, StoreConditional, Amo}
use Rattle.timed_core.specs.declared.effects.Effect.{Effect}
use Rattle.timed_core.specs.declared.effects.Effect.TheVariants.{Write, Jump, Branch, Pass, Memory, Stop, Call}
use Rattle.slack_base.specs.Growing.{raised}
use Rattle.timed_core.specs.Touches.{touched_at}
use Rattle.timed_core.proofs.late.Touched.{line_of_effect, line_of_instr, line_of_word, line_of_step}
use Rattle.timed_core.proofs.late.Places.{AreOther, changed_other, line_other}
use Rattle.timed_core.proofs.late.GivenUp.{IsOther, less, Passes}

not_same : (m line : ℕ) → m ≢ line → (m == line) ≡ false
not_same m line h = grind (arith, nat_tests)

same_of : (a b : ℕ) → (a == b) ≡ true → a ≡ b
same_of a b h = grind (arith, nat_tests)

-- a reservation in another line stays
kept_other : (base line address : ℕ) → line_number base address ≢ line → kept base line (Some address) ≡ Some address
kept_other base line address other = ap (λ b. cond b None (Some address)) (not_same (line_number base address) line other)

reserved_other : (base line address : ℕ) (r : Option ℕ) → line_number base address ≢ line → is_reserved (kept base line r) address ≡ is_reserved r address
reserved_other base line address None other = refl
reserved_other base line address (Some a) other = elim (cases_Bool (a == address)) [
  | inl same ↦ ap (λ r. is_reserved r address) (kept_other base line a (λ e. other (ap (line_number base) (sym (same_of a address same)) ∙ e)))
  | inr differs ↦ elim (line_number base a == line) as (λ b. is_reserved (cond b None (Some a)) address ≡ is_reserved (Some a) address) [ true ↦ sym differs | false ↦ refl ]
]

module _ (base line address : ℕ) (core : HartValue) (other : AreOther core.cache (line_number base address) line) where
  abbrev m : ℕ
  m = line_number base address

  apart : m ≢ line
  apart e = other (ap (λ n. n % length core.cache.sets) e)

  abbrev bare : HartValue
  bare = less base line core

  read_other : read_line bare.cache m ≡ snoop_line (read_line core.cache m) line true
  read_other = changed_other core.cache m line other (to_front (λ l. l) m)

  write_other : (value : ℕ) → write_line bare.cache m (word_in_line address) value ≡ snoop_line (write_line core.cache m (word_in_line address) value) line true
  write_other value = changed_other core.cache m line other (to_front (written (word_in_line address) value) m)

  abbrev at_hit : CacheValue → HartValue
  at_hit cache = record bare { cache = cache; counts = record bare.counts { accesses = raised bare.counts.accesses } }

  module _ (old cost : ℕ) where
    hit_passes : (access : Access) → hit access base address old cost bare ≡ less base line (hit access base address old cost core)
    unfolding hit
    hit_passes (Load op rd) = ap (λ c. gives rd (load_of op old (address % 4)) cost (at_hit c)) read_other
    hit_passes (Store op value) = ap (λ c. goes_on cost (at_hit c)) (write_other (store_of op old (address % 4) value))
    hit_passes (LoadReserved rd) = λ i. gives rd old cost (record (at_hit (read_other i)) { reservation = sym (kept_other base line address apart) i })
    hit_passes (StoreConditional rd value) = ap (λ c. gives rd 0 cost (with_reservation None (at_hit c))) (write_other value)
    hit_passes (Amo op rd operand) = ap (λ c. gives rd old cost (at_hit c)) (write_other (amo_of op old operand))

  module _ (cost : ℕ) (id : Id) where
    looked_up_passes : (held : Option HeldLine) (access : Access) → Passes base line (λ c. looked_up held access base address cost id c) core
    unfolding looked_up
    looked_up_passes None access = refl
    looked_up_passes (Some l) access = elim (cases_Bool (hits access l.held)) [
      | inl hits_it ↦ rw hits_it (ap (λ c. (c, None)) (hit_passes (word_of l.words (word_in_line address)) cost access))
      | inr misses_it ↦ rw misses_it refl
    ]

    looked_up_here : (access : Access) → Passes base line (λ c. looked_up (held_in c.cache m) access base address cost id c) core
    looked_up_here access =
        ap (λ l. looked_up (option_map held_line l) access base address cost id bare) (line_other core.cache m line other)
        ∙ looked_up_passes (held_in core.cache m) access

    tried_passes : (access : Access) → Passes base line (λ c. tried access base address cost id c) core
    unfolding tried
    tried_passes (Load op rd) = looked_up_here (Load op rd)
    tried_passes (Store op value) = looked_up_here (Store op value)
    tried_passes (LoadReserved rd) = looked_up_here (LoadReserved rd)
    tried_passes (StoreConditional rd value) =
        ap (λ b. cond b (looked_up (held_in bare.cache m) (StoreConditional rd value) base address cost id bare) (failed rd cost bare, None)) (reserved_other base line address core.reservation apart)
        ∙ elim (cases_Bool (is_reserved core.reservation address)) [
          | inl reserved ↦ rw reserved (looked_up_here (StoreConditional rd value))
          | inr lost ↦ rw lost refl
        ]
    tried_passes (Amo op rd operand) = looked_up_here (Amo op rd operand)

module _ (code : CodeValue) (line : ℕ) (id : Id) (core : HartValue) where
  abbrev Does : (HartValue → HartValue × Option Ask) → Type 0
  Does f = Passes code.base line f core

  accessed_passes : (access : Access) (address cost : ℕ) → IsOther core.cache (line_of_effect code (Memory address access)) line → Does (λ c. accessed code access address cost id c)
  unfolding accessed
  accessed_passes access address cost other = elim (cases_Bool (is_aligned access address)) [
    | inl aligned ↦ elim (cases_Bool (is_in_memory code address)) [
      | inl inside ↦
          let there : AreOther core.cache (line_number code.base address) line = rw (aligned, inside) at other in
          rw (aligned, inside) (tried_passes code.base line address (touched_at id.cycle (line_number code.base address) core) there cost id access)
      | inr outside ↦ rw (aligned, outside) refl
    ]
    | inr misaligned ↦ rw misaligned refl
  ]

  called_passes : (cost : ℕ) → Does (λ c. called cost id c)
  unfolding called
  called_passes cost = elim (cases_Bool (slice_index core.registers 17 == 1)) [
    | inl puts ↦ rw puts refl
    | inr other ↦ elim (cases_Bool (slice_index core.registers 17 == 93)) [
      | inl exits ↦ rw (other, exits) refl
      | inr none ↦ rw (other, none) refl
    ]
  ]

  performed_passes : (effect : Effect) (cost : ℕ) → IsOther core.cache (line_of_effect code effect) line → Does (λ c. performed code effect cost id c)
  unfolding performed
  performed_passes (Write rd value) cost other = refl
  performed_passes (Jump rd target) cost other = refl
  performed_passes (Branch target) cost other = refl
  performed_passes Pass cost other = refl
  performed_passes (Memory address access) cost other = accessed_passes access address cost other
  performed_passes (Stop trap) cost other = refl
  performed_passes Call cost other = called_passes cost

  decoded_passes : (instr : Option Instr) (bits : ℕ) → IsOther core.cache (line_of_instr code instr core.registers core.pc) line → Does (λ c. decoded code instr bits id c)
  unfolding decoded
  decoded_passes None bits other = refl
  decoded_passes (Some instr) bits other = performed_passes (effect_of instr core.registers core.pc) (cost_of instr) other

  fetched_passes : (bits : Option ℕ) → IsOther core.cache (line_of_word code bits core.registers core.pc) line → Does (λ c. fetched code bits id c)
  unfolding fetched
  fetched_passes None other = refl
  fetched_passes (Some bits) other = decoded_passes (instr_of bits) bits other

  waiting_passes : (waiting : Bool) → IsOther core.cache (cond waiting None (line_of_word code (word_at code core.pc) core.registers core.pc)) line
      → Does (λ c. cond waiting (record c { counts = record c.counts { waits = raised c.counts.waits } }, None) (fetched code (word_at code c.pc) id c))
  waiting_passes true other = refl
  waiting_passes false other = fetched_passes (word_at code core.pc) other

  pub stepped_passes : IsOther core.cache (line_of_step code core) line → Does (λ c. stepped code id c)
  unfolding stepped line_of_step
  stepped_passes other = elim (cases_Bool (is_running core.ended)) [
    | inl running ↦ elim (cases_Bool (core.busy == 0)) [
      | inl free ↦
          let there : IsOther core.cache (cond core.waiting None (line_of_word code (word_at code core.pc) core.registers core.pc)) line = rw (running, free) at other in
          rw (running, free) (waiting_passes core.waiting there)
      | inr busy ↦ rw (running, busy) refl
    ]
    | inr ended ↦ rw ended refl
  ]
