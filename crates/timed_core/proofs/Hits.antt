-- What the cache holds of the line of an access, and what the access comes to.
use Rattle.std.proofs.Common.{◌≡◌, ◌∙◌, ℕ, Bool, true, false, Option, Some, None, refl, sym, ap, cond}
use Rattle.std.specs.Option.{option_map}
use Rattle.std.proofs.lemmas.Option.{none-some, same_Some}
use Rattle.slack_base.specs.declared.stamps.Id.{Id}
use Rattle.slack_base.specs.declared.messages.Ask.{Ask}
use Rattle.mesi_cache.specs.declared.lines.CacheLine.{CacheLine}
use Rattle.mesi_cache.specs.declared.lines.Held.{Held}
use Rattle.mesi_cache.specs.Lines.{held_line}
use Rattle.mesi_cache.specs.Words.{word_of}
use Rattle.timed_core.specs.Accesses.{is_aligned, hits, word_in_line, hit, held_in, missed, looked_up, tried, accessed}
use Rattle.timed_core.specs.Code.{CodeValue, is_in_memory}
use Rattle.timed_core.specs.Cores.{HartValue, line_number}
use Rattle.timed_core.specs.Touches.{touched_at}
use Rattle.timed_core.specs.declared.accesses.Access.{Access}
use Rattle.timed_core.specs.declared.accesses.Access.TheVariants.{Load, Store, LoadReserved, StoreConditional, Amo}
use Rattle.timed_core.specs.Outcomes.{IsReady}

module _ (access : Access) (base address line : ℕ) (id : Id) (core : HartValue) (is_line : line ≡ line_number base address) where
  abbrev pub outcome_of : Option CacheLine → HartValue × Option Ask
  outcome_of held = looked_up (option_map held_line held) access base address 1 id core

  -- the line isn't held
  pub misses : (held : Option CacheLine) → None ≡ option_map (λ l. l.held) held → outcome_of held ≡ missed access id line core
  unfolding looked_up
  misses None h = ap (λ n. missed access id n core) (sym is_line)
  misses (Some l) h = absurd (none-some _ h)

  abbrev chosen : CacheLine → Bool → HartValue × Option Ask
  chosen l b = cond b (hit access base address (word_of l.words (word_in_line address)) 1 core, None) (missed access id (line_number base address) core)

  -- the line is held, but not so that the access hits
  pub still_misses : (held : Option CacheLine) (state : Held) → Some state ≡ option_map (λ l. l.held) held → hits access state ≡ false
      → outcome_of held ≡ missed access id line core
  unfolding looked_up
  still_misses None state h not = absurd (none-some _ (sym h))
  still_misses (Some l) state h not =
      ap (λ s. chosen l (hits access s)) (sym (same_Some state l.held h)) ∙ ap (chosen l) not ∙ ap (λ n. missed access id n core) (sym is_line)

  -- the line is held so that the access hits
  pub it_hits : (held : Option CacheLine) (state : Held) (old : ℕ) → Some state ≡ option_map (λ l. l.held) held → hits access state ≡ true
      → option_map (λ l. word_of l.words (word_in_line address)) held ≡ Some old → outcome_of held ≡ (hit access base address old 1 core, None)
  unfolding looked_up
  it_hits None state old h does word = absurd (none-some _ (sym h))
  it_hits (Some l) state old h does word =
      ap (λ s. chosen l (hits access s)) (sym (same_Some state l.held h)) ∙ ap (chosen l) does ∙ ap (λ w. (hit access base address w 1 core, None)) (same_Some (word_of l.words (word_in_line address)) old word)

-- a hit leaves a ready hart ready
pub hit_ready : (access : Access) (base address old : ℕ) (core : HartValue) → IsReady core → IsReady (hit access base address old 1 core)
unfolding hit
hit_ready (Load op rd) base address old core r = record { running = r.running; free = refl; awake = r.awake }
hit_ready (Store op value) base address old core r = record { running = r.running; free = refl; awake = r.awake }
hit_ready (LoadReserved rd) base address old core r = record { running = r.running; free = refl; awake = r.awake }
hit_ready (StoreConditional rd value) base address old core r = record { running = r.running; free = refl; awake = r.awake }
hit_ready (Amo op rd operand) base address old core r = record { running = r.running; free = refl; awake = r.awake }

-- and the number as it is
pub hit_number : (access : Access) (base address old : ℕ) (core : HartValue) → (hit access base address old 1 core).number ≡ core.number
unfolding hit
hit_number (Load op rd) base address old core = refl
hit_number (Store op value) base address old core = refl
hit_number (LoadReserved rd) base address old core = refl
hit_number (StoreConditional rd value) base address old core = refl
hit_number (Amo op rd operand) base address old core = refl

-- every access but an SC looks its line up
pub looks_up : (access : Access) (base address : ℕ) (id : Id) (core : HartValue) → ((rd value : ℕ) → access ≡ StoreConditional rd value → ⊥)
    → tried access base address 1 id core ≡ looked_up (held_in core.cache (line_number base address)) access base address 1 id core
unfolding tried
looks_up (Load op rd) base address id core other = refl
looks_up (Store op value) base address id core other = refl
looks_up (LoadReserved rd) base address id core other = refl
looks_up (StoreConditional rd value) base address id core other = absurd (other rd value refl)
looks_up (Amo op rd operand) base address id core other = refl

-- an access that doesn't trap touches its line's set, and is tried
pub is_tried : (code : CodeValue) (access : Access) (address : ℕ) (id : Id) (core : HartValue) → is_aligned access address ≡ true → is_in_memory code address ≡ true
    → accessed code access address 1 id core ≡ tried access code.base address 1 id (touched_at id.cycle (line_number code.base address) core)
unfolding accessed
is_tried code access address id core aligned inside = rw (aligned, inside) refl
