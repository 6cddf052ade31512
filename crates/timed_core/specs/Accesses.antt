-- Memory accesses: what they do to a core where its cache holds their line, and what they ask for where it doesn't.
use Rattle.std.specs.Prelude.{ℕ, ◌/◌, ◌%◌, ◌==◌, Bool, true, false, not, ◌||◌, Option, Some, None, if◌then◌else◌}
use Rattle.std.specs.Option.{option_map}
use Rattle.slack_base.specs.Growing.{raised}
use Rattle.slack_base.specs.declared.stamps.Id.{Id}
use Rattle.slack_base.specs.declared.messages.Ask.{Ask}
use Rattle.slack_base.specs.declared.messages.Ask.TheVariants.{Read, ReadOwn}
use Rattle.slack_base.specs.declared.cores.Trap.TheVariants.{Misaligned, Outside}
use Rattle.rv_exec.specs.Access.{is_aligned_load, is_aligned_store, load_of, store_of, amo_of}
use Rattle.mesi_cache.specs.declared.lines.Held.{Held}
use Rattle.mesi_cache.specs.declared.lines.HeldLine.{HeldLine}
use Rattle.mesi_cache.specs.Words.{word_of}
use Rattle.mesi_cache.specs.Lines.{held_line, may_write}
use Rattle.mesi_cache.specs.Caches.{CacheValue, line_in, read_line, write_line}
use Rattle.timed_core.specs.Code.{CodeValue, is_in_memory}
use Rattle.timed_core.specs.Cores.{HartValue, gives, goes_on, trapped, line_number}
use Rattle.timed_core.specs.Touches.{touched_at}
use Rattle.timed_core.specs.declared.accesses.Access.{Access}
use Rattle.timed_core.specs.declared.accesses.Access.TheVariants.{Load, Store, LoadReserved, StoreConditional, Amo}

-- the address is a multiple of the access's size; LR, SC and AMOs are of words
abbrev pub is_aligned : Access → ℕ → Bool
is_aligned (Load op rd) address = is_aligned_load op address
is_aligned (Store op value) address = is_aligned_store op address
is_aligned _ address = address % 4 == 0

-- the access writes its line
abbrev pub is_write : Access → Bool
is_write (Load op rd) = false
is_write (LoadReserved rd) = false
is_write _ = true

-- a load or LR hits any line that is held, every other access a line that may be written
abbrev pub hits : Access → Held → Bool
hits access held = not (is_write access) || may_write held

-- what an access that misses asks for
abbrev pub asked_for : Access → Id → ℕ → Ask
asked_for access id line = if is_write access then ReadOwn id line else Read id line

-- which of the four words of its line an address is in
abbrev pub word_in_line : ℕ → ℕ
word_in_line address = address / 4 % 4

-- the state and the words of a line, if the core's cache holds it
abbrev pub held_in : CacheValue → ℕ → Option HeldLine
held_in cache line = option_map held_line (line_in cache line)

abbrev pub with_access : HartValue → CacheValue → HartValue
with_access core cache = record core { cache = cache; counts = record core.counts { accesses = raised core.counts.accesses } }

-- the word of the address is read: its line becomes the most recent of its set
abbrev pub read_at : (base address : ℕ) → HartValue → HartValue
read_at base address core = with_access core (read_line core.cache (line_number base address))

-- the word of the address is written: its line becomes Modified too
abbrev pub write_at : (base address value : ℕ) → HartValue → HartValue
write_at base address value core = with_access core (write_line core.cache (line_number base address) (word_in_line address) value)

abbrev pub with_reservation : Option ℕ → HartValue → HartValue
with_reservation reservation core = record core { reservation = reservation }

-- the core after an access that hits, where the word of the address was `old`
unfoldable pub hit : Access → (base address old cost : ℕ) → HartValue → HartValue
hit (Load op rd) base address old cost core = gives rd (load_of op old (address % 4)) cost (read_at base address core)
hit (Store op value) base address old cost core =
    goes_on cost (write_at base address (store_of op old (address % 4) value) core)
hit (LoadReserved rd) base address old cost core = gives rd old cost (with_reservation (Some address) (read_at base address core))
hit (StoreConditional rd value) base address old cost core = gives rd 0 cost (with_reservation None (write_at base address value core))
hit (Amo op rd operand) base address old cost core = gives rd old cost (write_at base address (amo_of op old operand) core)

-- a miss changes nothing but that the core waits for the line
abbrev pub missed : Access → Id → ℕ → HartValue → HartValue × Option Ask
missed access id line core =
    (record core { waiting = true; counts = record core.counts { misses = raised core.counts.misses } }, Some (asked_for access id line))

-- an access to a line of which the cache holds this
unfoldable pub looked_up : Option HeldLine → Access → (base address cost : ℕ) → Id → HartValue → HartValue × Option Ask
looked_up None access base address cost id core = missed access id (line_number base address) core
looked_up (Some line) access base address cost id core =
    if hits access line.held then (hit access base address (word_of line.words (word_in_line address)) cost core, None)
    else missed access id (line_number base address) core

abbrev pub is_reserved : Option ℕ → ℕ → Bool
is_reserved None address = false
is_reserved (Some reserved) address = reserved == address

-- an SC that fails gives 1, and loses the reservation; it accesses nothing
abbrev pub failed : (rd cost : ℕ) → HartValue → HartValue
failed rd cost core = gives rd 1 cost (with_reservation None core)

-- an access to memory: an SC fails where its address isn't the reservation, and every other access looks its line up
unfoldable pub tried : Access → (base address cost : ℕ) → Id → HartValue → HartValue × Option Ask
tried (StoreConditional rd value) base address cost id core =
    if is_reserved core.reservation address
    then looked_up (held_in core.cache (line_number base address)) (StoreConditional rd value) base address cost id core
    else (failed rd cost core, None)
tried access base address cost id core = looked_up (held_in core.cache (line_number base address)) access base address cost id core

-- an access: alignment is checked first, then that the address is in memory; one that doesn't trap touches its line's set
unfoldable pub accessed : CodeValue → Access → (address cost : ℕ) → Id → HartValue → HartValue × Option Ask
accessed code access address cost id core =
    if is_aligned access address
    then (if is_in_memory code address then tried access code.base address cost id (touched_at id.cycle (line_number code.base address) core)
    else (trapped core id.cycle (Outside address), None))
    else (trapped core id.cycle (Misaligned address), None)
