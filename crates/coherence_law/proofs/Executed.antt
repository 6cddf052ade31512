-- An instruction is executed: what this does to each line.
use Rattle.std.proofs.Common.{◌≡◌, ◌≢◌, ◌∙◌, ℕ, ◌+◌, ◌*◌, ◌<◌, ◌≤◌, Bool, true, false, Option, None, Some, List, length, get_or, refl, sym, ap, subst, inl, inr, cond, arith, ◌==◌, ◌&&◌, nat_le, nat_lt}
use Rattle.std.specs.Option.{option_map}
use Rattle.std.proofs.lemmas.Bool.{cases_eq, cases_Bool, eq-eqb, ne_eqb, and_parts, false≢true}
use Rattle.std.proofs.lemmas.Bool.Decides.{nat_tests}
use Rattle.slack_base.specs.Growing.{raised}
use Rattle.slack_base.specs.declared.bounds.TheConstants.{MOST_CORES}
use Rattle.slack_base.specs.declared.messages.Ask.{Ask}
use Rattle.slack_base.specs.declared.messages.Ask.TheVariants.{Read, ReadOwn, Put}
use Rattle.slack_base.specs.declared.messages.Post.{Post}
use Rattle.slack_base.specs.declared.stamps.Id.{Id}
use Rattle.slack_base.specs.declared.instructions.Instr.{Instr}
use Rattle.slack_base.specs.declared.cores.Trap.TheVariants.{Misaligned, Outside, Fetch, Illegal}
use Rattle.mesi_cache.specs.declared.lines.Held.TheVariants.{Modified as M}
use Rattle.mesi_cache.specs.declared.lines.CacheLine.{CacheLine}
use Rattle.mesi_cache.specs.declared.lines.HeldLine.{HeldLine}
use Rattle.mesi_cache.specs.Lines.{held_line, written, may_write}
use Rattle.mesi_cache.specs.Words.{word_of, with_word}
use Rattle.mesi_cache.specs.Caches.{IsCache, line_in, read_line, write_line}
use Rattle.rv_decode.specs.Decoding.{instr_of}
use Rattle.status_map.specs.declared.views.EntryView.{EntryView}
use Rattle.status_map.specs.declared.views.Delays.{Delays}
use Rattle.timed_core.specs.Accesses.{is_aligned, hits, word_in_line, held_in, hit, missed, looked_up, is_reserved, failed, tried, accessed}
use Rattle.timed_core.specs.Code.{CodeValue, is_in_memory, word_at}
use Rattle.timed_core.specs.Cores.{HartValue, is_running, line_number, gives, goes_on, completed, trapped}
use Rattle.timed_core.specs.Effects.{effect_of, cost_of}
use Rattle.timed_core.specs.Touches.{touched_at}
use Rattle.timed_core.specs.Ticks.{called, performed, decoded, fetched, stepped}
use Rattle.timed_core.specs.declared.accesses.Access.{Access}
use Rattle.timed_core.specs.declared.accesses.Access.TheVariants.{Load, Store, LoadReserved, StoreConditional, Amo}
use Rattle.timed_core.specs.declared.effects.Effect.{Effect}
use Rattle.timed_core.specs.declared.effects.Effect.TheVariants.{Write, Jump, Branch, Pass, Memory, Stop, Call}
use Rattle.coherence_law.specs.Lines.{Want, Nothing, Asked, Filling, Retrying, Part, changed}
use Rattle.coherence_law.specs.LineLaws.{IsUnwritable}
use Rattle.coherence_law.specs.Steps.{with_part, written_part, asking_part, IsServed}
use Rattle.coherence_law.proofs.Changes.{changed_at, changed_off}
use Rattle.coherence_law.proofs.Parts.{writes}
use Rattle.coherence_law.proofs.Rows.{reads, owns_line}
use Rattle.coherence_law.proofs.Applied.{AreLines, AreStepped}
use Rattle.timed_core.proofs.Held.{read_held, write_other, write_same, read_is, write_is}
use Rattle.coherence_law.proofs.Pending.{Picks, answer_of, answer}
use Rattle.coherence_law.proofs.World.{upd, upd_at, upd_off, pending, is_wanting, IsPartOf, AreParts, IsBefore}

-- one core changes, and no post is taken
module _ (l c : ℕ) (asked asked' : ℕ → ℕ) (inner : ℕ → HartValue) (base : ℕ → List Post) (sent : List Post) (core : HartValue) (same : (k : ℕ) → k ≢ c → asked' k ≡ asked k) where
  core_parts : (parts parts' : ℕ → Part) → ((k : ℕ) → k ≢ c → parts' k ≡ parts k) → AreParts l asked inner base sent parts
      → IsPartOf l (asked' c) core (pending base sent c) (parts' c) → AreParts l asked' (upd c core inner) base sent parts'
  core_parts parts parts' off are here k = elim (cases_eq k c) [
    | inl e ↦ subst (λ j. IsPartOf l (asked' j) (upd c core inner j) (pending base sent j) (parts' j)) (sym e)
        (subst (λ i. IsPartOf l (asked' c) i (pending base sent c) (parts' c)) (sym (upd_at c core inner)) here)
    | inr n ↦
        subst (λ i. IsPartOf l (asked' k) i (pending base sent k) (parts' k)) (sym (upd_off c core inner k n))
        (subst (λ q. IsPartOf l (asked' k) (inner k) (pending base sent k) q) (sym (off k n))
        (subst (λ a. IsPartOf l a (inner k) (pending base sent k) (parts k)) (sym (same k n)) (are k)))
  ]

  core_changed : (parts : ℕ → Part) (q : Part) → AreParts l asked inner base sent parts
      → IsPartOf l (asked' c) core (pending base sent c) q → AreParts l asked' (upd c core inner) base sent (changed c q parts)
  core_changed parts q are here =
      core_parts parts (changed c q parts) (changed_off c q parts) are
      (subst (λ r. IsPartOf l (asked' c) core (pending base sent c) r) (sym (changed_at c q parts c refl)) here)

-- the lines after a step of a core, which waits for a line of its own choice
pub record IsStepped (lines t : ℕ) (inner : ℕ → HartValue) (base : ℕ → List Post) (sent : List Post) (entry : ℕ → EntryView) (after : HartValue) (ask : Option Ask) : Type 0 where
  pub cache : IsCache after.cache
  pub asked : ℕ → ℕ
  pub stepped : AreStepped lines t asked inner base sent entry ask

nothing_wanted : (w : Want) → is_wanting w ≡ false → w ≡ Nothing
nothing_wanted Nothing e = refl
nothing_wanted Asked e = absurd (false≢true (sym e))
nothing_wanted (Filling due exclusive words) e = absurd (false≢true (sym e))
nothing_wanted (Retrying due) e = absurd (false≢true (sym e))

some_held : (o : Option CacheLine) (h : HeldLine) (place value : ℕ) → option_map held_line o ≡ Some h
    → option_map held_line (option_map (written place value) o) ≡ Some (record { held = M; words = with_word h.words place value })
some_held None h place value e = absurd (cc)
some_held (Some x) h place value e = ap (option_map (λ (g : HeldLine). record { held = M; words = with_word g.words place value })) e

line_below : (code : CodeValue) (lines address : ℕ) → length code.bytes ≡ 16 * lines → is_in_memory code address ≡ true → line_number code.base address < lines
line_below code lines address whole inside =
    let parts = and_parts (nat_le code.base address) (nat_lt address (code.base + length code.bytes)) inside in
    let low : code.base ≤ address = grind (arith, nat_tests, parts.0) in
    let high : address < code.base + length code.bytes = grind (arith, nat_tests, parts.1) in
    omega arith

module _ (lines t : ℕ) (asked : ℕ → ℕ) (inner : ℕ → HartValue) (base : ℕ → List Post) (sent : List Post) (entry : ℕ → EntryView)
    (c : ℕ) (world : AreLines lines t asked inner base sent entry) (core : HartValue) (same_cache : core.cache ≡ (inner c).cache) (same_waiting : core.waiting ≡ (inner c).waiting)
    (cache : IsCache core.cache) (id : Id) (mine : id.core ≡ c) (low : c < MOST_CORES) where
  abbrev Becomes : HartValue × Option Ask → Type 0
  Becomes out = IsStepped lines t (upd c out.0 inner) base sent entry out.0 out.1

  -- what the core has of a line: its cache and its waiting are those that the machine has of it
  own_part : (l : ℕ) (within : l < lines) → IsPartOf l (asked c) core (pending base sent c) ((world l within).line.parts c)
  own_part l within =
      let part = (world l within).parts c in
      record {
        held = part.held ∙ ap (λ k. held_in k l) (sym same_cache);
        wants = part.wants ∙ ap (λ b. b && (asked c == l)) (sym same_waiting);
        posts = part.posts;
      }

  -- the core has the same of each line
  same_lines : (after : HartValue) → ((l : ℕ) → held_in after.cache l ≡ held_in core.cache l) → after.waiting ≡ core.waiting → AreLines lines t asked (upd c after inner) base sent entry
  same_lines after held waiting l within =
      let x = world l within in
      record {
        line = x.line;
        entry = x.entry;
        parts = core_parts l c asked asked inner base sent after (λ k n. refl) x.line.parts x.line.parts (λ k n. refl) x.parts
            (record { held = (own_part l within).held ∙ sym (held l); wants = (own_part l within).wants ∙ ap (λ b. b && (asked c == l)) (sym waiting); posts = (own_part l within).posts });
        kept = x.kept;
      }

  quiet : (after : HartValue) → after.cache ≡ core.cache → after.waiting ≡ core.waiting → Becomes (after, None)
  quiet after its_cache waiting = record { cache = subst IsCache (sym its_cache) cache; asked = asked; stepped = same_lines after (λ l. ap (λ k. held_in k l) its_cache) waiting }

  puts : (after : HartValue) (byte : ℕ) → after.cache ≡ core.cache → after.waiting ≡ core.waiting → Becomes (after, Some (Put id byte))
  puts after byte its_cache waiting = record { cache = subst IsCache (sym its_cache) cache; asked = asked; stepped = same_lines after (λ l. ap (λ k. held_in k l) its_cache) waiting }

  reads_hit : (line : ℕ) (after : HartValue) → after.cache ≡ read_line core.cache line → after.waiting ≡ core.waiting → Becomes (after, None)
  reads_hit line after its_cache waiting = record { cache = subst IsCache (sym its_cache) (read_is core.cache cache line); asked = asked; stepped = same_lines after (λ l. ap (λ k. held_in k l) its_cache ∙ read_held core.cache cache line l) waiting }

  writes_hit : (line place value : ℕ) (h : HeldLine) (after : HartValue) → held_in core.cache line ≡ Some h → may_write h.held ≡ true
      → after.cache ≡ write_line core.cache line place value → after.waiting ≡ core.waiting → Becomes (after, None)
  writes_hit line place value h after held may its_cache waiting = record {
    cache = subst IsCache (sym its_cache) (write_is core.cache cache line place value);
    asked = asked;
    stepped = λ l within. elim (cases_eq l line) [
      | inl e ↦
          let x = world l within in
          let words = with_word h.words place value in
          let was : (x.line.parts c).held ≡ Some h = (own_part l within).held ∙ ap (held_in core.cache) e ∙ held in
          record {
            line = with_part c (written_part words (x.line.parts c)) x.line;
            entry = x.entry;
            parts = core_changed l c asked asked inner base sent after (λ k n. refl) x.line.parts (written_part words (x.line.parts c)) x.parts
                (record {
                  held = sym (ap (λ k. held_in k l) its_cache ∙ subst (λ j. held_in (write_line core.cache line place value) j ≡ Some (record { held = M; words = words })) (sym e)
                      (write_same core.cache cache line place value ∙ some_held (line_in core.cache line) h place value held));
                  wants = (own_part l within).wants ∙ ap (λ b. b && (asked c == l)) (sym waiting);
                  posts = let g = (own_part l within).posts in record { answer = g.answer; invalidate = g.invalidate; snoop = g.snoop };
                });
            kept = writes t c h words x.line was may x.kept;
          }
      | inr n ↦
          let x = world l within in
          record {
            line = x.line;
            entry = x.entry;
            parts = core_parts l c asked asked inner base sent after (λ k n. refl) x.line.parts x.line.parts (λ k n. refl) x.parts
                (record {
                  held = (own_part l within).held ∙ sym (ap (λ k. held_in k l) its_cache ∙ write_other core.cache cache line place value l n);
                  wants = (own_part l within).wants ∙ ap (λ b. b && (asked c == l)) (sym waiting);
                  posts = (own_part l within).posts;
                });
            kept = x.kept;
          }
    ];
  }

  -- a miss: the core asks, and waits for the line
  module _ (line : ℕ) (after : HartValue) (its_cache : after.cache ≡ core.cache) (idle : core.waiting ≡ false) (waits : after.waiting ≡ true) where
    abbrev asked_then : ℕ → ℕ
    asked_then = upd c line asked

    unwanted : (l : ℕ) (within : l < lines) → is_wanting ((world l within).line.parts c).want ≡ false
    unwanted l within = (own_part l within).wants ∙ ap (λ b. b && (asked c == l)) idle

    asking : (ask : Ask) (l : ℕ) → l < lines → ((d : Delays) (grant : ℕ) → t ≤ grant → d.snoop < d.memory → (within : line < lines) → IsServed t d grant ask (with_part c (asking_part ((world line within).line.parts c)) (world line within).line))
        → (d : Delays) (grant : ℕ) → t ≤ grant → d.snoop < d.memory → IsBefore t d grant ask line l asked_then (upd c after inner) base sent (entry l)
    asking ask l within served d grant soon short = elim (cases_eq l line) [
      | inl e ↦
          let x = world l within in
          record {
            line = with_part c (asking_part (x.line.parts c)) x.line;
            entry = x.entry;
            parts = core_changed l c asked asked_then inner base sent after (upd_off c line asked) x.line.parts (asking_part (x.line.parts c)) x.parts
                (record {
                  held = (own_part l within).held ∙ ap (λ k. held_in k l) (sym its_cache);
                  wants = sym (ap (λ b. b && (asked_then c == l)) waits ∙ ap (λ a. a == l) (upd_at c line asked) ∙ eq-eqb line l (sym e));
                  posts = let g = (own_part l within).posts in record { answer = subst (λ w. Picks (answer_of l) (pending base sent c) (answer w)) (nothing_wanted (x.line.parts c).want (unwanted l within)) g.answer; invalidate = g.invalidate; snoop = g.snoop };
                });
            kept = λ n. absurd (n e);
            served = λ _. subst (λ j. (within : j < lines) → IsServed t d grant ask (with_part c (asking_part ((world j within).line.parts c)) (world j within).line)) (sym e) (served d grant soon short) within;
          }
      | inr n ↦
          let x = world l within in
          record {
            line = x.line;
            entry = x.entry;
            parts = core_parts l c asked asked_then inner base sent after (upd_off c line asked) x.line.parts x.line.parts (λ k n. refl) x.parts
                (record {
                  held = (own_part l within).held ∙ ap (λ k. held_in k l) (sym its_cache);
                  wants = unwanted l within ∙ sym (ap (λ b. b && (asked_then c == l)) waits ∙ ap (λ a. a == l) (upd_at c line asked) ∙ ne_eqb line l (λ e. n (sym e)));
                  posts = (own_part l within).posts;
                });
            kept = λ _. x.kept;
            served = λ e. absurd (n e);
          }
    ]

    want_nothing : (within : line < lines) → ((world line within).line.parts c).want ≡ Nothing
    want_nothing within = nothing_wanted ((world line within).line.parts c).want (unwanted line within)

    read_miss : line < lines → held_in core.cache line ≡ None → Becomes (after, Some (Read id line))
    read_miss inside none = record {
      cache = subst IsCache (sym its_cache) cache;
      asked = asked_then;
      stepped = (
        inside,
        λ d grant soon short l within. asking (Read id line) l within
            (λ d grant soon short within. reads t c grant line d id (world line within).line ((own_part line within).held ∙ none) (want_nothing within) soon mine low (world line within).kept)
            d grant soon short,
      );
    }

    own_miss : line < lines → IsUnwritable (held_in core.cache line) → Becomes (after, Some (ReadOwn id line))
    own_miss inside unwritable = record {
      cache = subst IsCache (sym its_cache) cache;
      asked = asked_then;
      stepped = (
        inside,
        λ d grant soon short l within. asking (ReadOwn id line) l within
            (λ d grant soon short within. owns_line t c grant line d id (world line within).line (subst IsUnwritable (sym (own_part line within).held) unwritable) (want_nothing within) soon mine low short (world line within).kept)
            d grant soon short,
      );
    }

  -- an access
  module _ (code_base address cost : ℕ) (idle : core.waiting ≡ false) (inside : line_number code_base address < lines) where
    abbrev line : ℕ
    line = line_number code_base address

    hit_lines : (h : HeldLine) (access : Access) → held_in core.cache line ≡ Some h → hits access h.held ≡ true → (old : ℕ) → Becomes (hit access code_base address old cost core, None)
    unfolding hit
    hit_lines h (Load op rd) held may old = reads_hit line _ refl refl
    hit_lines h (Store op value) held may old = writes_hit line (word_in_line address) _ h _ held may refl refl
    hit_lines h (LoadReserved rd) held may old = reads_hit line _ refl refl
    hit_lines h (StoreConditional rd value) held may old = writes_hit line (word_in_line address) _ h _ held may refl refl
    hit_lines h (Amo op rd operand) held may old = writes_hit line (word_in_line address) _ h _ held may refl refl

    none_lines : (access : Access) → held_in core.cache line ≡ None → Becomes (missed access id line core)
    none_lines (Load op rd) none = read_miss line _ refl idle refl inside none
    none_lines (Store op value) none = own_miss line _ refl idle refl inside (subst IsUnwritable (sym none) tt)
    none_lines (LoadReserved rd) none = read_miss line _ refl idle refl inside none
    none_lines (StoreConditional rd value) none = own_miss line _ refl idle refl inside (subst IsUnwritable (sym none) tt)
    none_lines (Amo op rd operand) none = own_miss line _ refl idle refl inside (subst IsUnwritable (sym none) tt)

    miss_lines : (h : HeldLine) (access : Access) → held_in core.cache line ≡ Some h → hits access h.held ≡ false → Becomes (missed access id line core)
    miss_lines h (Load op rd) held misses = absurd (false≢true (sym misses))
    miss_lines h (Store op value) held misses = own_miss line _ refl idle refl inside (subst IsUnwritable (sym held) misses)
    miss_lines h (LoadReserved rd) held misses = absurd (false≢true (sym misses))
    miss_lines h (StoreConditional rd value) held misses = own_miss line _ refl idle refl inside (subst IsUnwritable (sym held) misses)
    miss_lines h (Amo op rd operand) held misses = own_miss line _ refl idle refl inside (subst IsUnwritable (sym held) misses)

    looked_up_as : (o : Option HeldLine) → held_in core.cache line ≡ o → (access : Access) → Becomes (looked_up o access code_base address cost id core)
    unfolding looked_up
    looked_up_as None is access = none_lines access is
    looked_up_as (Some h) is access = elim (cases_Bool (hits access h.held)) [
      | inl y ↦ rw y (hit_lines h access is y (word_of h.words (word_in_line address)))
      | inr n ↦ rw n (miss_lines h access is n)
    ]

    looked_up_lines : (access : Access) → Becomes (looked_up (held_in core.cache line) access code_base address cost id core)
    looked_up_lines access = looked_up_as (held_in core.cache line) refl access

    tried_lines : (access : Access) → Becomes (tried access code_base address cost id core)
    unfolding tried
    tried_lines (Load op rd) = looked_up_lines (Load op rd)
    tried_lines (Store op value) = looked_up_lines (Store op value)
    tried_lines (LoadReserved rd) = looked_up_lines (LoadReserved rd)
    tried_lines (StoreConditional rd value) = elim (cases_Bool (is_reserved core.reservation address)) [
      | inl y ↦ rw y (looked_up_lines (StoreConditional rd value))
      | inr n ↦ rw n (quiet (failed rd cost core) refl refl)
    ]
    tried_lines (Amo op rd operand) = looked_up_lines (Amo op rd operand)

-- an instruction of the core as the machine has it
module _ (lines t : ℕ) (asked : ℕ → ℕ) (inner : ℕ → HartValue) (base : ℕ → List Post) (sent : List Post) (entry : ℕ → EntryView)
    (c : ℕ) (world : AreLines lines t asked inner base sent entry) (cache : IsCache (inner c).cache) (id : Id) (mine : id.core ≡ c) (low : c < MOST_CORES) where
  abbrev hart : HartValue
  hart = inner c

  abbrev Leads : HartValue × Option Ask → Type 0
  Leads out = IsStepped lines t (upd c out.0 inner) base sent entry out.0 out.1

  quietly : (after : HartValue) → after.cache ≡ hart.cache → after.waiting ≡ hart.waiting → Leads (after, None)
  quietly = quiet lines t asked inner base sent entry c world hart refl refl cache id mine low

  module _ (code : CodeValue) (whole : length code.bytes ≡ 16 * lines) where
    accessed_lines : (access : Access) (address cost : ℕ) → hart.waiting ≡ false → Leads (accessed code access address cost id hart)
    unfolding accessed
    accessed_lines access address cost idle = elim (cases_Bool (is_aligned access address)) [
      | inl y ↦ elim (cases_Bool (is_in_memory code address)) [
        | inl z ↦ rw (y, z) (tried_lines lines t asked inner base sent entry c world (touched_at id.cycle (line_number code.base address) hart) refl refl cache id mine low
            code.base address cost idle (line_below code lines address whole z) access)
        | inr z ↦ rw (y, z) (quietly (trapped hart id.cycle (Outside address)) refl refl)
      ]
      | inr n ↦ rw n (quietly (trapped hart id.cycle (Misaligned address)) refl refl)
    ]

    called_lines : (cost : ℕ) → Leads (called cost id hart)
    unfolding called
    called_lines cost = elim (cases_Bool (get_or hart.registers 17 0 == 1)) [
      | inl y ↦ rw y (puts lines t asked inner base sent entry c world hart refl refl cache id mine low (goes_on cost hart) _ refl refl)
      | inr n ↦ elim (cases_Bool (get_or hart.registers 17 0 == 93)) [
        | inl y ↦ rw (n, y) (quietly _ refl refl)
        | inr m ↦ rw (n, m) (quietly (trapped hart id.cycle _) refl refl)
      ]
    ]

    performed_lines : (effect : Effect) (cost : ℕ) → hart.waiting ≡ false → Leads (performed code effect cost id hart)
    unfolding performed
    performed_lines (Write rd value) cost idle = quietly (gives rd value cost hart) refl refl
    performed_lines (Jump rd target) cost idle = quietly _ refl refl
    performed_lines (Branch target) cost idle = quietly (completed hart hart.registers target cost) refl refl
    performed_lines Pass cost idle = quietly (goes_on cost hart) refl refl
    performed_lines (Memory address access) cost idle = accessed_lines access address cost idle
    performed_lines (Stop trap) cost idle = quietly (trapped hart id.cycle trap) refl refl
    performed_lines Call cost idle = called_lines cost

    decoded_lines : (instr : Option Instr) (bits : ℕ) → hart.waiting ≡ false → Leads (decoded code instr bits id hart)
    unfolding decoded
    decoded_lines None bits idle = quietly (trapped hart id.cycle (Illegal bits)) refl refl
    decoded_lines (Some instr) bits idle = performed_lines (effect_of instr hart.registers hart.pc) (cost_of instr) idle

    fetched_lines : (bits : Option ℕ) → hart.waiting ≡ false → Leads (fetched code bits id hart)
    unfolding fetched
    fetched_lines None idle = quietly (trapped hart id.cycle (Fetch hart.pc)) refl refl
    fetched_lines (Some bits) idle = decoded_lines (instr_of bits) bits idle

    abbrev waited : HartValue
    waited = record hart { counts = record hart.counts { waits = raised hart.counts.waits } }

    waiting_lines : (waiting : Bool) → hart.waiting ≡ waiting → Leads (cond waiting (waited, None) (fetched code (word_at code hart.pc) id hart))
    waiting_lines true is = quietly waited refl refl
    waiting_lines false is = fetched_lines (word_at code hart.pc) is

    pub stepped_lines : Leads (stepped code id hart)
    unfolding stepped
    stepped_lines = elim (cases_Bool (is_running hart.ended)) [
      | inl running ↦ elim (cases_Bool (hart.busy == 0)) [
        | inl free ↦ rw (running, free) (waiting_lines hart.waiting refl)
        | inr busy ↦ rw (running, busy) (quietly _ refl refl)
      ]
      | inr ended ↦ rw ended (quietly hart refl refl)
    ]
