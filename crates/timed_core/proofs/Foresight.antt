-- As far as its next instructions tell, a hart asks for nothing.
use Rattle.std.proofs.Common.{◌≡◌, ◌≢◌, ◌∙◌, ℕ, ℤ, zero, suc, ◌+◌, ◌-◌, ◌<◌, ◌≤◌, ◌%◌, ◌==◌, Bool, true, false, not, Option, None, Some, List, [], ◌++◌, length, get_or, set, ◌⊎◌, inl, inr, refl, sym, ap, subst, arith, cond, length-set, get_or-set_same, get_or-set_other}
use Rattle.std.specs.Prelude.{slice_index, slice_index_or, slice_set, ◌&&◌}
use Rattle.std.specs.Option.{option_map}
use Rattle.std.proofs.Math.ListN.{get_or-eq_default}
use Rattle.std.proofs.lemmas.Bool.{cases_Bool, cases_eq, cases_lt, true≢false}
use Rattle.std.proofs.lemmas.Bool.Decides.{nat_tests}
use Rattle.slack_base.specs.declared.stamps.Id.{Id}
use Rattle.slack_base.specs.declared.messages.Ask.{Ask}
use Rattle.slack_base.specs.declared.instructions.Instr.{Instr}
use Rattle.slack_base.specs.declared.instructions.Instr.TheVariants.{Lui, Auipc, Jal, Jalr, Branch as BranchInstr, Load as LoadInstr, Store as StoreInstr, Imm, Shift, Reg, Lr, Sc, Amo as AmoInstr, Fence, Ecall, Ebreak}
use Rattle.slack_base.specs.declared.instructions.LoadOp.{LoadOp}
use Rattle.slack_base.specs.declared.instructions.StoreOp.{StoreOp}
use Rattle.slack_base.specs.declared.instructions.RegOp.{RegOp}
use Rattle.slack_base.specs.declared.instructions.RegOp.TheVariants as operations
use Rattle.rv_exec.specs.Access.{load_of, store_of}
use Rattle.rv_exec.specs.Target.{target_of}
use Rattle.rv_exec.specs.Branch.{is_taken}
use Rattle.mesi_cache.specs.declared.lines.CacheLine.{CacheLine}
use Rattle.mesi_cache.specs.Lines.{held_line, written}
use Rattle.mesi_cache.specs.Words.{word_of}
use Rattle.mesi_cache.specs.Caches.{CacheValue, IsCache, line_in, read_line, write_line}
use Rattle.timed_core.specs.Accesses.{is_aligned, is_write, hits, word_in_line, held_in, with_access, hit, missed, looked_up, tried, accessed}
use Rattle.timed_core.specs.Code.{CodeValue, instr_at, is_in_memory}
use Rattle.timed_core.specs.Cores.{HartValue, is_running, with_register, next_of, goes_on, gives, line_number}
use Rattle.timed_core.specs.Effects.{goes_to, reg_cost_of, effect_of}
use Rattle.timed_core.specs.Foresight.{hits_state, hits_line, hits_ahead, after_write, after_pass, after_jump, course_of, cycles_by, goes_on as goes_further, cycles_ahead, here}
use Rattle.timed_core.specs.Outcomes.{executed}
use Rattle.timed_core.specs.Stretches.{stretch}
use Rattle.timed_core.specs.Ticks.{asks_of, id_at, performed, stepped}
use Rattle.timed_core.specs.Touches.{touched_at}
use Rattle.timed_core.specs.declared.accesses.Access.{Access}
use Rattle.timed_core.specs.declared.accesses.Access.TheVariants.{Load, Store}
use Rattle.timed_core.specs.declared.effects.Effect.{Effect}
use Rattle.timed_core.specs.declared.effects.Effect.TheVariants.{Jump, Branch}
use Rattle.timed_core.specs.declared.harts.foresight.Ahead.{Ahead}
use Rattle.timed_core.specs.declared.harts.foresight.Course.{Course}
use Rattle.timed_core.specs.declared.harts.foresight.Course.TheVariants.{MayAsk, Turns, GoesOn}
use Rattle.timed_core.proofs.Fetching.{executed_of}
use Rattle.timed_core.proofs.Held.{read_held, write_other, write_same, read_is, write_is}
use Rattle.timed_core.proofs.Stretches.{ready_step, busy_step, ended_leap}

-- a register that isn't among those written keeps its word
module _ (marks : List Bool) (x : List ℕ) (rd value r : ℕ) (marked : length marks ≡ 32) (size : length x ≡ 32)
    (out : get_or (set marks rd true) r false ≡ false) where
  register_kept : get_or (set x rd value) r 0 ≡ get_or x r 0
  register_kept = elim (cases_eq r rd) [
    | inl same ↦ elim (cases_lt rd 32) [
      | inl within ↦
          let up : get_or (set marks rd true) rd false ≡ true = get_or-set_same marks rd true false (subst (λ n. rd < n) (sym marked) within) in
          absurd (true≢false (sym up ∙ ap (λ n. get_or (set marks rd true) n false) (sym same) ∙ out))
      | inr past ↦
          let far : length x ≤ r = subst (λ n. length x ≤ n) (sym same) (subst (λ n. n ≤ rd) (sym size) past) in
          let far' : length (set x rd value) ≤ r = subst (λ n. n ≤ r) (sym (length-set x rd value)) far in
          get_or-eq_default (set x rd value) 0 far' ∙ sym (get_or-eq_default x 0 far)
    ]
    | inr other ↦ get_or-set_other x rd r value 0 other
  ]

  pub written_kept : get_or (with_register x rd value) r 0 ≡ get_or x r 0
  written_kept = elim (rd == 0) as (λ b. get_or (cond b x (slice_set x rd value)) r 0 ≡ get_or x r 0) [ true ↦ refl | false ↦ register_kept ]

  pub mark_kept : get_or marks r false ≡ false
  mark_kept = elim (cases_eq r rd) [
    | inl same ↦ elim (cases_lt rd 32) [
      | inl within ↦
          let up : get_or (set marks rd true) rd false ≡ true = get_or-set_same marks rd true false (subst (λ n. rd < n) (sym marked) within) in
          absurd (true≢false (sym up ∙ ap (λ n. get_or (set marks rd true) n false) (sym same) ∙ out))
      | inr past ↦ get_or-eq_default marks false (subst (λ n. length marks ≤ n) (sym same) (subst (λ n. n ≤ rd) (sym marked) past))
    ]
    | inr other ↦ sym (get_or-set_other marks rd r true false other) ∙ out
  ]

register_size : (x : List ℕ) (rd value : ℕ) → length (with_register x rd value) ≡ length x
register_size x rd value = elim (rd == 0) as (λ b. length (cond b x (slice_set x rd value)) ≡ length x) [ true ↦ refl | false ↦ length-set x rd value ]

-- the state of a line, by what is held of it
state_of : (o : Option CacheLine) → option_map (λ l. l.held) o ≡ option_map (λ h. h.held) (option_map held_line o)
state_of None = refl
state_of (Some l) = refl

still_hits : (stores : Bool) (place value : ℕ) (o : Option CacheLine) → hits_state stores (option_map (λ l. l.held) o) ≡ true
    → hits_state stores (option_map (λ h. h.held) (option_map held_line (option_map (written place value) o))) ≡ true
still_hits stores place value None h = h
still_hits true place value (Some l) h = refl
still_hits false place value (Some l) h = refl

module _ (c : CacheValue) (is : IsCache c) (m : ℕ) (stores : Bool) (line : ℕ) (h : hits_line stores c line ≡ true) where
  -- what hits goes on to hit after a read, and after a write
  pub hits_after_read : hits_line stores (read_line c m) line ≡ true
  hits_after_read =
      ap (hits_state stores) (state_of (line_in (read_line c m) line) ∙ ap (option_map (λ h. h.held)) (read_held c is m line) ∙ sym (state_of (line_in c line))) ∙ h

  pub hits_after_write : (place value : ℕ) → hits_line stores (write_line c m place value) line ≡ true
  hits_after_write place value = elim (cases_eq line m) [
    | inl same ↦
        let was = subst (λ n. hits_line stores c n ≡ true) same h in
        subst (λ n. hits_line stores (write_line c m place value) n ≡ true) (sym same)
        (ap (hits_state stores) (state_of (line_in (write_line c m place value) m) ∙ ap (option_map (λ h. h.held)) (write_same c is m place value))
        ∙ still_hits stores place value (line_in c m) was)
    | inr other ↦
        ap (hits_state stores) (state_of (line_in (write_line c m place value) line) ∙ ap (option_map (λ h. h.held)) (write_other c is m place value line other) ∙ sym (state_of (line_in c line))) ∙ h
  ]

-- a load or store of a line that hits it
module _ (access : Access) (base address : ℕ) (id : Id) (core : HartValue) where
  pub record IsHit (out : HartValue × Option Ask) : Type 0 where
    pub old : ℕ
    pub is : out ≡ (hit access base address old 1 core, None)

  looks : (o : Option CacheLine) → hits_state (is_write access) (option_map (λ l. l.held) o) ≡ true → IsHit (looked_up (option_map held_line o) access base address 1 id core)
  unfolding looked_up
  looks None h = absurd (true≢false (sym h))
  looks (Some l) h = record {
    old = word_of l.words (word_in_line address);
    is = ap {B = HartValue × Option Ask} (λ b. cond b (hit access base address (word_of l.words (word_in_line address)) 1 core, None) (missed access id (line_number base address) core)) h;
  }

module _ (code : CodeValue) (first : HartValue) where
  -- what stays so of a hart that goes on as foreseen
  pub record IsAsForeseen (at : Ahead) (core : HartValue) : Type 0 where
    pub running : is_running core.ended ≡ true
    pub awake : core.waiting ≡ false
    pub pc : core.pc ≡ at.address
    pub registers : (r : ℕ) → get_or at.written r false ≡ false → get_or core.registers r 0 ≡ get_or first.registers r 0
    pub size : length core.registers ≡ 32
    pub marks : length at.written ≡ 32
    pub cache : IsCache core.cache
    pub lines : (stores : Bool) (line : ℕ) → hits_line stores first.cache line ≡ true → hits_line stores core.cache line ≡ true

  -- what a step comes to, by what is known of its instruction
  abbrev pub goes_as : Course → Ahead → HartValue × Option Ask → Type 0
  goes_as MayAsk at out = Unit {0}
  goes_as Turns at out = out.1 ≡ None
  goes_as (GoesOn cost) at out = (out.1 ≡ None) × (1 ≤ cost) × ((is_running out.0.ended ≡ false) ⊎ ((out.0.busy ≡ cost - 1) × IsAsForeseen at out.0))

  module _ (at : Ahead) (mid : HartValue) (h : IsAsForeseen at mid) where
    gives_as : (rd value cost : ℕ) → IsAsForeseen (after_write rd at) (gives rd value cost mid)
    gives_as rd value cost = record {
      running = h.running;
      awake = h.awake;
      pc = ap next_of h.pc;
      registers = λ r out. written_kept at.written mid.registers rd value r h.marks h.size out ∙ h.registers r (mark_kept at.written mid.registers rd value r h.marks h.size out);
      size = register_size mid.registers rd value ∙ h.size;
      marks = length-set at.written rd true ∙ h.marks;
      cache = h.cache;
      lines = h.lines;
    }

    goes_on_as : (cost : ℕ) → IsAsForeseen (after_pass at) (goes_on cost mid)
    goes_on_as cost = record { running = h.running; awake = h.awake; pc = ap next_of h.pc; registers = h.registers; size = h.size; marks = h.marks; cache = h.cache; lines = h.lines }

    write_goes : (rd value cost : ℕ) → 1 ≤ cost → goes_as (GoesOn cost) (after_write rd at) (gives rd value cost mid, None)
    write_goes rd value cost some = (refl, some, inr (refl, gives_as rd value cost))

    -- JAL goes to its target, or traps there
    jump_goes : (id : Id) (rd : ℕ) (offset : ℤ) → goes_as (GoesOn 1) (after_jump rd offset at) (performed code (goes_to (target_of mid.pc offset) (Jump rd (target_of mid.pc offset))) 1 id mid)
    unfolding performed
    jump_goes id rd offset = elim (cases_Bool (target_of mid.pc offset % 4 == 0)) [
      | inl aligned ↦ rw aligned (
        refl,
        omega arith,
        inr (
          refl,
          record {
            running = h.running;
            awake = h.awake;
            pc = ap (λ a. target_of a offset) h.pc;
            registers = λ r out. written_kept at.written mid.registers rd (next_of mid.pc) r h.marks h.size out ∙ h.registers r (mark_kept at.written mid.registers rd (next_of mid.pc) r h.marks h.size out);
            size = register_size mid.registers rd (next_of mid.pc) ∙ h.size;
            marks = length-set at.written rd true ∙ h.marks;
            cache = h.cache;
            lines = h.lines;
          },
        ),
      )
      | inr traps ↦ rw traps (refl, omega arith, inl refl)
    ]

    touched_as : (t line : ℕ) → IsAsForeseen at (touched_at t line mid)
    touched_as t line = record { running = h.running; awake = h.awake; pc = h.pc; registers = h.registers; size = h.size; marks = h.marks; cache = h.cache; lines = h.lines }

    read_as : (m : ℕ) → IsAsForeseen at (with_access mid (read_line mid.cache m))
    read_as m = record {
      running = h.running;
      awake = h.awake;
      pc = h.pc;
      registers = h.registers;
      size = h.size;
      marks = h.marks;
      cache = read_is mid.cache h.cache m;
      lines = λ stores line hits. hits_after_read mid.cache h.cache m stores line (h.lines stores line hits);
    }

    write_as : (m place value : ℕ) → IsAsForeseen at (with_access mid (write_line mid.cache m place value))
    write_as m place value = record {
      running = h.running;
      awake = h.awake;
      pc = h.pc;
      registers = h.registers;
      size = h.size;
      marks = h.marks;
      cache = write_is mid.cache h.cache m place value;
      lines = λ stores line hits. hits_after_write mid.cache h.cache m stores line (h.lines stores line hits) place value;
    }

  -- what a test by `and` says
  both_of : (a b : Bool) → (a && b) ≡ true → (a ≡ true) × (b ≡ true)
  both_of true b h = (refl, h)
  both_of false b h = absurd (true≢false (sym h))

  not_of : (a : Bool) → not a ≡ true → a ≡ false
  not_of true h = absurd (true≢false (sym h))
  not_of false h = refl

  -- what is known where a load or store ahead certainly hits
  record AreHit (at : Ahead) (core : HartValue) (stores : Bool) (address : ℕ) : Type 0 where
    inside : is_in_memory code address ≡ true
    hit : hits_line stores core.cache (line_number code.base address) ≡ true

  module _ (at : Ahead) (core : HartValue) (h : IsAsForeseen at core) where
    are_hit : (stores : Bool) (rs1 : ℕ) (offset : ℤ) → hits_ahead code first at stores rs1 offset ≡ true → AreHit at core stores (target_of (slice_index core.registers rs1) offset)
    are_hit stores rs1 offset test =
        let unwritten = both_of (not (slice_index_or at.written rs1 false)) _ test in
        let rest = both_of (is_in_memory code (target_of (slice_index first.registers rs1) offset)) _ unwritten.1 in
        let same : slice_index first.registers rs1 ≡ slice_index core.registers rs1 = sym (h.registers rs1 (not_of _ unwritten.0)) in
        subst (λ word. AreHit at core stores (target_of word offset)) same
        (record { inside = rest.0; hit = h.lines stores (line_number code.base (target_of (slice_index first.registers rs1) offset)) rest.1 })

    module _ (access : Access) (id : Id) (address : ℕ) (are : AreHit at core (is_write access) address) where
      abbrev touched : HartValue
      touched = touched_at id.cycle (line_number code.base address) core

      -- an access that hits, but for a trap where it isn't aligned
      access_goes : (next : Ahead) → ((id' : Id) (base : ℕ) (c : HartValue) → tried access base address 1 id' c ≡ looked_up (held_in c.cache (line_number base address)) access base address 1 id' c)
          → ((old : ℕ) → ((hit access code.base address old 1 touched).busy ≡ 0) × IsAsForeseen next (hit access code.base address old 1 touched))
          → goes_as (GoesOn 1) next (accessed code access address 1 id core)
      unfolding accessed
      access_goes next looks_it such = elim (cases_Bool (is_aligned access address)) [
        | inl aligned ↦
            let one = looks access code.base address id touched (line_in core.cache (line_number code.base address)) are.hit in
            rw (aligned, are.inside) (subst (goes_as (GoesOn 1) next) (sym (looks_it id code.base touched ∙ one.is)) (refl, omega arith, inr (such one.old)))
        | inr traps ↦ rw traps (refl, omega arith, inl refl)
      ]

    load_goes : (id : Id) (op : LoadOp) (rd rs1 : ℕ) (offset : ℤ) (test : Bool) → hits_ahead code first at false rs1 offset ≡ test →
        let course = cond {A = Course × Ahead} test (GoesOn 1, after_write rd at) (MayAsk, at) in
        goes_as course.0 course.1 (accessed code (Load op rd) (target_of (slice_index core.registers rs1) offset) 1 id core)
    unfolding hit tried
    load_goes id op rd rs1 offset false is = tt
    load_goes id op rd rs1 offset true is =
        let address = target_of (slice_index core.registers rs1) offset in
        let are = are_hit false rs1 offset is in
        let m = line_number code.base address in
        access_goes (Load op rd) id address are (after_write rd at) (λ id' base c. refl)
        (λ old. (refl, gives_as at (with_access (touched (Load op rd) id address are) (read_line core.cache m)) (read_as at (touched (Load op rd) id address are) (touched_as at core h id.cycle m) m) rd (load_of op old (address % 4)) 1))

    store_goes : (id : Id) (op : StoreOp) (value rs1 : ℕ) (offset : ℤ) (test : Bool) → hits_ahead code first at true rs1 offset ≡ test →
        let course = cond {A = Course × Ahead} test (GoesOn 1, after_pass at) (MayAsk, at) in
        goes_as course.0 course.1 (accessed code (Store op value) (target_of (slice_index core.registers rs1) offset) 1 id core)
    unfolding hit tried
    store_goes id op value rs1 offset false is = tt
    store_goes id op value rs1 offset true is =
        let address = target_of (slice_index core.registers rs1) offset in
        let are = are_hit true rs1 offset is in
        let m = line_number code.base address in
        access_goes (Store op value) id address are (after_pass at) (λ id' base c. refl)
        (λ old. (
          refl,
          goes_on_as at (with_access (touched (Store op value) id address are) (write_line core.cache m (word_in_line address) (store_of op old (address % 4) value)))
              (write_as at (touched (Store op value) id address are) (touched_as at core h id.cycle m) m (word_in_line address) (store_of op old (address % 4) value)) 1,
        ))

    -- a jump or branch asks for nothing
    turn_goes : (id : Id) (target : ℕ) (effect : Effect) → (performed code effect 1 id core).1 ≡ None → (performed code (goes_to target effect) 1 id core).1 ≡ None
    unfolding performed
    turn_goes id target effect silent = elim (cases_Bool (target % 4 == 0)) [ inl aligned ↦ rw aligned silent | inr traps ↦ rw traps refl ]

    reg_goes : (op : RegOp) (rd value : ℕ) → goes_as (GoesOn (reg_cost_of op)) (after_write rd at) (gives rd value (reg_cost_of op) core, None)
    reg_goes op rd value = write_goes at core h rd value (reg_cost_of op) (cost_some op) where
      cost_some : (op : RegOp) → 1 ≤ reg_cost_of op
      cost_some operations.Add = omega arith
      cost_some operations.Sll = omega arith
      cost_some operations.Slt = omega arith
      cost_some operations.Sltu = omega arith
      cost_some operations.Xor = omega arith
      cost_some operations.Srl = omega arith
      cost_some operations.Or = omega arith
      cost_some operations.And = omega arith
      cost_some operations.Sub = omega arith
      cost_some operations.Sra = omega arith
      cost_some operations.Mul = omega arith
      cost_some operations.Mulh = omega arith
      cost_some operations.Mulhsu = omega arith
      cost_some operations.Mulhu = omega arith
      cost_some operations.Div = omega arith
      cost_some operations.Divu = omega arith
      cost_some operations.Rem = omega arith
      cost_some operations.Remu = omega arith

    -- an instruction does as is known of it
    instr_goes : (id : Id) (i : Instr) → goes_as (course_of code first at (Some i)).0 (course_of code first at (Some i)).1 (executed code (Some i) id core)
    unfolding executed performed effect_of
    instr_goes id (Lui rd upper) = write_goes at core h rd _ 1 (omega arith)
    instr_goes id (Auipc rd upper) = write_goes at core h rd _ 1 (omega arith)
    instr_goes id (Jal rd offset) = jump_goes at core h id rd offset
    instr_goes id (Jalr rd rs1 offset) = turn_goes id _ (Jump rd _) refl
    instr_goes id (BranchInstr op rs1 rs2 offset) = elim (cases_Bool (is_taken op (slice_index core.registers rs1) (slice_index core.registers rs2))) [
      | inl taken ↦ rw taken (turn_goes id _ (Branch _) refl)
      | inr on ↦ rw on refl
    ]
    instr_goes id (LoadInstr op rd rs1 offset) = load_goes id op rd rs1 offset (hits_ahead code first at false rs1 offset) refl
    instr_goes id (StoreInstr op rs1 rs2 offset) = store_goes id op (slice_index core.registers rs2) rs1 offset (hits_ahead code first at true rs1 offset) refl
    instr_goes id (Imm op rd rs1 value) = write_goes at core h rd _ 1 (omega arith)
    instr_goes id (Shift op rd rs1 amount) = write_goes at core h rd _ 1 (omega arith)
    instr_goes id (Reg op rd rs1 rs2) = reg_goes op rd _
    instr_goes id (Lr rd rs1 aq rl) = tt
    instr_goes id (Sc rd rs1 rs2 aq rl) = tt
    instr_goes id (AmoInstr op rd rs1 rs2 aq rl) = tt
    instr_goes id (Fence word) = (refl, omega arith, inr (refl, goes_on_as at core h 1))
    instr_goes id Ecall = tt
    instr_goes id Ebreak = refl

    step_goes : (id : Id) → core.busy ≡ 0 → (i : Option Instr) → i ≡ instr_at code core.pc → goes_as (course_of code first at i).0 (course_of code first at i).1 (stepped code id core)
    step_goes id free None is = tt
    step_goes id free (Some i) is =
        subst (goes_as (course_of code first at (Some i)).0 (course_of code first at (Some i)).1)
        (executed_of code id core (Some i) is refl ∙ sym (ready_step code id core (record { running = h.running; free = free; awake = h.awake })))
        (instr_goes id i)

  module _ (number : ℕ) where
    silent_after : (t k : ℕ) (core : HartValue) (out : HartValue × Option Ask) → stepped code (id_at t core number) core ≡ out → out.1 ≡ None
        → (stretch code number (t + 1) k out.0).1 ≡ [] → (stretch code number t (suc k) core).1 ≡ []
    silent_after t k core out is none rest =
        ap (λ now. asks_of now.1 ++ (stretch code number (t + 1) k now.0).1) is ∙ ap (λ o. asks_of o ++ (stretch code number (t + 1) k out.0).1) none ∙ rest

    abbrev pub Silent : (t k : ℕ) → Type 0
    Silent t k = (count : ℕ) (at : Ahead) (core : HartValue) → IsAsForeseen at core → k ≤ core.busy + cycles_ahead code first count at → (stretch code number t k core).1 ≡ []

    by_course : (t k count : ℕ) (core : HartValue) (course : Course) (next : Ahead) → goes_as course next (stepped code (id_at t core number) core)
        → suc k ≤ cycles_by course (cycles_ahead code first count next) → Silent (t + 1) k → (stretch code number t (suc k) core).1 ≡ []
    by_course t k count core MayAsk next goes le on = absurd (omega (arith, le))
    by_course t k count core Turns next goes le on =
        let last : 0 ≡ k = omega (arith, le) in
        silent_after t k core (stepped code (id_at t core number) core) refl goes (ap (λ n. (stretch code number (t + 1) n (stepped code (id_at t core number) core).0).1) (sym last))
    by_course t k count core (GoesOn cost) next goes le on =
        let out = stepped code (id_at t core number) core in
        silent_after t k core out refl goes.0 (elim goes.2 [
          | inl ended ↦ ap (λ r. r.1) (ended_leap k out.0 ended code number (t + 1))
          | inr such ↦ on count next out.0 such.1 (omega (arith, le, goes.1, such.0))
        ])

    foreseen_step : (t k count : ℕ) (at : Ahead) (core : HartValue) → IsAsForeseen at core → core.busy ≡ 0 → suc k ≤ core.busy + cycles_ahead code first count at
        → Silent (t + 1) k → (stretch code number t (suc k) core).1 ≡ []
    unfolding cycles_ahead
    foreseen_step t k zero at core h free le on = absurd (omega (arith, le, free))
    foreseen_step t k (suc count) at core h free le on =
        let course = course_of code first at (instr_at code at.address) in
        by_course t k count core course.0 course.1 (step_goes at core h (id_at t core number) free (instr_at code at.address) (ap (instr_at code) (sym h.pc)))
        (omega (arith, le, free)) on

    busy_less : (at : Ahead) (core : HartValue) (busy : ℕ) → IsAsForeseen at core → IsAsForeseen at (record core { busy = busy })
    busy_less at core busy h = record { running = h.running; awake = h.awake; pc = h.pc; registers = h.registers; size = h.size; marks = h.marks; cache = h.cache; lines = h.lines }

    -- so many cycles ask for nothing
    pub foreseen_silent : (t k : ℕ) → Silent t k
    foreseen_silent t zero count at core h le = refl
    foreseen_silent t (suc k) count at core h le = elim (cases_Bool (core.busy == 0)) [
      | inl free ↦ foreseen_step t k count at core h (grind (arith, nat_tests)) le (foreseen_silent (t + 1) k)
      | inr busy ↦
          let some : 1 ≤ core.busy = grind (arith, nat_tests) in
          silent_after t k core (record core { busy = core.busy - 1 }, None) (busy_step code (id_at t core number) core h.running busy) refl
          (foreseen_silent (t + 1) k count at (record core { busy = core.busy - 1 }) (busy_less at core (core.busy - 1) h) (omega (arith, le, some)))
    ]

-- at its pc, before anything is written, a hart is as foreseen
pub here_as : (code : CodeValue) (core : HartValue) → is_running core.ended ≡ true → core.waiting ≡ false → IsCache core.cache → length core.registers ≡ 32
    → IsAsForeseen code core (here core) core
here_as code core running awake is size = record {
  running = running;
  awake = awake;
  pc = refl;
  registers = λ r out. refl;
  size = size;
  marks = refl;
  cache = is;
  lines = λ stores line hits. hits;
}

pub none_left : (code : CodeValue) (core : HartValue) (at : Ahead) → cycles_ahead code core 0 at ≡ 0
unfolding cycles_ahead
none_left code core at = refl

-- one instruction more is looked at
course_step : (code : CodeValue) (core : HartValue) (count : ℕ) (course : Course) (next : Ahead)
    → cycles_by course (cycles_ahead code core count next) ≡ cycles_by course 0 + cycles_ahead code core (cond (goes_further course) count 0) next
unfolding cycles_ahead
course_step code core count MayAsk next = refl
course_step code core count Turns next = refl
course_step code core count (GoesOn cost) next = omega arith

pub ahead_step : (code : CodeValue) (core : HartValue) (left : ℕ) (at : Ahead) → 0 < left →
    let c = course_of code core at (instr_at code at.address) in
    cycles_ahead code core left at ≡ cycles_by c.0 0 + cycles_ahead code core (cond (goes_further c.0) (left - 1) 0) c.1
unfolding cycles_ahead
ahead_step code core zero at some = absurd (omega (arith, some))
ahead_step code core (suc count) at some =
    let c = course_of code core at (instr_at code at.address) in
    let same : count ≡ suc count - 1 = omega arith in
    course_step code core count c.0 c.1 ∙ ap (λ n. cycles_by c.0 0 + cycles_ahead code core (cond (goes_further c.0) n 0) c.1) same

pub looked : (code : CodeValue) (core : HartValue) (left : ℕ) (at : Ahead) (course : Course) (next : Ahead) (cost : ℕ) → 0 < left
    → course ≡ (course_of code core at (instr_at code at.address)).0 → next ≡ (course_of code core at (instr_at code at.address)).1 → cost ≡ cycles_by course 0
    → cycles_ahead code core left at ≡ cost + cycles_ahead code core (cond (goes_further course) (left - 1) 0) next
looked code core left at course next cost some is goes takes =
    let c = course_of code core at (instr_at code at.address) in
    ahead_step code core left at some
    ∙ ap (λ k. cycles_by k 0 + cycles_ahead code core (cond (goes_further k) (left - 1) 0) c.1) (sym is)
    ∙ ap (λ n. cycles_by course 0 + cycles_ahead code core (cond (goes_further course) (left - 1) 0) n) (sym goes)
    ∙ ap (λ n. n + cycles_ahead code core (cond (goes_further course) (left - 1) 0) next) (sym takes)
