-- Each kind of step keeps the rule, from any table that meets it.
use Rattle.std.proofs.Common.{◌≡◌, ℕ, zero, suc, ◌+◌, ◌<◌, ◌≤◌, ◌≢◌, List, [], ◌∷◌, ◌++◌, length, slice_index, slice_set, replicate, sym, refl, ap, ◌∙◌, subst, ⊎_elim, arith, le_trans, le_refl, length-append}
use Rattle.std.proofs.lemmas.List.{get_or-set_same, get_or-set_other, length-set, get_or-replicate, length-replicate}
use Rattle.std.proofs.lemmas.List.Elements.{All-get_or}
use mathlib.Core.Option.{some, some-ne-none, some-injective}
use lib.ListN.{get_elem?}
use Rattle.atomic_table.specs.Table.{opening}
use Rattle.atomic_table.proofs.Lists.{at_set}
use Rattle.core_gate.proofs.Lists.{within, index_set, grown, bounded_set, at_end}
use Rattle.core_gate.proofs.Seated.{pacer_of, overseer_of, changed, at_pacer, at_overseer}
use Rattle.core_gate.specs.declared.views.View.{View}
use Rattle.core_gate.specs.declared.views.Opening.{Opening}
use Rattle.core_gate.specs.Laws.{AllOpen, AllObserve, AllAdvance, AllLook, AllRaise, AllSeat}
use Rattle.core_gate.specs.Pacing.{InStep, FitsOverseer, FitsPacer, FitsSeat, Paced, global_time, clock_at, opening_view}
use Rattle.core_gate.specs.Steps.{observed, advanced, looked, raised, host, guest}

pub all_observe : AllObserve
all_observe k s id v is =
    let h = is.0 in
    let p = pacer_of k s id v h is.1 is.2 in
    let fits : FitsPacer k s.words id (observed v (global_time s.words)) = record { follows = p.follows; seat = p.seat; number = p.number; slack = p.slack; clock = p.clock; seen = le_refl (global_time s.words) } in
    changed k s s.words id (observed v (global_time s.words)) h refl h.in_step (at_pacer k s.words (length s.views) id _ fits) (λ j u n at. h.seats j u at)

pub all_look : AllLook
all_look k s id v core is inside =
    let h = is.0 in
    let o = overseer_of k s id v h is.1 is.2 in
    let m = o.1 in
    let found : ℕ = clock_at s.words core in
    let low : (c : ℕ) → c < k.cores → slice_index (slice_set v.low core found) c ≤ clock_at s.words c = λ c g.
    bounded_set v.low core c found (clock_at s.words c) (rw m.lows inside) (m.low c g) (λ e. rw e (le_refl found)) in
    let fits : FitsOverseer k s.words (length s.views) (looked v core found) = record { oversees = m.oversees; slack = m.slack; opening = m.opening; begun = m.begun; global = m.global; lows = length-set v.low core found ∙ m.lows; low = low; next = m.next; room = m.room; fresh = m.fresh } in
    changed k s s.words id (looked v core found) h refl h.in_step (at_overseer k s.words (length s.views) id _ o.0 fits) (λ j u n at. h.seats j u at)

pub all_advance : AllAdvance
all_advance k s id v is ahead =
    let h = is.0 in
    let p = pacer_of k s id v h is.1 is.2 in
    let word : ℕ = 1 + v.number in
    let new : ℕ = v.clock + 1 in
    let w : View = advanced v new in
    let words : List ℕ = slice_set s.words word new in
    let inside : word < length s.words = let e = h.count in let e' = p.number in omega arith in
    let base : slice_index words 0 ≡ slice_index s.words 0 = get_or-set_other s.words word 0 new 0 (λ e. omega arith) in
    let here : slice_index words word ≡ new = get_or-set_same s.words word new 0 inside in
    let up : slice_index s.words word ≤ new = let e = p.clock in omega arith in
    let in_step : InStep k.cores k.slack words = λ c g.
    let t = h.in_step c g in
    let own = h.in_step v.number p.number in
    ⊎_elim
    (λ (e : ((1 + c) ≡ word) × (slice_index words (1 + c) ≡ new)). rw (e.1, base) ((let x = p.clock in omega arith), (let x = p.seen in let y = p.slack in omega arith)))
    (λ (e : ((1 + c) ≢ word) × (slice_index words (1 + c) ≡ slice_index s.words (1 + c))). rw (e.1, base) t)
    (index_set s.words word (1 + c) new inside) in
    let fits : FitsPacer k words id w = record { follows = p.follows; seat = p.seat; number = p.number; slack = p.slack; clock = sym here; seen = rw base p.seen } in
    let others : (j : ℕ) (u : View) → j ≢ id → get_elem? s.views j ≡ some u → FitsSeat k words (length s.views) j u = λ j u n at. (
      (λ z.
          let m = (h.seats j u at).0 z in
          let seated = within s.views id v is.1 in
          record {
            oversees = m.oversees;
            slack = m.slack;
            opening = m.opening;
            begun = rw base m.begun;
            global = m.global ∙ sym base;
            lows = m.lows;
            low = λ c g. le_trans (m.low c g) (grown s.words word (1 + c) new inside up);
            next = m.next;
            room = m.room;
            fresh = λ c g g'. get_or-set_other s.words word (1 + c) new 0 (λ e. let x = p.seat in let y = m.next in omega arith) ∙ m.fresh c g g';
          }),
      (λ z.
          let q = (h.seats j u at).1 z in
          let apart : (1 + u.number) ≢ word = λ e. n (let x = q.seat in let y = p.seat in omega arith) in
          record { follows = q.follows; seat = q.seat; number = q.number; slack = q.slack; clock = q.clock ∙ sym (get_or-set_other s.words word (1 + u.number) new 0 apart); seen = rw base q.seen }),
    ) in
    changed k s words id w h (length-set s.words word new) in_step (at_pacer k words (length s.views) id w fits) others

pub all_raise : AllRaise
all_raise k s id v least is lowest rises =
    let h = is.0 in
    let o = overseer_of k s id v h is.1 is.2 in
    let m = o.1 in
    let w : View = raised v least in
    let words : List ℕ = slice_set s.words 0 least in
    let inside : 0 < length s.words = let e = h.count in omega arith in
    let base : slice_index words 0 ≡ least = get_or-set_same s.words 0 least 0 inside in
    let up : slice_index s.words 0 ≤ least = let e = m.global in omega arith in
    let same : (c : ℕ) → slice_index words (1 + c) ≡ slice_index s.words (1 + c) = λ c. get_or-set_other s.words 0 (1 + c) least 0 (λ e. omega arith) in
    let below : (c : ℕ) → c < k.cores → least ≤ slice_index v.low c = λ c g. All-get_or (λ x. least ≤ x) v.low c 0 (rw m.lows g) lowest.0 in
    let in_step : InStep k.cores k.slack words = λ c g. let t = h.in_step c g in let l = m.low c g in let y = below c g in rw (base, same c) (omega arith, omega arith) in
    let fits : FitsOverseer k words (length s.views) w = record {
      oversees = m.oversees;
      slack = m.slack;
      opening = m.opening;
      begun = rw base (le_trans m.begun up);
      global = sym base;
      lows = m.lows;
      low = λ c g. rw (same c) (m.low c g);
      next = m.next;
      room = m.room;
      fresh = λ c g g'. same c ∙ m.fresh c g g';
    } in
    let others : (j : ℕ) (u : View) → j ≢ id → get_elem? s.views j ≡ some u → FitsSeat k words (length s.views) j u = λ j u n at. (
      (λ z. absurd (n (let x = o.0 in omega arith))),
      (λ z.
          let q = (h.seats j u at).1 z in
          record { follows = q.follows; seat = q.seat; number = q.number; slack = q.slack; clock = q.clock ∙ sym (same u.number); seen = rw base (le_trans q.seen up) }),
    ) in
    changed k s words id w h (length-set s.words 0 least) in_step (at_overseer k words (length s.views) id w o.0 fits) others

pub all_seat : AllSeat
all_seat k s id m is room =
    let h = is.0 in
    let o = overseer_of k s id m h is.1 is.2 in
    let q = o.1 in
    let views : List View = slice_set s.views id (host m) in
    let count : length (views ++ guest m ∷ []) ≡ length s.views + 1 = length-append views (guest m ∷ []) ∙ ap (λ (n : ℕ). n + 1) (length-set s.views id (host m)) in
    let word : slice_index s.words (1 + m.next) ≡ k.clock = q.fresh m.next (le_refl m.next) room in
    let hosts : FitsOverseer k s.words (length s.views + 1) (host m) = record { oversees = q.oversees; slack = q.slack; opening = q.opening; begun = q.begun; global = q.global; lows = q.lows; low = q.low; next = (let x = q.next in omega arith); room = omega arith; fresh = λ c g g'. q.fresh c (omega arith) g' } in
    let guests : FitsPacer k s.words (1 + m.next) (guest m) = record { follows = refl; seat = refl; number = room; slack = q.slack; clock = q.opening ∙ sym word; seen = rw q.opening q.begun } in
    let Fits : ℕ → View → Type 0 = FitsSeat k s.words (length s.views + 1) in
    record {
      count = h.count;
      in_step = h.in_step;
      overseen = rw count (omega arith);
      seats = λ j u e.
          rw count
          (⊎_elim
          (λ (old : get_elem? views j ≡ some u).
          ⊎_elim
          (λ (t : (j ≡ id) × (host m ≡ u)).
          subst (λ (i : ℕ). Fits i u) (sym t.0) (subst (λ (x : View). Fits id x) t.1 (at_overseer k s.words (length s.views + 1) id (host m) o.0 hosts)))
          (λ (t : (j ≢ id) × (get_elem? s.views j ≡ some u)). ((λ z. absurd (t.0 (z ∙ sym o.0))), (λ z. (h.seats j u t.1).1 z)))
          (at_set s.views id j (host m) u old))
          (λ (new : (j ≡ length views) × (guest m ≡ u)).
          let place : j ≡ 1 + m.next = new.0 ∙ (length-set s.views id (host m) ∙ sym q.next) in
          subst (λ (i : ℕ). Fits i u) (sym place) (subst (λ (x : View). Fits (1 + m.next) x) new.1 (at_pacer k s.words (length s.views + 1) (1 + m.next) (guest m) guests)))
          (at_end views (guest m) u j e));
    }

-- the same for words that are all the opening clock
pub opens : (k : Opening) (words : List ℕ) → words ≡ replicate (1 + k.cores) k.clock → Paced k (opening words [] (opening_view k))
opens k words is =
    let count : length words ≡ 1 + k.cores = ap (λ (l : List ℕ). length l) is ∙ length-replicate (1 + k.cores) k.clock in
    let all : (i : ℕ) → i < 1 + k.cores → slice_index words i ≡ k.clock = λ i g. ap (λ (l : List ℕ). slice_index l i) is ∙ get_or-replicate (1 + k.cores) i k.clock 0 g in
    let zeroth = all 0 (omega arith) in
    let fits : FitsOverseer k words 1 (opening_view k) = record {
      oversees = refl;
      slack = refl;
      opening = refl;
      begun = rw zeroth (le_refl k.clock);
      global = sym zeroth;
      lows = length-replicate k.cores k.clock;
      low = λ c g. rw (get_or-replicate k.cores c k.clock 0 g, all (1 + c) (omega arith)) (le_refl k.clock);
      next = refl;
      room = omega arith;
      fresh = λ c g g'. all (1 + c) (omega arith);
    } in
    record {
      count = count;
      in_step = λ c g. let x = all (1 + c) (omega arith) in (omega arith, omega arith);
      overseen = omega arith;
      seats = λ j u e. first_only j u e (at_overseer k words 1 0 (opening_view k) refl fits);
    }
  where
    first_only : (j : ℕ) (u : View) → get_elem? (opening_view k ∷ []) j ≡ some u → FitsSeat k words 1 0 (opening_view k) → FitsSeat k words 1 j u
    first_only zero u e f = subst (λ (x : View). FitsSeat k words 1 0 x) (some-injective (opening_view k) u e) f
    first_only (suc j) u e f = absurd (some-ne-none u (sym e))

pub all_open : AllOpen
all_open k = opens k (replicate (1 + k.cores) k.clock) refl
