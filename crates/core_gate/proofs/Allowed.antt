-- Each kind of step is allowed to the seat that makes it, whatever the table is at that moment, and tells what it tells.
use Rattle.std.proofs.Common.{◌≡◌, ℕ, ◌+◌, ◌-◌, ◌<◌, ◌≤◌, true, false, List, slice_index, slice_set, sym, refl, ap, subst, arith}
use Rattle.std.proofs.lemmas.List.{set-get_or}
use mathlib.Core.Option.{none}
use Rattle.atomic_table.specs.Table.{State, Me, keeps, step, Allows, Splits}
use Rattle.core_gate.proofs.Lawful.{all_observe, all_advance, all_look, all_raise, all_seat}
use Rattle.core_gate.proofs.Seated.{pacer_of, overseer_of}
use Rattle.core_gate.specs.declared.views.View.{View}
use Rattle.core_gate.specs.declared.views.Opening.{Opening}
use Rattle.core_gate.specs.Pacing.{Paced}
use Rattle.core_gate.specs.Steps.{IsLeast, viewed, observed, advanced, looked, raised, host, guest, Observes, Advances, Looks, Raises}

-- a load stores what it finds
loaded : (k : Opening) (s : State ℕ View) (i id : ℕ) (w : View) → Paced k (viewed s id w)
    → Paced k record { words = slice_set s.words i (slice_index s.words i); homes = s.homes; views = slice_set s.views id w }
loaded k s i id w h = subst (λ (words : List ℕ). Paced k record { words = words; homes = s.homes; views = slice_set s.views id w }) (sym (set-get_or s.words i 0)) h

pub observes : (k : Opening) (slots id : ℕ) (me : Me ℕ View) → me.0.oversees ≡ false
    → Allows (Paced k) slots id me 0 (λ n. n) (Observes (step slots 0 0 0 none) me)
observes k slots id me follows s h homes at small =
    let p = pacer_of k s id me.0 h at follows in
    let t = h.in_step me.0.number p.number in
    let w : View = observed me.0 (slice_index s.words 0) in (
      w,
      keeps,
      tt,
      loaded k s 0 id w (all_observe k s id me.0 (h, at, follows)),
      (refl, p.seen, (let e = p.clock in omega arith)),
    )

pub looks : (k : Opening) (slots id core : ℕ) (me : Me ℕ View) → me.0.oversees ≡ true → core < k.cores
    → Allows (Paced k) slots id me (core + 1) (λ n. n) (Looks (step slots (core + 1) 0 0 none) me)
looks k slots id core me oversees inside s h homes at small =
    let m = (overseer_of k s id me.0 h at oversees).1 in
    let word : 1 + core ≡ core + 1 = omega arith in
    let place : core ≡ (core + 1) - 1 = omega arith in
    let found : ℕ = slice_index s.words (core + 1) in
    let is : slice_index s.words (1 + core) ≡ found = ap (λ (n : ℕ). slice_index s.words n) word in
    let w : View = looked me.0 ((core + 1) - 1) found in
    let t = h.in_step core inside in
    let low = m.low core inside in
    let rule : Paced k (viewed s id w) = subst (λ (n : ℕ). Paced k (viewed s id (looked me.0 n found))) place
    (subst (λ (n : ℕ). Paced k (viewed s id (looked me.0 core n))) is (all_look k s id me.0 core (h, at, oversees) inside)) in (
      w,
      keeps,
      tt,
      loaded k s (core + 1) id w rule,
      (refl, rw (← place) (omega arith), (let e = m.global in omega arith), (let e = m.global in let e' = m.slack in omega arith)),
    )

pub advances : (k : Opening) (slots id : ℕ) (me : Me ℕ View) (word new : ℕ) → me.0.oversees ≡ false → word ≡ me.0.number + 1 → new ≡ me.0.clock + 1 → me.0.clock < me.0.seen + me.0.slack
    → Allows (Paced k) slots id me word (λ _. new) (λ _. Advances (step slots word new 0 none) me new)
advances k slots id me word new follows word_is new_is ahead s h homes at small =
    let Stores : ℕ → ℕ → Type 0 = λ i n. Paced k record { words = slice_set s.words i n; homes = s.homes; views = slice_set s.views id (advanced me.0 n) } in
    let place : 1 + me.0.number ≡ word = omega arith in (
      advanced me.0 new,
      keeps,
      tt,
      subst (λ (n : ℕ). Stores word n) (sym new_is) (subst (λ (i : ℕ). Stores i (me.0.clock + 1)) place (all_advance k s id me.0 (h, at, follows) ahead)),
      refl,
    )

pub raises : (k : Opening) (slots id : ℕ) (me : Me ℕ View) (least : ℕ) → me.0.oversees ≡ true → me.0.seen ≤ least → IsLeast least me.0.low
    → Allows (Paced k) slots id me 0 (λ _. least) (λ _. Raises (step slots 0 least 0 none) me least)
raises k slots id me least oversees rises lowest s h homes at small = (raised me.0 least, keeps, tt, all_raise k s id me.0 least (h, at, oversees) lowest rises, refl)

pub splits : (k : Opening) (id : ℕ) (m : View) → m.oversees ≡ true → m.next < k.cores → Splits (Paced k) id m (host m) (guest m)
splits k id m oversees room s h at = all_seat k s id m (h, at, oversees) room
