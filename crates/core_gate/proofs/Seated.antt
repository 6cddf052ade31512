-- Who sits where at a table that meets the rule, and when it is still met where one view changes.
use Rattle.std.proofs.Common.{◌≡◌, ℕ, zero, suc, ◌≢◌, true, false, List, length, slice_set, sym, refl, ◌∙◌, subst, ⊎_elim, arith}
use Rattle.std.proofs.lemmas.List.{length-set}
use mathlib.Core.Option.{some}
use lib.ListN.{get_elem?}
use Rattle.atomic_table.specs.Table.{State}
use Rattle.atomic_table.proofs.Lists.{at_set}
use Rattle.core_gate.specs.declared.views.View.{View}
use Rattle.core_gate.specs.declared.views.Opening.{Opening}
use Rattle.core_gate.specs.Pacing.{InStep, FitsOverseer, FitsPacer, FitsSeat, Paced}

-- a seat that doesn't oversee is a pacer's
pub pacer_of : (k : Opening) (s : State ℕ View) (id : ℕ) (v : View) → Paced k s → get_elem? s.views id ≡ some v → v.oversees ≡ false → FitsPacer k s.words id v
pacer_of k s id v h at follows = (h.seats id v at).1 (λ z. let m = (h.seats id v at).0 z in let l = m.oversees in cc)

-- a seat that oversees is the first, and the overseer's
pub overseer_of : (k : Opening) (s : State ℕ View) (id : ℕ) (v : View) → Paced k s → get_elem? s.views id ≡ some v → v.oversees ≡ true
    → (id ≡ 0) × FitsOverseer k s.words (length s.views) v
overseer_of k s zero v h at oversees = (refl, (h.seats 0 v at).0 refl)
overseer_of k s (suc id) v h at oversees = let c = (h.seats (suc id) v at).1 (λ z. omega arith) in let l = c.follows in cc

-- the words are others, and the view of one seat: all is well where they are in step and fit that view and the others
pub changed : (k : Opening) (s : State ℕ View) (words : List ℕ) (id : ℕ) (w : View)
    → Paced k s
    → length words ≡ length s.words
    → InStep k.cores k.slack words
    → FitsSeat k words (length s.views) id w
    → ((j : ℕ) (u : View) → j ≢ id → get_elem? s.views j ≡ some u → FitsSeat k words (length s.views) j u)
    → Paced k record { words = words; homes = s.homes; views = slice_set s.views id w }
changed k s words id w h count in_step fits others = record {
  count = count ∙ h.count;
  in_step = in_step;
  overseen = rw length-set h.overseen;
  seats = λ j u e.
      rw length-set
      (⊎_elim
      (λ (t : (j ≡ id) × (w ≡ u)).
      subst (λ (i : ℕ). FitsSeat k words (length s.views) i u) (sym t.0) (subst (λ (x : View). FitsSeat k words (length s.views) id x) t.1 fits))
      (λ (t : (j ≢ id) × (get_elem? s.views j ≡ some u)). others j u t.0 t.1)
      (at_set s.views id j w u e));
}

-- a pacer's view in place of what stood at a seat but the first
pub at_pacer : (k : Opening) (words : List ℕ) (count id : ℕ) (w : View) → FitsPacer k words id w → FitsSeat k words count id w
at_pacer k words count id w fits = ((λ z. absurd (let e = fits.seat in omega arith)), (λ n. fits))

-- the overseer's view in place of what stood at the first seat
pub at_overseer : (k : Opening) (words : List ℕ) (count id : ℕ) (w : View) → id ≡ 0 → FitsOverseer k words count w → FitsSeat k words count id w
at_overseer k words count id w zeroth fits = ((λ z. fits), (λ n. absurd (n zeroth)))
