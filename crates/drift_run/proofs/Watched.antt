-- The monitors of cores see the rest, one after another.
use Rattle.std.proofs.Common.{◌≡◌, ◌∙◌, ℕ, ◌+◌, ◌≤◌, List, ◌∷◌, ◌++◌, map, length, drop, sym, ap, arith, append_assoc, append-nil}
use Rattle.std.specs.List.{flat_map}
use Rattle.std.proofs.lemmas.List.{drop_all}
use Rattle.drive_script.specs.declared.lanes.Lane.{Lane}
use Rattle.manager.specs.Places.{PlacePairs}
use Rattle.manager.proofs.Opened.{none_of}
use Rattle.settle.proofs.Lists.{drop_first, drop_none}
use Rattle.slack_base.specs.declared.histories.Taken.{Taken}
use Rattle.slack_base.specs.declared.histories.Violation.{Violation}
use Rattle.violation_watch.specs.Scan.{take_entries, all_take_entries}
use Rattle.drift_run.specs.Parts.{HasSeenFirst}
use Rattle.drift_run.specs.declared.parts.CoreWatch.{CoreWatch}

drop_past : {X : Type 0} (n : ℕ) (xs : List X) → length xs ≤ n → length (drop n xs) ≡ 0
drop_past n xs past = ap length (drop_all n xs past)

module _ {Core : Type 0} where
  abbrev pub takens : List (Lane Core) → List (List Taken)
  takens lanes = map (λ (lane : Lane Core). lane.taken) lanes

  -- one core more
  pub see_more : (n m end core : ℕ) (found grown all : List Violation) (lane : Lane Core) (rest left : List (Lane Core)) (taken : List Taken)
      → rest ≡ lane ∷ left → taken ≡ lane.taken → core ≡ n → m ≡ n + 1 → grown ≡ found ++ flat_map (take_entries core end) taken
      → found ++ all_take_entries n end (takens rest) ≡ all → grown ++ all_take_entries m end (takens left) ≡ all
  see_more n m end core found grown all lane rest left taken r t c s g h =
      let L = takens left in
      ap (λ l. l ++ all_take_entries m end L) g
      ∙ append_assoc found (flat_map (take_entries core end) taken) (all_take_entries m end L)
      ∙ ap (λ l. found ++ l)
      (ap (λ k. flat_map (take_entries k end) taken ++ all_take_entries m end L) c
      ∙ ap (λ xs. flat_map (take_entries n end) xs ++ all_take_entries m end L) t
      ∙ ap (λ k. flat_map (take_entries n end) lane.taken ++ all_take_entries k end L) s
      ∙ ap (λ xs. all_take_entries n end (takens xs)) (sym r))
      ∙ h

  -- all cores
  pub see_end : (n end : ℕ) (found all : List Violation) (rest : List (Lane Core)) → length rest ≡ 0 → found ++ all_take_entries n end (takens rest) ≡ all → found ≡ all
  see_end n end found all rest none h = sym (append-nil found) ∙ ap (λ xs. found ++ all_take_entries n end (takens xs)) (sym (none_of rest none)) ∙ h

  -- where the monitors are at their end, so are the lanes
  pub no_lane : (n : ℕ) (lanes rest : List (Lane Core)) (watches left : List CoreWatch) → length watches ≡ length lanes → rest ≡ drop n lanes → left ≡ drop n watches → length left ≡ 0 → length rest ≡ 0
  no_lane n lanes rest watches left count r l none =
      let past = drop_none n watches (sym (none_of left none) ∙ l) in
      ap length r ∙ drop_past n lanes (omega (arith, past, count))

  pub seen_at_place : (n end : ℕ) (lanes left : List (Lane Core)) (watches rest : List CoreWatch) (lane : Lane Core) (w : CoreWatch) → PlacePairs (HasSeenFirst end) lanes watches → lane ∷ left ≡ drop n lanes → w ∷ rest ≡ drop n watches → HasSeenFirst end n lane w
  seen_at_place n end lanes left watches rest lane w h e f = h.at n lane w (drop_first n lanes lane left e) (drop_first n watches w rest f)
