-- A drift that keeps the holds of a gate, and of which nothing is recorded, has no crossed asks.
use Rattle.std.proofs.Common.{◌≡◌, ◌∙◌, ℕ, ◌+◌, ◌<◌, List, [], Some, slice_get, length, sym, subst}
use Rattle.std.specs.List.Sorted.{IsPermutation}
use Rattle.std.proofs.lemmas.Bool.{false≢true}
use Rattle.std.proofs.lemmas.List.Sorted.{Contains-permutation, IsPermutation-sym}
use Rattle.std.proofs.lemmas.Option.{slice_get_within, get_or_from_slice_get, slice_get_read}
use Rattle.io_edge.specs.Holds.{Holds}
use Rattle.slack_base.specs.declared.histories.Drift.{Drift}
use Rattle.target_law.specs.Cycles.{StateValue, asks}
use Rattle.target_law.specs.Drifts.{IsDrift}
use Rattle.target_law.specs.Rules.{Rules}
use Rattle.violation_watch.specs.Complete.{IsLockstep}
use Rattle.violation_watch.specs.Scan.{scan_of, all_serve_entries, all_take_entries}
use Rattle.violation_watch.proofs.Quiet.{nothing_left}
use Rattle.drift_run.specs.Holds.{KeepsHolds}
use Rattle.spec_run.specs.Speculative.{IsCrossed}
use Rattle.spec_run.proofs.InTurn.{in_turn}

-- an item of one list stands in the other too
stands : {X : Type 0} (xs ys : List X) (i : ℕ) (x : X) → IsPermutation xs ys → slice_get xs i ≡ Some x → (j : ℕ) × (slice_get ys j ≡ Some x)
stands xs ys i x permuted e =
    let there = Contains-permutation xs ys x permuted (i, slice_get_within xs i x e, get_or_from_slice_get xs i x x e) in
    (there.0, slice_get_read ys (length ys) there.0 x (λ _. length ys) there.1 (sym there.2))

module _ {Inner Chan : Type 0} (rules : Rules Inner Chan) (holds : Holds) (slack : ℕ) where
  pub not_crossed : (k : ℕ) (s : StateValue Inner Chan) (d : Drift) (e : StateValue Inner Chan) → IsDrift rules s d e → d.len ≡ k
      → KeepsHolds holds rules.cores slack s.clock k d.served → scan_of rules d ≡ [] → IsLockstep rules s d e → IsCrossed rules holds slack k s → ⊥
  not_crossed k s d e drift len keeps quiet exact crossed =
      let served : IsPermutation (asks rules s k) d.served = IsPermutation-sym d.served (asks rules s k) (subst (λ n. IsPermutation d.served (asks rules s n)) len exact.served) in
      let own = stands (asks rules s k) d.served crossed.i crossed.own served crossed.own_asked in
      let other = stands (asks rules s k) d.served crossed.j crossed.other served crossed.other_asked in
      let before : other.0 < own.0 = keeps crossed.core crossed.within crossed.alone own.0 other.0 crossed.own crossed.other own.1 other.1 crossed.own_core crossed.other_core crossed.soon in
      let none : all_serve_entries rules [] d.clashes d.served ≡ [] = nothing_left (all_serve_entries rules [] d.clashes d.served) (all_take_entries 0 (d.start + d.len) d.sent) quiet in
      let turn = in_turn rules s.chans [] d.served own.0 other.0 crossed.own crossed.other
      (subst (λ clashes. all_serve_entries rules [] clashes d.served ≡ []) drift.clashes none) own.1 other.1 before in
      false≢true (sym (turn crossed.line crossed.own_line crossed.other_line) ∙ crossed.later)
