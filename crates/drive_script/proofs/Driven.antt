-- What the steps and finishing left, seen whole.
use Rattle.std.proofs.Common.{◌≡◌, ◌∙◌, ℕ, ◌+◌, ◌<◌, ◌≤◌, List, [], ◌∷◌, length, suc, refl, ap, subst, arith}
use Rattle.std.proofs.lemmas.List.{length-map}
use Rattle.slack_base.specs.declared.bounds.TheConstants.{TOP}
use Rattle.slack_base.specs.declared.histories.Drift.{Drift}
use Rattle.slack_base.specs.declared.messages.Ask.{Ask}
use Rattle.slack_base.specs.declared.steps.Step.{Step}
use Rattle.target_law.specs.Cycles.{StateValue, through}
use Rattle.target_law.specs.Drifts.{IsDrift}
use Rattle.target_law.specs.Laws.{Laws}
use Rattle.target_law.specs.Proper.{IsProper}
use Rattle.target_law.specs.Rules.{Rules, Owns}
use Rattle.target_law.proofs.Serving.{after_ask}
use Rattle.violation_watch.specs.Complete.{IsLockstep}
use Rattle.violation_watch.specs.Scan.{scan_of}
use Rattle.violation_watch.proofs.Join.{complete}
use Rattle.drive_script.specs.Open.{IsOpen}
use Rattle.drive_script.specs.Scripts.{opened, history, closed, IsScript}
use Rattle.drive_script.specs.Finishing.{Finishes}
use Rattle.drive_script.specs.Worlds.{WorldValue, stepped_all}
use Rattle.drive_script.proofs.Ending.{script_drifts}

module _ {Inner Chan : Type 0} (rules : Rules Inner Chan) where
  length-clashes : (chans : List Chan) (asks : List Ask) → length (through rules chans asks).clashes ≡ length asks
  length-clashes chans [] = refl
  length-clashes chans (x ∷ asks) = ap suc (length-clashes (after_ask rules x chans) asks)

  module _ (s : StateValue Inner Chan) (k : ℕ) (steps shown : List Step) (first after last : WorldValue Inner Chan) (d : Drift) (e : StateValue Inner Chan)
      (shows : shown ≡ steps) (first_is : first ≡ opened s k) (after_is : after ≡ stepped_all rules shown first) (finishes : Finishes rules after last)
      (drift_is : d ≡ history s.clock k last) (end_is : e ≡ closed rules last) where
    pub script_of : IsScript rules s k steps d e
    script_of = record {
      world = last;
      finishes = subst (λ w. Finishes rules w last) (after_is ∙ ap (λ xs. stepped_all rules xs first) shows ∙ ap (stepped_all rules steps) first_is) finishes;
      drift = drift_is;
      end = end_is;
    }

    module _ (owns : Owns Inner Chan) (laws : Laws rules owns) (proper : IsProper rules owns s) (top : s.clock + k ≤ TOP) where
      pub drift_of : IsDrift rules s d e
      drift_of = script_drifts rules owns laws s k proper steps d e top script_of

      pub clash_each : length d.clashes ≡ length d.served
      clash_each = ap length drift_of.clashes ∙ length-clashes s.chans d.served

      pub few_lists : (n : ℕ) → rules.cores < n → IsOpen rules owns last → length d.sent < n
      few_lists n few here =
          let count : length d.sent ≡ rules.cores = ap (λ (x : Drift). length x.sent) drift_is ∙ length-map last.lanes (λ lane. lane.taken) ∙ here.count in
          omega arith

      pub exact_of : scan_of rules d ≡ [] → IsLockstep rules s d e
      exact_of quiet =
          let clock : e.clock ≡ s.clock + k = drift_of.clock ∙ ap (λ (x : Drift). x.start + x.len) drift_is in
          complete rules owns laws s d e proper drift_of (omega arith) quiet
