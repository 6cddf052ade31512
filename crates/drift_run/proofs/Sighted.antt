-- Legs see marks: what they want, and what they leave.
use Rattle.std.proofs.Common.{◌≡◌, ℕ, ◌+◌, ◌≤◌, List, sym, subst, arith}
use Rattle.std.specs.List.{AllZip}
use Rattle.core_actor.specs.Actors.{Ran}
use Rattle.core_actor.specs.declared.actors.CoreActor.{CoreActor}
use Rattle.io_edge.specs.Holds.{Holds}
use Rattle.manager.specs.declared.managers.Manager.{Manager}
use Rattle.manager.specs.Leads.{Led}
use Rattle.slack_base.specs.declared.bounds.TheConstants.{TOP}
use Rattle.target_law.specs.InSight.{rules_in_sight, owns_in_sight, values_in_sight}
use Rattle.target_law.specs.Proper.{IsProper}
use Rattle.target_law.specs.Rules.{Rules, Owns}
use Rattle.target_law.specs.Values.{Values}
use Rattle.drift_run.specs.Rigs.{AreReady, HaveLeft, IsRigged}
use Rattle.drift_run.proofs.Marked.{in_sight, seen_as, proper_before}

-- a target t, and the same behind the one with its marks in sight
module _ {X Inner Chan : Type 0} (rules : X → Rules Inner Chan) (owns : X → Owns Inner Chan) {Core D : Type 0} (values : Values Core D Inner Chan) (seen t : X) (is : seen ≡ t)
    (clock : ℕ) (cores : List Core) (chans : List D) (slack len : ℕ) (m : Manager D) (us : List (CoreActor Core)) (top : clock + len ≤ TOP)
    (rigged : IsRigged (rules_in_sight (rules t)) (owns_in_sight (owns t)) (values_in_sight values) (in_sight (rules t) (owns t) values clock cores chans) slack m us) where
  pub ready_in_sight : AreReady (rules_in_sight (rules seen)) (owns_in_sight (owns seen)) (values_in_sight values) (clock + len) m us
  ready_in_sight =
      let le : clock ≤ clock + len = omega arith in
      subst (λ x. AreReady (rules_in_sight (rules x)) (owns_in_sight (owns x)) (values_in_sight values) (clock + len) m us) (sym is) (rigged.ready (clock + len) le top)

  pub left_in_sight : (holds : Holds) (n : Manager D) (left : List (CoreActor Core)) → IsProper (rules t) (owns t) (seen_as (rules t) (owns t) values clock cores chans)
      → Led (rules_in_sight (rules seen)) (owns_in_sight (owns seen)) (values_in_sight values) m n
      → AllZip (Ran (rules_in_sight (rules seen)) (owns_in_sight (owns seen)) (values_in_sight values) holds (clock + len)) us left
      → HaveLeft (rules_in_sight (rules t)) (owns_in_sight (owns t)) (values_in_sight values) (in_sight (rules t) (owns t) values clock cores chans) slack holds (clock + len) n left
  left_in_sight holds n left proper led ran =
      let le : clock ≤ clock + len = omega arith in
      record {
        proper = proper_before (rules t) (owns t) values clock cores chans proper;
        manager = m;
        actors = us;
        ready = rigged.ready (clock + len) le top;
        come = rigged.come;
        opening = rigged.opening;
        led = subst (λ x. Led (rules_in_sight (rules x)) (owns_in_sight (owns x)) (values_in_sight values) m n) is led;
        ran = subst (λ x. AllZip (Ran (rules_in_sight (rules x)) (owns_in_sight (owns x)) (values_in_sight values) holds (clock + len)) us left) is ran;
      }
