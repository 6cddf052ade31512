use Rattle.std.proofs.Common.{◌≡◌, ◌+◌, ◌≤◌, sym, subst}
use Rattle.slack_base.specs.declared.bounds.TheConstants.{TOP}
use Rattle.target_law.specs.Drifts.{IsDrift}
use Rattle.target_law.specs.InSight.{rules_in_sight, owns_in_sight, values_in_sight}
use Rattle.target_law.specs.Proper.{IsProper}
use Rattle.violation_watch.specs.Scan.{scan_of}
use Rattle.drift_run.specs.Holds.{KeepsHolds}
use Rattle.drift_run.specs.Rigs.{OfEach}
use Rattle.drift_run.proofs.Marked.{in_sight, proper_after, drift_after, core_marks_stay, chan_marks_stay, exact_after}
use Rattle.drift_run.proofs.finishes.finish.Goals as goal

pub returns : goal.returns
returns g c = λ before slack gate at left.
    let t = c.args.target.now in
    let rules = g.T.Target.rules in
    let owns = g.T.Target.owns in
    let values = g.T.Target.values in
    let of = c.of.ensures in
    let is = c.in_ok-drifted.ensures in
    let rig = c.args.rig in
    let until = c.args.start + c.args.len in
    let d = c.in_ok-drifted.drifted.drift in
    let e = c.in_ok-drifted.drifted.end in
    let seen = subst (λ x. c.in_ok-drifted.drifted.seen ≡ scan_of (rules_in_sight (rules x)) d) of is.seen in
    let drift = subst (λ x. OfEach (rules_in_sight (rules x)) (owns_in_sight (owns x)) (values_in_sight values) c.args.start until rig.manager rig.actors.items
    (λ s _ _. IsDrift (rules_in_sight (rules x)) s d (in_sight (rules x) (owns x) values e.clock e.cores e.chans))) of is.drift
    (in_sight (rules t) (owns t) values before.clock before.cores before.chans) slack gate at left in
    let holds = subst (λ x. OfEach (rules_in_sight (rules x)) (owns_in_sight (owns x)) (values_in_sight values) c.args.start until rig.manager rig.actors.items
    (λ _ slack holds. KeepsHolds holds (rules x).cores slack c.args.start c.args.len d.served)) of is.holds
    (in_sight (rules t) (owns t) values before.clock before.cores before.chans) slack gate at left in
    record {
      drift = drift_after (rules t) (owns t) values before.clock before.cores before.chans d e.clock e.cores e.chans drift;
      marks = record {
        cores = core_marks_stay (rules t) (owns t) values before.clock before.cores before.chans d e.clock e.cores e.chans drift;
        chans = chan_marks_stay (rules t) (owns t) values before.clock before.cores before.chans d e.clock e.cores e.chans drift;
      };
      len = is.len;
      proper = proper_after (rules t) (owns t) values e.clock e.cores e.chans
          (subst (λ x. IsProper (rules_in_sight (rules x)) (owns_in_sight (owns x)) (in_sight (rules x) (owns x) values e.clock e.cores e.chans)) of is.proper);
      seen = seen;
      exact = exact_after (rules t) (owns t) values before.clock before.cores before.chans d e.clock e.cores e.chans drift (g.met.T.Target.laws t) c.args.len c.in_ok-drifted.drifted.seen
          (proper_after (rules t) (owns t) values before.clock before.cores before.chans left.proper) (subst (λ k. k + c.args.len ≤ TOP) (sym at) c.requires.top) is.len seen;
      holds = subst (λ k. KeepsHolds gate (rules t).cores slack k c.args.len d.served) (sym at) holds;
    }
