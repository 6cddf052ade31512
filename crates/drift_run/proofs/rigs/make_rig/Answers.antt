use Rattle.std.proofs.Common.{◌∙◌, ap, subst, length}
use Rattle.std.proofs.lemmas.List.{length-replicate}
use Rattle.drift_run.specs.Crews.{IsCrew}
use Rattle.drift_run.proofs.Rigged.{rigged}
use Rattle.drift_run.proofs.rigs.make_rig.Goals as goal

pub returns : goal.returns
returns g c =
    let t = c.args.target.now in
    let s = c.args.state in
    let crew = c.in_ok-actors.field-0 in
    let table = c.in_ok-table.table in
    let of = c.in_ok-table.ensures.of in
    let seats = c.in_ok-overseer.ensures in
    rigged (g.T.Target.rules t) (g.T.Target.owns t) g.T.Target.values s.cores s.chans s.clock c.args.slack c.requires.proper c.in_ok-overseer.pacers crew
    (subst (λ ps. IsCrew s.cores ps crew) c.into_vec-2.ensures (subst (λ cs. IsCrew cs c.into_vec-2.result.items crew) c.into_vec.ensures c.in_ok-actors.ensures))
    table
    (λ i p at. let k = seats.pacers.1 i p at in (k.0, k.1, k.2 ∙ of.1, k.3 ∙ of.1, k.4 ∙ of.2))
    c.in_ok-overseer.overseer
    (ap length seats.overseer.3 ∙ length-replicate table.cores table.clock ∙ of.0 ∙ c.cores.ensures)
    c.in_ok-manager.manager c.in_ok-manager.ensures
