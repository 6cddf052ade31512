use Rattle.std.proofs.Common.{refl}
use Rattle.drift_run.proofs.drifts.drift.Goals as goal

pub returns-clause-drift : goal.returns-clause-drift
returns-clause-drift g c =
    (c.in_ok-drifted.ensures c.args.state c.args.pace.now.slack (record { may = g.G.Gate.may_hold c.args.gate.now; must = g.G.Gate.must_hold c.args.gate.now }) refl c.in_ok-rig.ensures).drift

pub returns-clause-marks : goal.returns-clause-marks
returns-clause-marks g c =
    (c.in_ok-drifted.ensures c.args.state c.args.pace.now.slack (record { may = g.G.Gate.may_hold c.args.gate.now; must = g.G.Gate.must_hold c.args.gate.now }) refl c.in_ok-rig.ensures).marks

pub returns-clause-len : goal.returns-clause-len
returns-clause-len g c =
    (c.in_ok-drifted.ensures c.args.state c.args.pace.now.slack (record { may = g.G.Gate.may_hold c.args.gate.now; must = g.G.Gate.must_hold c.args.gate.now }) refl c.in_ok-rig.ensures).len

pub returns-clause-proper : goal.returns-clause-proper
returns-clause-proper g c =
    (c.in_ok-drifted.ensures c.args.state c.args.pace.now.slack (record { may = g.G.Gate.may_hold c.args.gate.now; must = g.G.Gate.must_hold c.args.gate.now }) refl c.in_ok-rig.ensures).proper

pub returns-clause-seen : goal.returns-clause-seen
returns-clause-seen g c =
    (c.in_ok-drifted.ensures c.args.state c.args.pace.now.slack (record { may = g.G.Gate.may_hold c.args.gate.now; must = g.G.Gate.must_hold c.args.gate.now }) refl c.in_ok-rig.ensures).seen

pub returns-clause-exact : goal.returns-clause-exact
returns-clause-exact g c =
    (c.in_ok-drifted.ensures c.args.state c.args.pace.now.slack (record { may = g.G.Gate.may_hold c.args.gate.now; must = g.G.Gate.must_hold c.args.gate.now }) refl c.in_ok-rig.ensures).exact

pub returns-clause-holds : goal.returns-clause-holds
returns-clause-holds g c =
    (c.in_ok-drifted.ensures c.args.state c.args.pace.now.slack (record { may = g.G.Gate.may_hold c.args.gate.now; must = g.G.Gate.must_hold c.args.gate.now }) refl c.in_ok-rig.ensures).holds
