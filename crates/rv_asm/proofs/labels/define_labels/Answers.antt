use Rattle.std.proofs.Common.{◌∙◌}
use Rattle.rv_asm.specs.LabelTables.{places_in}
use Rattle.rv_asm.proofs.Names.{label_step, label_end, label_shorter}
use Rattle.rv_asm.proofs.labels.define_labels.Goals as goal

pub loop-name-smaller : goal.loop-name-smaller
loop-name-smaller c = label_shorter c.loop-name.rest.now c.in-Some.name.now c.in-Some.after.now c.in-Some.ensures

pub loop-name-preserved : goal.loop-name-preserved
loop-name-preserved c =
    let more = label_step c.args.place (places_in c.loop-name.labels) (places_in c.define.new.self) c.loop-name.rest.now c.in-Some.name.now c.in-Some.after.now c.loop-name.redefines c.in_ok-before.before c.in-Some.ensures c.in_ok-before.ensures.places c.in_ok-before.ensures.before in
    (more.0 ∙ c.loop-name.invariant.0, more.1 ∙ c.loop-name.invariant.1, more.2 ∙ c.loop-name.invariant.2)

pub returns-clause-places : goal.returns-clause-places
returns-clause-places c =
    (label_end c.args.place (places_in c.loop-name.labels) c.loop-name.rest.now c.loop-name.redefines c.in_default.ensures).0 ∙ c.loop-name.invariant.0

pub returns-clause-statement : goal.returns-clause-statement
returns-clause-statement c =
    c.trim_start.ensures
    ∙ (label_end c.args.place (places_in c.loop-name.labels) c.loop-name.rest.now c.loop-name.redefines c.in_default.ensures).1
    ∙ c.loop-name.invariant.1

pub returns-clause-redefines : goal.returns-clause-redefines
returns-clause-redefines c =
    (label_end c.args.place (places_in c.loop-name.labels) c.loop-name.rest.now c.loop-name.redefines c.in_default.ensures).2 ∙ c.loop-name.invariant.2
