use Rattle.std.proofs.Common.{sym, ◌∙◌, refl, rules}
use Rattle.mesi_cache.proofs.SetSteps.{find_held, find_missing, snoop_held, snoop_missing}
use Rattle.mesi_cache.proofs.sets.CacheSet.snoop.Goals as goal
use Rattle.mesi_cache.proofs.sets.CacheSet.snoop.Goals.{then-own, else-own}

pub returns-in_err-place-clause-words : goal.returns-in_err-place-clause-words
returns-in_err-place-clause-words c =
    rw (find_missing c.args.line c.args.self.now (sym c.place_of.ensures ∙ c.in_err-place.was)) c.from_residual.ensures

pub returns-in_err-place-clause-after : goal.returns-in_err-place-clause-after
returns-in_err-place-clause-after c =
    sym (snoop_missing c.args.line c.args.self.now (sym c.place_of.ensures ∙ c.in_err-place.was) c.args.own)

pub returns-clause-words : goal.returns-clause-words
returns-clause-words c =
    let place = sym c.place_of.ensures ∙ c.in_ok-place.was in
    rw (find_held c.args.line c.args.self.now c.in_ok-place.place c.at-snooped.result c.requires.once place c.at-snooped.ensures) refl

pub returns-clause-after : goal.returns-clause-after
returns-clause-after c =
    let place = sym c.place_of.ensures ∙ c.in_ok-place.was in
    rw (snoop_held c.args.line c.args.self.now c.in_ok-place.place c.at-snooped.result c.requires.once place c.at-snooped.ensures c.args.own)
    (elim c.if-own.branch [ then-own w ↦ rw w.if-own.true (search rules) | else-own w ↦ rw w.if-own.false (search rules) ])
