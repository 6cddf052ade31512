use Rattle.std.proofs.Common.{◌∙◌, ◌≤◌, ◌+◌, length, ap, subst}
use Rattle.timed_core.specs.Journals.{sets_noted}
use Rattle.timed_core.specs.TouchedCaches.{MarkedCache}
use Rattle.timed_core.proofs.Marking.{then-ready, now-prepared, one-noted}
use Rattle.timed_core.proofs.noted_caches.NotedCache.prepare.Goals as goal

pub returns-clause-saved : goal.returns-clause-saved
returns-clause-saved c =
    let inside = c.self.inside in
    then-ready c.args.line inside.sets c.prepare.new.self inside.marked c.prepare.ensures
    ∙ ap (λ (v : MarkedCache). v.saved) c.self.view_is

pub returns-clause-prepared : goal.returns-clause-prepared
returns-clause-prepared c = now-prepared c.args.line c.self.inside.sets c.prepare.new.self c.self.inside.marked c.prepare.ensures

pub returns-clause-noted : goal.returns-clause-noted
returns-clause-noted c =
    let inside = c.self.inside in
    subst (λ (v : MarkedCache). length (sets_noted c.prepare.new.self.journal) ≤ length v.noted + 1) c.self.view_is
    (one-noted c.args.line inside.sets c.prepare.new.self inside.marked c.prepare.ensures)
