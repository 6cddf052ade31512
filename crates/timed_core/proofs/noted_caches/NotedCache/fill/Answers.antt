use Rattle.std.proofs.Common.{◌∙◌, sym, ap, subst}
use Rattle.timed_core.specs.Journals.{SetsValue, cache_then}
use Rattle.timed_core.specs.TouchedCaches.{MarkedCache, IsPrepared}
use Rattle.timed_core.proofs.Marking.{then-changed}
use Rattle.timed_core.proofs.noted_caches.NotedCache.fill.Goals as goal

pub returns-clause-saved : goal.returns-clause-saved
returns-clause-saved c =
    let inside = c.self.inside in
    ap (λ (s : SetsValue). cache_then inside.marked s) c.fill.ensures.after
    ∙ then-changed c.args.line inside.sets _ inside.marked (subst (λ (v : MarkedCache). IsPrepared c.args.line v) (sym c.self.view_is) c.requires)
    ∙ ap (λ (v : MarkedCache). v.saved) c.self.view_is
