use Rattle.std.proofs.Common.{◌∙◌, ◌++◌, ap}
use Rattle.violation_watch.proofs.Scanning.{saw_taken}
use Rattle.drift_run.proofs.Zips.{on_ok}
use Rattle.drift_run.proofs.parts.CoreWatch.see_rest.Goals as goal

pub returns : goal.returns
returns c =
    on_ok c.append.result
    (λ grown. grown ∙ ap (λ l. c.args.found.now ++ l) (c.as_slice.ensures ∙ c.found.ensures ∙ saw_taken c.args.self.core c.args.end c.args.taken.now c.watch_taken.new.watch c.in_ok-watch_taken.ensures))
    c.append.ensures
