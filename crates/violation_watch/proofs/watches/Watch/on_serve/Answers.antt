use Rattle.std.proofs.Common.{rules as known, ◌≡◌, ◌++◌, Result, Ok, Err, sym, ◌∙◌, ap, subst}
use Rattle.std.specs.BTreeMap.{get}
use Rattle.std.specs.Ordering.{nat_cmp}
use Rattle.std.specs.Result.{OnOk}
use Rattle.slack_base.specs.Messages.{id_of}
use Rattle.slack_base.specs.HighestIds.{clash_with}
use Rattle.violation_watch.specs.Noting.{IsNoted}
use Rattle.violation_watch.specs.Scan.{bus_entry, map_entry}
use Rattle.violation_watch.proofs.Knowing.{served_line}
use Rattle.violation_watch.proofs.watches.Watch.on_serve.Goals as goal

on_ok_both : {T E P Q R : Type 0} (r : Result T E) → (P → Q → R) → OnOk r P → OnOk r Q → OnOk r R
on_ok_both (Ok x) f p q = f p q
on_ok_both (Err e) f p q = p

pub returns-in-Some-clause-ok : goal.returns-in-Some-clause-ok
returns-in-Some-clause-ok g c =
    let rules = g.T.Target.rules c.args.target.now in
    let ask = c.args.ask.now in
    let old = c.args.self.now in
    let mid = c.on_clash.new.self in
    let new = c.on_line.new.self in
    let line = c.in-Some.line in
    let clashed : mid ≡ record old { found = old.found ++ bus_entry (rules.channel_of ask) (id_of ask) c.args.clash } = search known in
    on_ok_both c.on_line.result
    (λ found noted.
    served_line rules c.args.clash ask old mid new clashed line (sym c.in-Some.is ∙ c.line.ensures)
    (found ∙ ap (λ i. mid.found ++ map_entry line i (clash_with (get nat_cmp mid.highs line) i)) c.id-low.ensures)
    (subst (λ i. IsNoted mid.highs line i new.highs) c.id-low.ensures noted))
    c.on_line.ensures.found c.on_line.ensures.highs
