use Rattle.std.proofs.Common.{◌∙◌, map, sym}
use Rattle.target_law.proofs.Stored.{map-closed, none_of}
use Rattle.target_law.proofs.cycles.close_after.Goals as goal

pub returns-else-not-is_empty : goal.returns-else-not-is_empty
returns-else-not-is_empty g c =
    let none = none_of c.args.asks.now (sym c.is_empty.ensures ∙ c.if-not-is_empty.false) in
    sym (map-closed (g.T.Target.rules c.args.target.now).close (map g.T.Target.values.chan c.args.chans.now) (c.requires.closed none))
