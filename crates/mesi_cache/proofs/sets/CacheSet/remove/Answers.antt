use Rattle.std.proofs.Common.{arith}
use Rattle.mesi_cache.proofs.Slots.{take_out}
use Rattle.mesi_cache.proofs.sets.CacheSet.remove.Goals as goal

pub returns : goal.returns
returns c =
    rw (c.copy_within.ensures.after)
    (take_out c.self.inside.lines c.self.inside.len (omega arith) c.args.self.now c.self.view_is c.args.place c.requires)
