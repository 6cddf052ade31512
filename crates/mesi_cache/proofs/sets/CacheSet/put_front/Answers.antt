use Rattle.std.proofs.Common.{arith}
use Rattle.mesi_cache.proofs.Slots.{put_front}
use Rattle.mesi_cache.proofs.sets.CacheSet.put_front.Goals as goal

pub returns : goal.returns
returns c =
    rw (c.copy_within.ensures.after)
    (put_front c.self.inside.lines c.self.inside.len (omega arith) c.args.self.now c.self.view_is c.args.place c.args.line c.requires)
