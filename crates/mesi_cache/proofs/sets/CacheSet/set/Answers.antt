use Rattle.std.proofs.Common.{arith}
use Rattle.mesi_cache.proofs.Slots.{put_at}
use Rattle.mesi_cache.proofs.sets.CacheSet.set.Goals as goal

pub returns : goal.returns
returns c = put_at c.self.inside.lines c.self.inside.len (omega arith) c.args.self.now c.self.view_is c.args.place c.args.line c.requires
