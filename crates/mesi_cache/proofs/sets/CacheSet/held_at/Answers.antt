use Rattle.std.proofs.Common.{arith, ap}
use Rattle.std.specs.Option.{option_map}
use Rattle.mesi_cache.proofs.Slots.{at_place}
use Rattle.mesi_cache.proofs.sets.CacheSet.held_at.Goals as goal

pub returns : goal.returns
returns c = ap (option_map (λ l. l.held)) (at_place c.self.inside.lines c.self.inside.len (omega arith) c.args.self.now c.self.view_is c.args.place _ c.requires)
