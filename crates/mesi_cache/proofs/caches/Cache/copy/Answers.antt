use Rattle.std.proofs.Common.{◌≡◌, arith}
use Rattle.std.proofs.lemmas.Grind.{common_steps}
use Rattle.mesi_cache.proofs.caches.Cache.copy.Goals as goal

pub invariant_of-result : goal.invariant_of-result
invariant_of-result c =
    let all : c.loop-set.copied.items ≡ c.self.inside.sets.items = grind (arith, common_steps) in
    rw all c.self.invariant
