use Rattle.std.proofs.Common.{◌≡◌, replicate, [], rules}
use Rattle.mesi_cache.proofs.CacheSteps.{empty_is}
use Rattle.mesi_cache.proofs.caches.Cache.new.Goals as goal

pub invariant_of-result : goal.invariant_of-result
invariant_of-result c =
    let all : c.loop-number.empty.items ≡ replicate c.args.sets [] = search rules in
    rw all (empty_is c.args.sets c.args.ways c.requires.sets c.requires.ways)
