use Rattle.std.proofs.Common.{◌≡◌, take}
use Rattle.mesi_cache.proofs.caches.Cache.copy.Given as goal

abbrev pub invariant-loop-set : goal.invariant-loop-set
invariant-loop-set l = l.copied.items ≡ take l.set-index l.set-items
