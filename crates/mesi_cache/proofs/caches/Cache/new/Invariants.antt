use Rattle.std.proofs.Common.{◌≡◌, replicate, []}
use Rattle.mesi_cache.proofs.caches.Cache.new.Given as goal

abbrev pub invariant-loop-number : goal.invariant-loop-number
invariant-loop-number l = l.empty.items ≡ replicate l._number []
