use Rattle.std.proofs.Common.{length}
use Rattle.mesi_cache.specs.Caches.{HasShape}
use Rattle.core_tests.proofs.caches.answer_all.Given as goal

abbrev pub invariant-loop-call : goal.invariant-loop-call
invariant-loop-call l = HasShape (length l.initial.cache.sets) l.initial.cache.ways l.cache
