use Rattle.std.proofs.Common.{refl}
use Rattle.mesi_cache.proofs.Finding.{within, moved_keeps, moved_is}
use Rattle.mesi_cache.proofs.caches.Cache.use_found.Goals as goal

pub use_place-requires : goal.use_place-requires
use_place-requires c = within _ c.self.invariant _ c.self.view_is c.args.found c.requires _ c.index_mut-set.ensures.value

pub invariant_of-self : goal.invariant_of-self
invariant_of-self c = moved_keeps _ c.self.invariant _ c.self.view_is c.args.found c.requires _ c.index_mut-set.ensures.value (λ l. l) _ c.use_place.ensures (λ l. refl)

pub returns : goal.returns
returns c = moved_is _ c.self.invariant _ c.self.view_is c.args.found c.requires _ c.index_mut-set.ensures.value (λ l. l) _ c.use_place.ensures
