use Rattle.std.proofs.Common.{refl}
use Rattle.mesi_cache.specs.Lines.{written}
use Rattle.mesi_cache.proofs.Finding.{within, moved_keeps, moved_is}
use Rattle.mesi_cache.proofs.caches.Cache.write_found.Goals as goal

pub write_place-requires-clause-place : goal.write_place-requires-clause-place
write_place-requires-clause-place c = within _ c.self.invariant _ c.self.view_is c.args.found c.requires.found _ c.index_mut-set.ensures.value

pub invariant_of-self : goal.invariant_of-self
invariant_of-self c =
    moved_keeps _ c.self.invariant _ c.self.view_is c.args.found c.requires.found _ c.index_mut-set.ensures.value (written c.args.word c.args.value) _ c.write_place.ensures (λ l. refl)

pub returns : goal.returns
returns c =
    moved_is _ c.self.invariant _ c.self.view_is c.args.found c.requires.found _ c.index_mut-set.ensures.value (written c.args.word c.args.value) _ c.write_place.ensures
