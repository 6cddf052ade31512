-- A set of a cache by its number, and the cache with another list as that set.
use Rattle.std.specs.Prelude.{ℕ, List, [], length, slice_index_or, slice_set}
use Rattle.mesi_cache.specs.declared.lines.CacheLine.{CacheLine}
use Rattle.mesi_cache.specs.Caches.{CacheValue, IsSet}

abbrev pub set_numbered : CacheValue → ℕ → List CacheLine
set_numbered c number = slice_index_or c.sets number []

-- the other sets stay
abbrev pub with_set_numbered : CacheValue → ℕ → List CacheLine → CacheValue
with_set_numbered c number set = record c { sets = slice_set c.sets number set }

-- the cache can hold this list as the set of this number
abbrev pub CanHold : CacheValue → ℕ → List CacheLine → Type 0
CanHold c number set = IsSet c.ways (length c.sets) number set
