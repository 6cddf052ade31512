-- A cache, since when its sets are left alone, and which of them were noted since its mark.
use Rattle.std.specs.Prelude.{ℕ, ◌≡◌, Bool, true, List, Option, Some, None}
use Rattle.slack_base.specs.Bounds.{is_among}
use Rattle.mesi_cache.specs.Caches.{CacheValue, set_number}
use Rattle.timed_core.specs.Cores.{HartValue}

-- a cache with a touch of each of its sets
pub record TouchedCache : Type 0 where
  pub cache : CacheValue
  pub touches : List ℕ

-- a hart's cache with its touches
abbrev pub cache_of : HartValue → TouchedCache
cache_of h = record { cache = h.cache; touches = h.touches }

-- a cache with its touches now, and at its mark, if it is marked; and the numbers of the sets that were noted since, in
-- their order
pub record MarkedCache : Type 0 where
  pub value : TouchedCache
  pub saved : Option TouchedCache
  pub noted : List ℕ

-- whether the set of a number may change: where there is a mark, it is noted
abbrev pub is_prepared : Option TouchedCache → List ℕ → ℕ → Bool
is_prepared None noted set = true
is_prepared (Some saved) noted set = is_among set noted

-- the set of a line is prepared to change
abbrev pub IsPrepared : (line : ℕ) → MarkedCache → Type 0
IsPrepared line c = is_prepared c.saved c.noted (set_number c.value.cache line) ≡ true
