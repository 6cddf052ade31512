-- What a core's parts are, now and at its mark.
use Rattle.std.specs.Prelude.{ℕ, List, Option, Some, None}
use Rattle.slack_base.specs.Inboxes.{CoreValue}
use Rattle.timed_core.specs.Cores.{HartValue}
use Rattle.timed_core.specs.declared.marks.Saved.{Saved}
use Rattle.timed_core.specs.Parts.{hart_of}
use Rattle.timed_core.specs.TouchedCaches.{TouchedCache, MarkedCache, cache_of}

-- a hart, the cache with the touches that it had at its mark, if it is marked, and the numbers of the sets of its cache
-- that were noted since, in their order
pub record NotedHart : Type 0 where
  pub value : HartValue
  pub saved : Option TouchedCache
  pub noted : List ℕ

-- its cache
abbrev pub cache_in : NotedHart → MarkedCache
cache_in h = record { value = cache_of h.value; saved = h.saved; noted = h.noted }

-- a core now, and at its mark, if it is marked; and the numbers of the sets of its cache that were noted since, in their
-- order
pub record MarkedCore : Type 0 where
  pub value : CoreValue HartValue
  pub saved : Option (CoreValue HartValue)
  pub noted : List ℕ

-- the core at its mark: its small parts were kept, and its cache is known
abbrev pub core_then : Option Saved → Option TouchedCache → Option (CoreValue HartValue)
core_then (Some s) (Some cache) = Some (record { inner = hart_of s.parts cache; inbox = s.inbox })
core_then (Some s) None = None
core_then None cache = None
