-- Where a cache holds a line.
use Rattle.std.specs.Prelude.{◌≡◌, Some, slice_get}
use Rattle.std.specs.Option.{option_map}
use Rattle.mesi_cache.specs.declared.places.Found.{Found}
use Rattle.mesi_cache.specs.Caches.{CacheValue, set_number, set_of, line_in}

-- the line belongs to this set, stands in it at this place, and is held in this state
pub record IsFoundIn (c : CacheValue) (found : Found) : Type 0 where
  pub its_set : found.set ≡ set_number c found.line
  pub its_place : slice_get (set_of c found.line) found.place ≡ line_in c found.line
  pub its_state : option_map (λ l. l.held) (line_in c found.line) ≡ Some found.held
