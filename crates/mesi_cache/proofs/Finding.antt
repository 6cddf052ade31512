-- Where a cache holds a line, and what an access to a line that was found comes to.
use Rattle.std.proofs.Common.{◌≡◌, ℕ, ◌<◌, List, [], ◌∷◌, Option, None, Some, IsSomeAnd, length, get_or, set, position, remove, slice_get, refl, sym, ap, ◌∙◌, arith}
use Rattle.std.specs.Option.{option_map}
use Rattle.std.proofs.lemmas.List.{get_or_read}
use Rattle.std.proofs.lemmas.Option.{none-some, same_Some, slice_get_within}
use Rattle.mesi_cache.specs.declared.lines.Held.{Held}
use Rattle.mesi_cache.specs.declared.lines.CacheLine.{CacheLine}
use Rattle.mesi_cache.specs.declared.places.Found.{Found}
use Rattle.mesi_cache.specs.Sets.{is_line, find_line, to_front}
use Rattle.mesi_cache.specs.Caches.{CacheValue, IsCache, set_number, set_of, line_in, with_set}
use Rattle.mesi_cache.specs.Places.{IsFoundIn}
use Rattle.mesi_cache.proofs.CacheSteps.{in_range, its_set, after_front}
use Rattle.mesi_cache.proofs.Once.{some_place, find_first, place_is}
use Rattle.mesi_cache.proofs.SetSteps.{front_held, find_missing}

-- what a value was made of
made_of : {X Y : Type 0} (f : X → Y) (o : Option X) (y : Y) → option_map f o ≡ Some y → (x : X) × (o ≡ Some x) × (f x ≡ y)
made_of f None y e = absurd (none-some y e)
made_of f (Some x) y e = (x, refl, same_Some (f x) y e)

module _ (v : CacheValue) (is : IsCache v) (line number : ℕ) (here : number ≡ set_number v line) (s : List CacheLine) (read : s ≡ get_or v.sets number s) where
  its_list : s ≡ set_of v line
  its_list = get_or_read v.sets number s (in_range v is line number here) read [] ∙ ap (λ n. get_or v.sets n []) here

  -- a place of a set is below 8
  pub few : (i : ℕ) → position (is_line line) s ≡ Some i → i < 8
  few i place =
      let at = (some_place (is_line line) s i place).0 in
      omega (arith, (some_place (is_line line) s i place).1, is.ways.1, (its_set v is line number here s read).within)

  pub not_there : position (is_line line) s ≡ None → line_in v line ≡ None
  not_there absent = rw (← its_list) (find_missing line s absent)

  -- the line stands at place i
  module _ (i : ℕ) (place : position (is_line line) s ≡ Some i) (h : Held) (state : option_map (λ l. l.held) (slice_get s i) ≡ Some h) where
    stands_at : slice_get s i ≡ find_line line s
    stands_at = let m = made_of (λ l. l.held) (slice_get s i) h state in m.1 ∙ sym (find_first (is_line line) s i m.0 place m.1)

    pub its_state : option_map (λ l. l.held) (line_in v line) ≡ Some h
    its_state = rw (← its_list, ← stands_at) state

    pub is_found : IsFoundIn v (record { line = line; set = number; place = i; held = h })
    is_found = record { its_set = here; its_place = rw (← its_list) stands_at; its_state = its_state }

-- the line that was found
pub line_found : (c : CacheValue) (f : Found) → IsFoundIn c f → (l : CacheLine) × (line_in c f.line ≡ Some l) × (l.held ≡ f.held)
line_found c f found = made_of (λ l. l.held) (line_in c f.line) f.held found.its_state

-- its set is one of the cache
pub set_within : (c : CacheValue) → IsCache c → (f : Found) → IsFoundIn c f → f.set < length c.sets
set_within c is f found = in_range c is f.line f.set found.its_set

-- a line that was found in a cache, which is seen as w
module _ (v : CacheValue) (is : IsCache v) (w : CacheValue) (seen : v ≡ w) (f : Found) (was_found : IsFoundIn w f) where
  found : IsFoundIn v f
  found = rw seen was_found

  its_line : (l : CacheLine) × (line_in v f.line ≡ Some l) × (l.held ≡ f.held)
  its_line = line_found v f found

  module _ (s : List CacheLine) (read : s ≡ get_or v.sets f.set s) where
    its_set_is : s ≡ set_of v f.line
    its_set_is = its_list v is f.line f.set found.its_set s read

    at_its_place : slice_get s f.place ≡ Some (its_line.0)
    at_its_place = rw its_set_is (found.its_place ∙ its_line.1)

    pub within : f.place < length s
    within = slice_get_within s f.place its_line.0 at_its_place

    first : find_line f.line s ≡ Some (its_line.0)
    first = rw its_set_is its_line.1

    -- its set where it moved to the front
    module _ (change : CacheLine → CacheLine) (t : List CacheLine) (moved : IsSomeAnd (slice_get s f.place) (λ l. t ≡ change l ∷ remove s f.place)) where
      is_front : t ≡ to_front change f.line s
      is_front =
          let m : t ≡ change its_line.0 ∷ remove s f.place = rw at_its_place at moved in
          let once = (its_set v is f.line f.set found.its_set s read).once f.line in
          let place = place_is (is_line f.line) s f.place its_line.0 once at_its_place first in
          m ∙ sym (front_held f.line s f.place its_line.0 once place at_its_place change)

      pub moved_keeps : ((l : CacheLine) → (change l).line ≡ l.line) → IsCache (record { ways = v.ways; sets = set v.sets f.set t })
      moved_keeps keeps = after_front v is f.line f.set found.its_set s read change keeps t is_front

      pub moved_is : record { ways = v.ways; sets = set v.sets f.set t } ≡ with_set w f.line (to_front change f.line (set_of w f.line))
      moved_is = rw (← seen) (rw (is_front, its_set_is, found.its_set) refl)
