-- What a cache and its touches were at the mark, as sets are noted and change.
use Rattle.std.proofs.Common.{◌≡◌, ◌∙◌, ℕ, ◌+◌, ◌≤◌, ◌%◌, ◌==◌, ◌||◌, Bool, true, false, List, [], ◌∷◌, Some, length, refl, sym, ap, arith}
use Rattle.std.proofs.lemmas.List.{length-map}
use Rattle.slack_base.specs.Bounds.{is_among}
use Rattle.mesi_cache.specs.declared.lines.CacheLine.{CacheLine}
use Rattle.mesi_cache.specs.Caches.{CacheValue, set_number, with_set}
use Rattle.timed_core.specs.declared.noted_sets.SetNote.{SetNote}
use Rattle.timed_core.specs.Journals.{SetsValue, IsReadyFor, cache_then, restored, restored_touches, is_noted, sets_noted}
use Rattle.timed_core.specs.TouchedCaches.{MarkedCache, IsPrepared}
use Rattle.timed_core.specs.Touches.{touch_line}
use Rattle.timed_core.proofs.Restoring.{restored-change, touches-change}

-- what a contract sees of the sets
abbrev pub seen : Bool → SetsValue → MarkedCache
seen marked s = record { value = record { cache = s.cache; touches = s.touches }; saved = cache_then marked s; noted = sets_noted s.journal }

-- the set of a line changed
abbrev pub changed : SetsValue → ℕ → List CacheLine → SetsValue
changed s line set = record s { cache = with_set s.cache line set }

-- the set of a line was touched
abbrev pub touched : SetsValue → ℕ → ℕ → SetsValue
touched s line t = record s { touches = touch_line t s.touches line }

-- a set stands in a journal where its number is among those of the journal
among-noted : (set : ℕ) (journal : List SetNote) → is_among set (sets_noted journal) ≡ is_noted set journal
among-noted set [] = refl
among-noted set (note ∷ journal) = ap (λ b. (note.set == set) || b) (among-noted set journal)

module _ (line : ℕ) (s : SetsValue) where
  -- a set that is prepared stands in the journal, where there is a mark
  in-journal : IsPrepared line (seen true s) → is_noted (set_number s.cache line) s.journal ≡ true
  in-journal prepared = sym (among-noted (set_number s.cache line) s.journal) ∙ prepared

  -- a set that is prepared may change: the cache and the touches at the mark stay
  pub then-changed : (set : List CacheLine) (marked : Bool) → IsPrepared line (seen marked s) → cache_then marked (changed s line set) ≡ cache_then marked s
  then-changed set false prepared = refl
  then-changed set true prepared =
      ap (λ (sets : List (List CacheLine)). Some (record { cache = record s.cache { sets = sets }; touches = restored_touches s.touches s.journal }))
      (restored-change s.cache.sets s.journal (set_number s.cache line) set (in-journal prepared))

  -- and so may its touch
  pub then-touched : (t : ℕ) (marked : Bool) → length s.touches ≡ length s.cache.sets → IsPrepared line (seen marked s) → cache_then marked (touched s line t) ≡ cache_then marked s
  then-touched t false each prepared = refl
  then-touched t true each prepared =
      let noted : is_noted (line % length s.touches) s.journal ≡ true = ap (λ n. is_noted (line % n) s.journal) each ∙ in-journal prepared in
      ap (λ (touches : List ℕ). Some (record { cache = record s.cache { sets = restored s.cache.sets s.journal }; touches = touches }))
      (touches-change s.touches s.journal (line % length s.touches) (t + 1) noted)

module _ (line : ℕ) (before after : SetsValue) where
  -- the cache and the touches at the mark stay where a set is made ready
  pub then-ready : (marked : Bool) → IsReadyFor line marked before after → cache_then marked after ≡ cache_then marked before
  then-ready false ready = refl
  then-ready true ready =
      ap (λ (sets : List (List CacheLine)). Some (record { cache = record after.cache { sets = sets }; touches = restored_touches after.touches after.journal })) ready.kept
      ∙ ap (λ (c : CacheValue). Some (record { cache = record c { sets = restored before.cache.sets before.journal }; touches = restored_touches after.touches after.journal })) ready.cache
      ∙ ap (λ (touches : List ℕ). Some (record { cache = record before.cache { sets = restored before.cache.sets before.journal }; touches = touches })) ready.kept_touches

  -- the set is prepared then
  pub now-prepared : (marked : Bool) → IsReadyFor line marked before after → IsPrepared line (seen marked after)
  now-prepared false ready = refl
  now-prepared true ready =
      among-noted (set_number after.cache line) after.journal ∙ ap (λ (c : CacheValue). is_noted (set_number c line) after.journal) ready.cache ∙ ready.noted refl

  -- and at most one set more is noted
  pub one-noted : (marked : Bool) → IsReadyFor line marked before after → length (sets_noted after.journal) ≤ length (sets_noted before.journal) + 1
  one-noted marked ready = omega (arith, ready.one, length-map after.journal (λ note. note.set), length-map before.journal (λ note. note.set))
