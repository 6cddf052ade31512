-- Each operation on a cache leaves one.
use Rattle.std.proofs.Common.{◌≡◌, ℕ, ◌<◌, ◌≤◌, Bool, IsTrue, List, [], ◌∷◌, length, get_or, set, sym, inl, inr, arith, length-set, get_or-set_same, get_or-set_other}
use Rattle.std.proofs.lemmas.Bool.{cases_eq}
use Rattle.std.proofs.lemmas.Bool.Decides.{nat_tests}
use Rattle.std.proofs.lemmas.List.{get_or_read, length-replicate, get_or-replicate}
use Rattle.std.proofs.lemmas.List.Elements.{All-nil}
use Rattle.slack_base.specs.Bounds.{is_among}
use Rattle.mesi_cache.specs.declared.lines.CacheLine.{CacheLine}
use Rattle.mesi_cache.specs.Sets.{to_front, fill_set, snoop_set}
use Rattle.mesi_cache.specs.Caches.{CacheValue, IsSet, IsCache, set_number, empty_cache}
use Rattle.mesi_cache.proofs.Kept.{kept_front, kept_fill, kept_snoop}

some_sets : (n : ℕ) → IsTrue (is_among n (1 ∷ 2 ∷ 4 ∷ 8 ∷ 16 ∷ 32 ∷ 64 ∷ [])) → 0 < n
some_sets n h = grind (arith, nat_tests)

-- the empty cache is one
pub empty_is : (sets ways : ℕ) → IsTrue (is_among sets (1 ∷ 2 ∷ 4 ∷ 8 ∷ 16 ∷ 32 ∷ 64 ∷ [])) → (1 ≤ ways) × (ways ≤ 8) → IsCache (empty_cache sets ways)
empty_is sets ways power few = record {
  sets = rw (length-replicate {A = List CacheLine} sets []) power;
  ways = few;
  each = λ k below.
      let near : k < sets = omega (arith, length-replicate {A = List CacheLine} sets []) in
      rw (get_or-replicate {A = List CacheLine} sets k [] [] near) (record { within = omega arith; once = λ m. omega arith; placed = All-nil _ });
}

module _ (v : CacheValue) (is : IsCache v) (line number : ℕ) (here : number ≡ set_number v line) where
  pub in_range : number < length v.sets
  in_range = let some = some_sets (length v.sets) is.sets in omega (arith, here)

  -- the set that was read at that number
  module _ (s : List CacheLine) (read : s ≡ get_or v.sets number s) where
    pub its_set : IsSet v.ways (length v.sets) number s
    its_set = rw (get_or_read v.sets number s in_range read []) (is.each number in_range)

    put_set : (t : List CacheLine) → IsSet v.ways (length v.sets) number t → IsCache (record { ways = v.ways; sets = set v.sets number t })
    put_set t fits = record {
      sets = rw (length-set v.sets number t) is.sets;
      ways = is.ways;
      each = λ k below.
          let near : k < length v.sets = omega (arith, length-set v.sets number t) in
          rw (length-set v.sets number t)
          (elim (cases_eq k number) [
            | inl same ↦ rw (same, get_or-set_same v.sets number t [] in_range) fits
            | inr other ↦ rw (get_or-set_other v.sets number k t [] other) (is.each k near)
          ]);
    }

    pub after_front : (change : CacheLine → CacheLine) → ((l : CacheLine) → (change l).line ≡ l.line) → (t : List CacheLine) → t ≡ to_front change line s → IsCache (record { ways = v.ways; sets = set v.sets number t })
    after_front change keeps t is_front = put_set t (rw is_front (kept_front v.ways (length v.sets) number s its_set change line keeps))

    pub after_fill : (new : CacheLine) → new.line ≡ line → (t : List CacheLine) → t ≡ fill_set v.ways new s → IsCache (record { ways = v.ways; sets = set v.sets number t })
    after_fill new same t is_filled = put_set t (rw is_filled (kept_fill v.ways (length v.sets) number s its_set new (rw same (sym here))))

    pub after_snoop : (own : Bool) (t : List CacheLine) → t ≡ snoop_set line own s → IsCache (record { ways = v.ways; sets = set v.sets number t })
    after_snoop own t is_snooped = put_set t (rw is_snooped (kept_snoop v.ways (length v.sets) number s its_set line own))
