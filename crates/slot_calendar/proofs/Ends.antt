-- The greatest end of slots is that of their greatest grant.
use Rattle.std.proofs.Common.{◌≡◌, refl, subst, ◌∙◌, ℕ, ◌-◌, ◌≤◌, zero, suc, min, max, List, [], ◌∷◌, ◌++◌, length, take, drop, map, slice_get, Option, Some, None, sym, ap, arith}
use Rattle.slack_base.specs.declared.bounds.TheConstants.{TOP}
use Rattle.slack_base.specs.declared.stamps.Id.{Id}
use Rattle.slot_calendar.specs.declared.entries.Entry.{Entry}
use Rattle.slot_calendar.specs.declared.slots.Slot.{Slot}
use Rattle.slot_calendar.specs.Slots.{end_of, last_end, below, clash, grant_by, grant_in}
use Rattle.slot_calendar.specs.Entries.{slots_of, latest_of, earliest_of, AreRunning, AreComing, raised_to, lowered_to}

pub latest_of_last : (latest : ℕ) (entries : List Entry) (e : Entry) → Some e ≡ slice_get entries (length entries - 1) → e.latest ≡ latest_of latest entries
latest_of_last latest [] e is = absurd (cc)
latest_of_last latest (q ∷ []) e is = let same : e ≡ q = cc in ap (λ (r : Entry). r.latest) same
latest_of_last latest (q ∷ r ∷ entries) e is =
    latest_of_last q.latest (r ∷ entries) e (is ∙ ap (λ n. slice_get (q ∷ r ∷ entries) n) places)
  where
    places : suc (suc (length entries)) - 1 ≡ suc (suc (length entries) - 1)
    places = omega arith

end-max : (o a b : ℕ) → end_of o (max a b) ≡ max (end_of o a) (end_of o b)
end-max o a b = omega arith

module _ (occupancy free : ℕ) where
  ends_run : (latest : ℕ) (entries : List Entry) → AreRunning latest entries
      → max (end_of occupancy latest) (last_end occupancy free (slots_of entries)) ≡ max free (end_of occupancy (latest_of latest entries))
  ends_run latest [] h = swap (end_of occupancy latest) free
    where
      swap : (a b : ℕ) → max a b ≡ max b a
      swap a b = omega arith
  ends_run latest (e ∷ entries) h =
      let rest = last_end occupancy free (slots_of entries) in
      assoc (end_of occupancy latest) (end_of occupancy e.slot.grant) rest
      ∙ ap (λ n. max n rest) (sym (end-max occupancy latest e.slot.grant))
      ∙ ap (λ n. max (end_of occupancy n) rest) (sym h.0)
      ∙ ends_run e.latest entries h.1
    where
      assoc : (a b c : ℕ) → max a (max b c) ≡ max (max a b) c
      assoc a b c = omega arith

  -- with one entry at least
  pub last_end-latest : (e : Entry) (entries : List Entry) → AreRunning 0 (e ∷ entries)
      → last_end occupancy free (slots_of (e ∷ entries)) ≡ max free (end_of occupancy (latest_of 0 (e ∷ entries)))
  last_end-latest e entries h =
      ap (λ n. max (end_of occupancy n) (last_end occupancy free (slots_of entries))) (sym (h.0 ∙ first e.slot.grant)) ∙ ends_run e.latest entries h.1
    where
      first : (n : ℕ) → max 0 n ≡ n
      first n = omega arith

  pub last_end_read : (entries : List Entry) (e : Entry) → AreRunning 0 entries → Some e ≡ slice_get entries (length entries - 1)
      → last_end occupancy free (slots_of entries) ≡ max free (end_of occupancy e.latest)
  last_end_read [] e h is = absurd (cc)
  last_end_read (q ∷ entries) e h is = last_end-latest q entries h ∙ ap (λ n. max free (end_of occupancy n)) (sym (latest_of_last 0 (q ∷ entries) e is))

  pub last_end_top : (slots : List Slot) → free ≤ TOP → last_end occupancy free slots ≤ TOP
  last_end_top [] h = h
  last_end_top (s ∷ slots) h = let rest = last_end_top slots h in both s.grant occupancy (last_end occupancy free slots) rest
    where
      both : (grant o rest : ℕ) → rest ≤ TOP → max (end_of o grant) rest ≤ TOP
      both grant o rest h = omega arith

-- the grant of an ask
module _ (occupancy free stamp : ℕ) (x : Id) (slots : List Slot) (stamp_top : stamp ≤ TOP) (free_top : free ≤ TOP) where
  both_top : (n : ℕ) → n ≤ TOP → max stamp n ≤ TOP
  both_top n h = omega arith

  pub grant_top : grant_in occupancy free stamp x slots ≤ TOP
  grant_top = by (clash occupancy free stamp x slots)
    where
      by : (high : Option Id) → grant_by high occupancy free stamp x slots ≤ TOP
      by None = both_top (last_end occupancy free (below x slots)) (last_end_top occupancy free (below x slots) free_top)
      by (Some high) = both_top (last_end occupancy free slots) (last_end_top occupancy free slots free_top)

-- parts of entries
pub running_take : (latest n : ℕ) (entries : List Entry) → AreRunning latest entries → AreRunning latest (take n entries)
running_take latest zero entries h = tt
running_take latest (suc n) [] h = tt
running_take latest (suc n) (e ∷ entries) h = (h.0, running_take e.latest n entries h.1)

running_parts : (latest : ℕ) (xs ys : List Entry) → AreRunning latest (xs ++ ys) → AreRunning latest xs × AreRunning (latest_of latest xs) ys
running_parts latest [] ys h = (tt, h)
running_parts latest (e ∷ xs) ys h = let rest = running_parts e.latest xs ys h.1 in ((h.0, rest.0), rest.1)

running_join : (latest : ℕ) (xs ys : List Entry) → AreRunning latest xs → AreRunning (latest_of latest xs) ys → AreRunning latest (xs ++ ys)
running_join latest [] ys h k = k
running_join latest (e ∷ xs) ys h k = (h.0, running_join e.latest xs ys h.1 k)

-- with one more grant before them, or behind them
running_raised : (latest grant : ℕ) (entries : List Entry) → AreRunning latest entries → AreRunning (max latest grant) (map (raised_to grant) entries)
running_raised latest grant [] h = tt
running_raised latest grant (e ∷ entries) h = (swap e.latest latest e.slot.grant grant h.0, running_raised e.latest grant entries h.1)
  where
    swap : (l m n g : ℕ) → l ≡ max m n → max l g ≡ max (max m g) n
    swap l m n g h = omega arith

running_lowered : (latest grant : ℕ) (entries : List Entry) → AreRunning latest entries → AreRunning latest (map (lowered_to grant) entries)
running_lowered latest grant [] h = tt
running_lowered latest grant (e ∷ entries) h = (h.0, running_lowered e.latest grant entries h.1)

latest-lowered : (latest grant : ℕ) (entries : List Entry) → latest_of latest (map (lowered_to grant) entries) ≡ latest_of latest entries
latest-lowered latest grant [] = refl
latest-lowered latest grant (e ∷ entries) = latest-lowered e.latest grant entries

coming_raised : (grant : ℕ) (entries : List Entry) → AreComing entries → AreComing (map (raised_to grant) entries)
coming_raised grant [] h = tt
coming_raised grant (e ∷ entries) h = (h.0 ∙ first e.slot.grant entries, coming_raised grant entries h.1)
  where
    first : (g : ℕ) (entries : List Entry) → earliest_of g entries ≡ earliest_of g (map (raised_to grant) entries)
    first g [] = refl
    first g (e ∷ entries) = refl

pub coming_drop : (n : ℕ) (entries : List Entry) → AreComing entries → AreComing (drop n entries)
coming_drop zero entries h = h
coming_drop (suc n) [] h = tt
coming_drop (suc n) (e ∷ entries) h = coming_drop n entries h.1

-- an entry between others
module _ (e : Entry) where
  abbrev grant : ℕ
  grant = e.slot.grant

  abbrev pub with_entry : (earlier later : List Entry) → List Entry
  with_entry earlier later = map (lowered_to grant) earlier ++ e ∷ map (raised_to grant) later

  pub running_between : (earlier later : List Entry) → AreRunning 0 (earlier ++ later) → e.latest ≡ max (latest_of 0 earlier) grant → AreRunning 0 (with_entry earlier later)
  running_between earlier later h is =
      let parts = running_parts 0 earlier later h in
      running_join 0 (map (lowered_to grant) earlier) (e ∷ map (raised_to grant) later) (running_lowered 0 grant earlier parts.0) (
        is ∙ ap (λ n. max n grant) (sym (latest-lowered 0 grant earlier)),
        subst (λ l. AreRunning l (map (raised_to grant) later)) (sym is) (running_raised (latest_of 0 earlier) grant later parts.1),
      )

  coming_before : (earlier later : List Entry) → AreComing (earlier ++ later) → AreComing (e ∷ map (raised_to grant) later) → e.earliest ≡ earliest_of grant later → AreComing (with_entry earlier later)
  coming_before [] later h k is = k
  coming_before (q ∷ earlier) later h k is = (next earlier h.0, coming_before earlier later h.1 k is)
    where
      last : (a b c n : ℕ) → n ≡ min a b → c ≡ min grant b → min n grant ≡ min a c
      last a b c n h k = omega arith

      alone : (a c n : ℕ) → n ≡ a → c ≡ grant → min n grant ≡ min a c
      alone a c n h k = omega arith

      inner : (a b n : ℕ) → n ≡ min a b → min n grant ≡ min a (min b grant)
      inner a b n h = omega arith

      at_last : (later : List Entry) → q.earliest ≡ earliest_of q.slot.grant later → e.earliest ≡ earliest_of grant later → min q.earliest grant ≡ min q.slot.grant e.earliest
      at_last [] h k = alone q.slot.grant e.earliest q.earliest h k
      at_last (r ∷ later) h k = last q.slot.grant r.earliest e.earliest q.earliest h k

      next : (earlier : List Entry) → q.earliest ≡ earliest_of q.slot.grant (earlier ++ later) → min q.earliest grant ≡ earliest_of q.slot.grant (with_entry earlier later)
      next [] h = at_last later h is
      next (r ∷ earlier) h = inner q.slot.grant r.earliest q.earliest h

  pub coming_between : (earlier later : List Entry) → AreComing (earlier ++ later) → e.earliest ≡ earliest_of grant later → AreComing (with_entry earlier later)
  coming_between earlier later h is = coming_before earlier later h (is ∙ same later, coming_raised grant later (behind earlier h)) is
    where
      same : (later : List Entry) → earliest_of grant later ≡ earliest_of grant (map (raised_to grant) later)
      same [] = refl
      same (q ∷ later) = refl

      behind : (earlier : List Entry) → AreComing (earlier ++ later) → AreComing later
      behind [] h = h
      behind (q ∷ earlier) h = behind earlier h.1
