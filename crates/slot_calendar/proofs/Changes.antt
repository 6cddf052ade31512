-- Entries with one more, and what the others then say of the grants.
use Rattle.std.proofs.Common.{◌≡◌, ◌∙◌, ℕ, ◌+◌, ◌-◌, ◌<◌, ◌≤◌, zero, suc, min, max, List, [], ◌∷◌, ◌++◌, length, get_or, set, take, drop, map, insert, refl, sym, ap, subst, arith, add-one, length-take-le, drop-drop, take-append-drop}
use Rattle.std.specs.List.{AllByRecursion as Each}
use Rattle.std.proofs.lemmas.List.{take_all, drop_all, take_at, drop_at, take-append-le, length-map}
use Rattle.slot_calendar.specs.declared.entries.Entry.{Entry}
use Rattle.slot_calendar.specs.Slots.{IsInOrder, with_slot}
use Rattle.slot_calendar.specs.Entries.{slots_of, latest_of, earliest_of, AreRunning, AreComing, AreKept, AreClimbing, IsPlace, raised_to, lowered_to, changed_between}
use Rattle.slot_calendar.proofs.Ends.{with_entry, running_between, coming_between}
use Rattle.slot_calendar.proofs.Lists.{each_weaker}
use Rattle.slot_calendar.proofs.Points.{coming_climbs, running_climbs, climbs_front, climbs_back, climbs_take, climbs_drop}
use Rattle.slot_calendar.proofs.Orders.{slots-append, slots-map, with_slot_in, in_order-with_slot}

-- a slice that was lent as a whole
pub replaced_all : {X : Type 0} (old new : List X) (n : ℕ) → n ≡ length new → take n (new ++ drop (length new) old) ≡ new
replaced_all old new n e = take-append-le n new (drop (length new) old) (omega arith) ∙ take_all n new (omega arith)

-- changes of one entry more
module _ (f : Entry → Entry) where
  pub changed_down : (entries : List Entry) (n m : ℕ) (d : Entry) → n < m → m ≤ length entries
      → set (changed_between f (suc n) m entries) n (f (get_or entries n d)) ≡ changed_between f n m entries
  changed_down [] n m d some within = absurd (omega arith)
  changed_down (e ∷ entries) n zero d some within = absurd (omega arith)
  changed_down (e ∷ entries) zero (suc m) d some within = refl
  changed_down (e ∷ entries) (suc n) (suc m) d some within = ap (λ l. e ∷ l) (changed_down entries n m d (omega arith) (omega arith))

  pub changed_up : (entries : List Entry) (n m : ℕ) (d : Entry) → n ≤ m → m < length entries
      → set (changed_between f n m entries) m (f (get_or entries m d)) ≡ changed_between f n (suc m) entries
  changed_up [] n m d some within = absurd (omega arith)
  changed_up (e ∷ entries) zero zero d some within = refl
  changed_up (e ∷ entries) zero (suc m) d some within = ap (λ l. f e ∷ l) (changed_up entries zero m d (omega arith) (omega arith))
  changed_up (e ∷ entries) (suc n) zero d some within = absurd (omega arith)
  changed_up (e ∷ entries) (suc n) (suc m) d some within = ap (λ l. e ∷ l) (changed_up entries n m d (omega arith) (omega arith))

  -- no change yet
  pub changed_none : (entries : List Entry) (n : ℕ) → n ≤ length entries → changed_between f n n entries ≡ entries
  changed_none entries zero within = refl
  changed_none [] (suc n) within = refl
  changed_none (e ∷ entries) (suc n) within = ap (λ l. e ∷ l) (changed_none entries n (omega arith))

  -- the others wouldn't change
  pub changed_rest_down : (entries : List Entry) (n m : ℕ) → n ≤ m → Each (λ e. f e ≡ e) (take n entries) → changed_between f n m entries ≡ changed_between f 0 m entries
  changed_rest_down entries zero m le same = refl
  changed_rest_down [] (suc n) zero le same = refl
  changed_rest_down [] (suc n) (suc m) le same = refl
  changed_rest_down (e ∷ entries) (suc n) zero le same = absurd (omega arith)
  changed_rest_down (e ∷ entries) (suc n) (suc m) le same =
      ap (λ l. e ∷ l) (changed_rest_down entries n m (omega arith) same.1) ∙ ap (λ (q : Entry). q ∷ changed_between f 0 m entries) (sym same.0)

  same_all : (entries : List Entry) → Each (λ e. f e ≡ e) entries → entries ≡ map f entries
  same_all [] same = refl
  same_all (e ∷ entries) same = ap (λ l. e ∷ l) (same_all entries same.1) ∙ ap (λ (q : Entry). q ∷ map f entries) (sym same.0)

  pub changed_whole : (entries : List Entry) → changed_between f 0 (length entries) entries ≡ map f entries
  changed_whole [] = refl
  changed_whole (e ∷ entries) = ap (λ l. f e ∷ l) (changed_whole entries)

  pub changed_rest_up : (entries : List Entry) (n m : ℕ) → n ≤ m → m ≤ length entries → Each (λ e. f e ≡ e) (drop m entries)
      → changed_between f n m entries ≡ changed_between f n (length entries) entries
  changed_rest_up [] n m le within same = empty n m
    where
      empty : (n m : ℕ) → changed_between f n m [] ≡ changed_between f n 0 []
      empty zero zero = refl
      empty zero (suc m) = refl
      empty (suc n) zero = refl
      empty (suc n) (suc m) = refl
  changed_rest_up (e ∷ entries) zero zero le within same = same_all (e ∷ entries) same ∙ sym (changed_whole (e ∷ entries))
  changed_rest_up (e ∷ entries) zero (suc m) le within same = ap (λ l. f e ∷ l) (changed_rest_up entries zero m (omega arith) (omega arith) same)
  changed_rest_up (e ∷ entries) (suc n) zero le within same = absurd (omega arith)
  changed_rest_up (e ∷ entries) (suc n) (suc m) le within same = ap (λ l. e ∷ l) (changed_rest_up entries n m (omega arith) (omega arith) same)

  -- what stands before the changes, and what stands behind them
  get_before : (entries : List Entry) (n m : ℕ) (d : Entry) → n < m → m ≤ length entries → get_or (changed_between f (suc n) m entries) n d ≡ get_or entries n d
  get_before [] n m d some within = absurd (omega arith)
  get_before (e ∷ entries) n zero d some within = absurd (omega arith)
  get_before (e ∷ entries) zero (suc m) d some within = refl
  get_before (e ∷ entries) (suc n) (suc m) d some within = get_before entries n m d (omega arith) (omega arith)

  get_behind : (entries : List Entry) (n m : ℕ) (d : Entry) → n ≤ m → m < length entries → get_or (changed_between f n m entries) m d ≡ get_or entries m d
  get_behind [] n m d le within = absurd (omega arith)
  get_behind (e ∷ entries) zero zero d le within = refl
  get_behind (e ∷ entries) zero (suc m) d le within = get_behind entries zero m d (omega arith) (omega arith)
  get_behind (e ∷ entries) (suc n) zero d le within = absurd (omega arith)
  get_behind (e ∷ entries) (suc n) (suc m) d le within = get_behind entries n m d (omega arith) (omega arith)

-- a loop that lowers from a place back
module _ (grant : ℕ) (entries old : List Entry) (n place : ℕ) (d : Entry) (is : entries ≡ changed_between (lowered_to grant) n place old) (some : 0 < n) (le : n ≤ place) (within : place ≤ length old) where
  abbrev last : ℕ
  last = n - 1

  places : suc last ≡ n
  places = omega arith

  whole : entries ≡ changed_between (lowered_to grant) (suc last) place old
  whole = is ∙ ap (λ k. changed_between (lowered_to grant) k place old) (sym places)

  last_read : get_or entries last d ≡ get_or old last d
  last_read = ap (λ l. get_or l last d) whole ∙ get_before (lowered_to grant) old last place d (omega arith) within

  abbrev with_earliest : Entry → Entry
  with_earliest e = record { slot = e.slot; latest = e.latest; earliest = grant }

  lowered_is : (e : Entry) → grant < e.earliest → with_earliest e ≡ lowered_to grant e
  lowered_is e h = let low : grant ≡ min e.earliest grant = omega arith in ap (λ k. record { slot = e.slot; latest = e.latest; earliest = k }) low

  pub lower_more : grant < (get_or entries last d).earliest → set entries last (with_earliest (get_or entries last d)) ≡ changed_between (lowered_to grant) last place old
  lower_more h =
      ap (set entries last) (lowered_is (get_or entries last d) h ∙ ap (lowered_to grant) last_read)
      ∙ ap (λ l. set l last (lowered_to grant (get_or old last d))) whole
      ∙ changed_down (lowered_to grant) old last place d (omega arith) within

  same_of : (e : Entry) → e.earliest ≤ grant → lowered_to grant e ≡ e
  same_of e h = let low : min e.earliest grant ≡ e.earliest = omega arith in ap (λ k. record { slot = e.slot; latest = e.latest; earliest = k }) low

  pub lower_done : AreClimbing (λ e. e.earliest) (take place old) → (get_or entries last d).earliest ≤ grant → entries ≡ changed_between (lowered_to grant) 0 place old
  lower_done climbing h =
      is ∙ changed_rest_down (lowered_to grant) old n place le
      (subst (λ k. Each (λ e. lowered_to grant e ≡ e) (take k old)) places
      (each_weaker same_of (take (suc last) old)
      (climbs_front (λ e. e.earliest) grant old last place d climbing (omega arith) within (subst (λ (e : Entry). e.earliest ≤ grant) last_read h))))

-- a loop that raises from a place on
module _ (grant : ℕ) (entries old : List Entry) (place n : ℕ) (d : Entry) (is : entries ≡ changed_between (raised_to grant) place n old) (le : place ≤ n) (within : n < length old) where
  next_read : get_or entries n d ≡ get_or old n d
  next_read = ap (λ l. get_or l n d) is ∙ get_behind (raised_to grant) old place n d le within

  abbrev with_latest : Entry → Entry
  with_latest e = record { slot = e.slot; latest = grant; earliest = e.earliest }

  raised_is : (e : Entry) → e.latest < grant → with_latest e ≡ raised_to grant e
  raised_is e h = let high : grant ≡ max e.latest grant = omega arith in ap (λ k. record { slot = e.slot; latest = k; earliest = e.earliest }) high

  next_place : suc n ≡ n + 1
  next_place = omega arith

  pub raise_more : (get_or entries n d).latest < grant → set entries n (with_latest (get_or entries n d)) ≡ changed_between (raised_to grant) place (n + 1) old
  raise_more h =
      ap (set entries n) (raised_is (get_or entries n d) h ∙ ap (raised_to grant) next_read)
      ∙ ap (λ l. set l n (raised_to grant (get_or old n d))) is
      ∙ changed_up (raised_to grant) old place n d le within
      ∙ ap (λ k. changed_between (raised_to grant) place k old) next_place

  kept_of : (e : Entry) → grant ≤ e.latest → raised_to grant e ≡ e
  kept_of e h = let high : max e.latest grant ≡ e.latest = omega arith in ap (λ k. record { slot = e.slot; latest = k; earliest = e.earliest }) high

  pub raise_done : AreClimbing (λ e. e.latest) (drop place old) → grant ≤ (get_or entries n d).latest → entries ≡ changed_between (raised_to grant) place (length old) old
  raise_done climbing h =
      is ∙ changed_rest_up (raised_to grant) old place n le (omega arith)
      (each_weaker kept_of (drop n old) (climbs_back (λ e. e.latest) grant old place n d climbing le within (subst (λ (e : Entry). grant ≤ e.latest) next_read h)))

-- the entries with one more
module _ (place : ℕ) (old : List Entry) (e : Entry) (at : IsPlace e.slot.id place old) where
  abbrev pub grown : List Entry
  grown = with_entry e (take place old) (drop place old)

  front : take place (insert old place e) ≡ take place old
  front = take_at (take place old) (e ∷ drop place old) place (length-take-le place old at.within)

  back : drop place (insert old place e) ≡ e ∷ drop place old
  back = drop_at (take place old) (e ∷ drop place old) place (length-take-le place old at.within)

  abbrev pub half : List Entry
  half = map (lowered_to e.slot.grant) (take place old) ++ e ∷ drop place old

  pub climbing_earlier : AreComing old → AreClimbing (λ q. q.earliest) (take place (insert old place e))
  climbing_earlier coming = subst (AreClimbing (λ q. q.earliest)) (sym front) (climbs_take (λ q. q.earliest) place old (coming_climbs old coming))

  pub half_is : changed_between (lowered_to e.slot.grant) 0 place (insert old place e) ≡ half
  half_is = ap (λ l. map (lowered_to e.slot.grant) l ++ drop place (insert old place e)) front ∙ ap (λ l. map (lowered_to e.slot.grant) (take place old) ++ l) back

  count : length (map (lowered_to e.slot.grant) (take place old)) ≡ place
  count = length-map (take place old) (lowered_to e.slot.grant) ∙ length-take-le place old at.within

  rest : drop (place + 1) half ≡ drop place old
  rest = sym (drop-drop 1 place half) ∙ ap (drop 1) (drop_at (map (lowered_to e.slot.grant) (take place old)) (e ∷ drop place old) place count)

  pub climbing_later : AreRunning 0 old → AreClimbing (λ q. q.latest) (drop (place + 1) half)
  climbing_later running = subst (AreClimbing (λ q. q.latest)) (sym rest) (climbs_drop (λ q. q.latest) place old (running_climbs 0 old running))

  pub grown_is : changed_between (raised_to e.slot.grant) (place + 1) (length half) half ≡ grown
  grown_is = rw (add-one) (behind (map (lowered_to e.slot.grant) (take place old)) place count)
    where
      behind : (earlier : List Entry) (n : ℕ) → length earlier ≡ n
          → changed_between (raised_to e.slot.grant) (suc n) (length (earlier ++ e ∷ drop place old)) (earlier ++ e ∷ drop place old) ≡ earlier ++ e ∷ map (raised_to e.slot.grant) (drop place old)
      behind [] zero h = ap (λ l. e ∷ l) (changed_whole (raised_to e.slot.grant) (drop place old))
      behind [] (suc n) h = absurd (omega arith)
      behind (q ∷ earlier) zero h = absurd (omega arith)
      behind (q ∷ earlier) (suc n) h = ap (λ l. q ∷ l) (behind earlier n (omega arith))

  -- what the loops leave of the list that they were lent
  pub half_left : (all left rest : List Entry) (n : ℕ) → all ≡ insert old place e → left ≡ changed_between (lowered_to e.slot.grant) 0 place all → n ≡ length left
      → take n (left ++ drop (length left) rest) ≡ half
  half_left all left rest n is change long = replaced_all rest left n long ∙ change ∙ ap (changed_between (lowered_to e.slot.grant) 0 place) is ∙ half_is

  pub grown_left : (all left rest : List Entry) (n : ℕ) → all ≡ half → left ≡ changed_between (raised_to e.slot.grant) (place + 1) (length all) all → n ≡ length left
      → take n (left ++ drop (length left) rest) ≡ grown
  grown_left all left rest n is change long =
      replaced_all rest left n long ∙ change ∙ ap (λ l. changed_between (raised_to e.slot.grant) (place + 1) (length l) l) is ∙ grown_is

  pub slots-grown : slots_of grown ≡ with_slot e.slot (slots_of old)
  slots-grown =
      slots-append (map (lowered_to e.slot.grant) (take place old)) (e ∷ map (raised_to e.slot.grant) (drop place old))
      ∙ ap (λ slots. slots ++ e.slot ∷ slots_of (map (raised_to e.slot.grant) (drop place old))) (slots-map (lowered_to e.slot.grant) (λ q. refl) (take place old))
      ∙ ap (λ slots. slots_of (take place old) ++ e.slot ∷ slots) (slots-map (raised_to e.slot.grant) (λ q. refl) (drop place old))
      ∙ sym (with_slot_in e.slot place old at)

  pub kept-grown : AreKept old → e.latest ≡ max (latest_of 0 (take place old)) e.slot.grant → e.earliest ≡ earliest_of e.slot.grant (drop place old) → AreKept grown
  kept-grown kept latest earliest = record {
    order = subst IsInOrder (sym slots-grown) (in_order-with_slot e.slot (slots_of old) kept.order);
    running = running_between e (take place old) (drop place old) (subst (AreRunning 0) (sym (take-append-drop place old)) kept.running) latest;
    coming = coming_between e (take place old) (drop place old) (subst AreComing (sym (take-append-drop place old)) kept.coming) earliest;
  }

-- an entry behind all others
module _ (old : List Entry) (e : Entry) (at : IsPlace e.slot.id (length old) old) where
  abbrev pub longer : List Entry
  longer = grown (length old) old e at

  nothing_behind : drop (length old) old ≡ []
  nothing_behind = drop_all (length old) old (omega arith)

  all_before : take (length old) old ≡ old
  all_before = take_all (length old) old (omega arith)

  pushed_is : insert old (length old) e ≡ old ++ e ∷ []
  pushed_is = ap (λ l. l ++ e ∷ drop (length old) old) all_before ∙ ap (λ l. old ++ e ∷ l) nothing_behind

  half_longer : half (length old) old e at ≡ longer
  half_longer =
      ap (λ l. map (lowered_to e.slot.grant) (take (length old) old) ++ e ∷ l)
      (nothing_behind ∙ sym (ap (map (raised_to e.slot.grant)) nothing_behind))

  pub climbing_pushed : (all : List Entry) (place : ℕ) → place ≡ length old → all ≡ old ++ e ∷ [] → AreComing old → AreClimbing (λ q. q.earliest) (take place all)
  climbing_pushed all place end is coming =
      subst (λ l. AreClimbing (λ q. q.earliest) (take place l)) (sym (is ∙ sym pushed_is))
      (subst (λ n. AreClimbing (λ q. q.earliest) (take n (insert old (length old) e))) (sym end) (climbing_earlier (length old) old e at coming))

  -- what the loop leaves of the list that it was lent
  pub longer_left : (all left rest : List Entry) (n place : ℕ) → place ≡ length old → all ≡ old ++ e ∷ [] → left ≡ changed_between (lowered_to e.slot.grant) 0 place all → n ≡ length left
      → take n (left ++ drop (length left) rest) ≡ longer
  longer_left all left rest n place end is change long =
      half_left (length old) old e at all left rest n (is ∙ sym pushed_is) (change ∙ ap (λ k. changed_between (lowered_to e.slot.grant) 0 k all) end) long ∙ half_longer

  pub kept-longer : AreKept old → e.latest ≡ max (latest_of 0 old) e.slot.grant → e.earliest ≡ e.slot.grant → AreKept longer
  kept-longer kept latest earliest =
      kept-grown (length old) old e at kept
      (latest ∙ ap (λ l. max (latest_of 0 l) e.slot.grant) (sym all_before))
      (earliest ∙ sym (ap (earliest_of e.slot.grant) nothing_behind))

  pub slots-longer : slots_of longer ≡ with_slot e.slot (slots_of old)
  slots-longer = slots-grown (length old) old e at
