-- Two asks of one channel in either order.
use Rattle.std.proofs.Common.{◌≡◌, ◌≢◌, ◌∙◌, ℕ, ◌+◌, ◌/◌, zero, suc, true, cond, List, [], ◌∷◌, Option, None, Some, refl, sym, ap, arith}
use Rattle.std.specs.Prelude.{count_by, slice_get, slice_set, IfSome, IsTrue}
use Rattle.std.proofs.lemmas.List.{set_comm}
use Rattle.slack_base.specs.declared.messages.Ask.{Ask}
use Rattle.slack_base.specs.declared.messages.Post.{Post}
use Rattle.slack_base.specs.declared.stamps.Id.{Id}
use Rattle.slack_base.specs.Growing.{capped, raised}
use Rattle.slack_base.specs.HighestIds.{later_of, clash_with}
use Rattle.slack_base.specs.Messages.{id_of, line_of}
use Rattle.slack_base.specs.Stamps.{is_above}
use Rattle.status_map.specs.declared.views.EntryView.{EntryView}
use Rattle.status_map.specs.Table.{serve}
use Rattle.slot_calendar.specs.declared.slots.Slot.{Slot}
use Rattle.slot_calendar.specs.Asks.{IsNext, clash_of, with_ask}
use Rattle.slot_calendar.proofs.Ids.{above_back}
use Rattle.slot_calendar.proofs.Swaps.{swapped}
use Rattle.bus_model.specs.Channels.{BusValue, AsBus, AsConsole, entry_of}
use Rattle.bus_model.specs.ClosingLaws.{AreLinesApart, AllSwap, IsSwap}
use Rattle.bus_model.specs.Serving.{for_bus, grant_of, granted, is_retry, on_entry, on_line, bus_served, served}

get_set_other : {X : Type 0} (xs : List X) (i j : ℕ) (x : X) → j ≢ i → slice_get (slice_set xs i x) j ≡ slice_get xs j
get_set_other [] i j x h = refl
get_set_other (y ∷ xs) zero zero x h = absurd (h refl)
get_set_other (y ∷ xs) zero (suc j) x h = refl
get_set_other (y ∷ xs) (suc i) zero x h = refl
get_set_other (y ∷ xs) (suc i) (suc j) x h = get_set_other xs i j x (λ e. h (ap suc e))

capped_swap : (n a b : ℕ) → capped (capped (n + a) + b) ≡ capped (capped (n + b) + a)
capped_swap n a b = omega arith

-- what an ask with this grant leaves of a bus, with this calendar
abbrev pub granted_at : BusValue → Ask → (line grant : ℕ) → List Slot → EntryView → BusValue × List Post
granted_at b ask line grant slots entry =
    let s = serve b.setting.delays grant ask entry in (
      record b {
        asks = raised b.asks;
        retries = capped (b.retries + count_by is_retry s.posts);
        entries = slice_set b.entries (line / b.setting.buses) s.entry;
        slots = slots;
      },
      s.posts,
    )

abbrev clash_at : BusValue → Ask → Option Id
clash_at b x = clash_of b.setting.occupancy b.free (for_bus x) b.slots

-- x and y in either order
record IsBusSwap (b : BusValue) (x y : Ask) (lx ly : Option ℕ) : Type 0 where
  free : clash_at b x ≡ None
  value : (on_line (on_line b y ly).0 x lx).0 ≡ (on_line (on_line b x lx).0 y ly).0
  posts_x : (on_line (on_line b y ly).0 x lx).1 ≡ (on_line b x lx).1
  posts_y : (on_line (on_line b x lx).0 y ly).1 ≡ (on_line b y ly).1

module _ (b : BusValue) (x y : Ask) (above : is_above (id_of y) (id_of x) ≡ true) (next : IsNext (for_bus y) b.slots) where
  abbrev place_of : ℕ → ℕ
  place_of line = line / b.setting.buses

  -- an entry in another place is as it was
  entry_kept : (a : Ask) (l m : ℕ) (entry : Option EntryView) → place_of m ≢ place_of l → entry_of (on_entry b a l entry).0 m ≡ entry_of b m
  unfolding granted
  entry_kept a l m None apart = refl
  entry_kept a l m (Some e) apart = get_set_other b.entries (place_of l) (place_of m) (serve b.setting.delays (grant_of b a) a e).entry apart

  -- with these grants and this calendar after both
  both_value : (l m gx gy : ℕ) (sx sy slots : List Slot) (ex ey : EntryView) → place_of l ≢ place_of m
      → (granted_at (granted_at b y m gy sy ey).0 x l gx slots ex).0 ≡ (granted_at (granted_at b x l gx sx ex).0 y m gy slots ey).0
  both_value l m gx gy sx sy slots ex ey apart =
      let out_x = serve b.setting.delays gx x ex in
      let out_y = serve b.setting.delays gy y ey in
      λ i. record b {
        asks = raised (raised b.asks);
        retries = capped_swap b.retries (count_by is_retry out_y.posts) (count_by is_retry out_x.posts) i;
        entries = set_comm b.entries (place_of m) (place_of l) out_y.entry out_x.entry (λ e. apart (sym e)) i;
        slots = slots;
      }

  -- the calendar after x, after y and after both
  abbrev with_x : List Slot
  with_x = with_ask b.setting.occupancy b.free (for_bus x) b.slots

  abbrev with_y : List Slot
  with_y = with_ask b.setting.occupancy b.free (for_bus y) b.slots

  abbrev with_both : List Slot
  with_both = with_ask b.setting.occupancy b.free (for_bus y) with_x

  entries_swap : (l m : ℕ) (ex ey : Option EntryView) → entry_of b l ≡ ex → entry_of b m ≡ ey → place_of l ≢ place_of m
      → clash_at (on_entry b y m ey).0 x ≡ None → IsBusSwap b x y (Some l) (Some m)
  unfolding granted
  entries_swap l m ex None is_x is_y apart free =
      let first : on_line b y (Some m) ≡ (b, []) = ap (on_entry b y m) is_y in
      let then : on_line (on_line b x (Some l)).0 y (Some m) ≡ ((on_line b x (Some l)).0, []) =
      ap (on_entry (on_line b x (Some l)).0 y m) (entry_kept x l m (entry_of b l) (λ e. apart (sym e)) ∙ is_y) in
      record {
        free = free;
        value = ap (λ (r : BusValue × List Post). (on_line r.0 x (Some l)).0) first ∙ sym (ap (λ (r : BusValue × List Post). r.0) then);
        posts_x = ap (λ (r : BusValue × List Post). (on_line r.0 x (Some l)).1) first;
        posts_y = ap (λ (r : BusValue × List Post). r.1) then ∙ sym (ap (λ (r : BusValue × List Post). r.1) first);
      }
  entries_swap l m None (Some ey) is_x is_y apart free =
      let first : on_line b x (Some l) ≡ (b, []) = ap (on_entry b x l) is_x in
      let then : on_line (on_line b y (Some m)).0 x (Some l) ≡ ((on_line b y (Some m)).0, []) =
      ap (on_entry (on_line b y (Some m)).0 x l) (entry_kept y m l (entry_of b m) apart ∙ is_x) in
      record {
        free = (swapped b.setting.occupancy b.free (for_bus x) (for_bus y) b.slots above next free).clash;
        value = ap (λ (r : BusValue × List Post). r.0) then ∙ sym (ap (λ (r : BusValue × List Post). (on_line r.0 y (Some m)).0) first);
        posts_x = ap (λ (r : BusValue × List Post). r.1) then ∙ sym (ap (λ (r : BusValue × List Post). r.1) first);
        posts_y = ap (λ (r : BusValue × List Post). (on_line r.0 y (Some m)).1) first;
      }
  entries_swap l m (Some ex) (Some ey) is_x is_y apart free =
      let swap = swapped b.setting.occupancy b.free (for_bus x) (for_bus y) b.slots above next free in
      let now_x : BusValue × List Post = granted_at b x l (grant_of b x) with_x ex in
      let now_y : BusValue × List Post = granted_at b y m (grant_of b y) with_y ey in
      let first_x : on_line b x (Some l) ≡ now_x = ap (on_entry b x l) is_x in
      let first_y : on_line b y (Some m) ≡ now_y = ap (on_entry b y m) is_y in
      let then_x : on_line (on_line b y (Some m)).0 x (Some l) ≡ granted_at now_y.0 x l (grant_of b x) with_both ex =
      ap (λ (r : BusValue × List Post). on_line r.0 x (Some l)) first_y
      ∙ ap (on_entry now_y.0 x l) (entry_kept y m l (Some ey) apart ∙ is_x)
      ∙ (λ i. granted_at now_y.0 x l (swap.slot_x i).grant (swap.both i) ex) in
      let then_y : on_line (on_line b x (Some l)).0 y (Some m) ≡ granted_at now_x.0 y m (grant_of b y) with_both ey =
      ap (λ (r : BusValue × List Post). on_line r.0 y (Some m)) first_x
      ∙ ap (on_entry now_x.0 y m) (entry_kept x l m (Some ex) (λ e. apart (sym e)) ∙ is_y)
      ∙ (λ i. granted_at now_x.0 y m (swap.slot_y i).grant with_both ey) in
      record {
        free = swap.clash;
        value =
            ap (λ (r : BusValue × List Post). r.0) then_x
            ∙ both_value l m (grant_of b x) (grant_of b y) with_x with_y with_both ex ey apart
            ∙ sym (ap (λ (r : BusValue × List Post). r.0) then_y);
        posts_x = ap (λ (r : BusValue × List Post). r.1) then_x ∙ sym (ap (λ (r : BusValue × List Post). r.1) first_x);
        posts_y = ap (λ (r : BusValue × List Post). r.1) then_y ∙ sym (ap (λ (r : BusValue × List Post). r.1) first_y);
      }

  -- y has no clash to take away from x
  still_free : (m : ℕ) (ey : Option EntryView) → clash_at (on_entry b y m ey).0 x ≡ None → clash_at b x ≡ None
  unfolding granted
  still_free m None free = free
  still_free m (Some ey) free = (swapped b.setting.occupancy b.free (for_bus x) (for_bus y) b.slots above next free).clash

  lines_swap : (lx ly : Option ℕ) → AreLinesApart b.setting.buses lx ly → clash_at (on_line b y ly).0 x ≡ None → IsBusSwap b x y lx ly
  lines_swap None None apart free = record { free = free; value = refl; posts_x = refl; posts_y = refl }
  lines_swap None (Some m) apart free = record { free = still_free m (entry_of b m) free; value = refl; posts_x = refl; posts_y = refl }
  lines_swap (Some l) None apart free = record { free = free; value = refl; posts_x = refl; posts_y = refl }
  lines_swap (Some l) (Some m) apart free = entries_swap l m (entry_of b l) (entry_of b m) refl refl apart free

  bus_swaps : AreLinesApart b.setting.buses (line_of x) (line_of y) → clash_at (bus_served b y).0 x ≡ None → IsSwap (AsBus b) x y
  unfolding bus_served served
  bus_swaps apart free =
      let swap = lines_swap (line_of x) (line_of y) apart free in
      record { free = swap.free; value = ap AsBus swap.value; posts_x = swap.posts_x; posts_y = swap.posts_y }

-- the console keeps the id of an ask above all others, and one of a lower id clashes with that
latest : (highest : Option Id) (y : Id) → IfSome highest (λ high. IsTrue (is_above y high)) → later_of highest y ≡ y
latest None y last = refl
latest (Some high) y last = ap (λ b. cond b high y) (above_back y high last)

clashes : (highest : Option Id) (x y : Id) → is_above y x ≡ true → IfSome highest (λ high. IsTrue (is_above y high)) → clash_with (Some (later_of highest y)) x ≡ Some y
clashes highest x y above last = ap (λ j. clash_with (Some j) x) (latest highest y last) ∙ ap (λ b. cond b (Some y) None) above

no_clash : (o : Option Id) (y : Id) → o ≡ Some y → o ≡ None → ⊥
no_clash o y some none = absurd (cc)

pub swaps : AllSwap
unfolding served
swaps (AsBus b) x y above last apart free = bus_swaps b x y above last apart free
swaps (AsConsole c) x y above last apart free = absurd (no_clash _ (id_of y) (clashes c.highest (id_of x) (id_of y) above last) free)
