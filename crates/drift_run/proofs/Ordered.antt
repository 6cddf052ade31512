-- In finishing, the asks of a core that sent none before come after the early asks of all others.
use Rattle.std.proofs.Common.{◌≡◌, ◌≢◌, ◌∙◌, ℕ, suc, ◌+◌, ◌≤◌, ◌⊎◌, inl, inr, List, [], ◌∷◌, ◌++◌, true, false, cond, nat_lt, Option, Some, None, refl, sym, ap, subst, arith, append_assoc, append-nil}
use Rattle.std.specs.List.{AllByRecursion as Each}
use Rattle.std.proofs.lemmas.Bool.{ltb-true}
use Rattle.std.proofs.lemmas.Option.{none-some}
use Rattle.slack_base.specs.declared.bounds.TheConstants.{TOP}
use Rattle.slack_base.specs.declared.messages.Ask.{Ask}
use Rattle.slack_base.specs.declared.messages.Post.{Post}
use Rattle.slack_base.specs.declared.steps.Step.{Step}
use Rattle.slack_base.specs.declared.steps.Step.TheVariants.{Tick, Serve, Take}
use Rattle.slack_base.specs.Messages.{id_of}
use Rattle.target_law.specs.Cycles.{changed_at, tick_of, through}
use Rattle.target_law.specs.Laws.{Laws}
use Rattle.target_law.specs.Numbered.{AllNumbered}
use Rattle.target_law.specs.Rules.{Rules, Owns}
use Rattle.target_law.proofs.Cores.{tick_asks}
use Rattle.target_law.proofs.Lists.{each_weaker, each_append, numbered_weaker}
use Rattle.target_law.proofs.Places.{numbered_changed, numbered_seen}
use Rattle.violation_watch.proofs.Lists.{numbered_both}
use Rattle.drive_script.specs.Finishing.{Finishes, done, goes, IsNext, ticks, NoKey, oldest_id, first_id}
use Rattle.drive_script.specs.Open.{IsLaneOf, IsOpen}
use Rattle.drive_script.specs.Worlds.{LaneValue, WorldValue, oldest, without_oldest, with_waiting, posted, oldest_ask, lane_ticked, lane_taking, world_serving, stepped}
use Rattle.drive_script.proofs.Opened.{lane_open_ticked, open_stepped}
use Rattle.drive_script.proofs.Places.{oldest_in, each_younger}

-- an ask of another core; and one that isn't an early ask of another core
abbrev pub IsOther : (c : ℕ) → Ask → Type 0
IsOther c x = (id_of x).core ≢ c

abbrev pub IsLate : (c bound : ℕ) → Ask → Type 0
IsLate c bound x = (id_of x).core ≢ c → bound ≤ (id_of x).cycle

-- of what was served a front has no ask of the core, and the rest no early ask of another
pub record HeldOrder (c bound : ℕ) (served : List Ask) : Type 0 where
  pub front : List Ask
  pub back : List Ask
  pub whole : served ≡ front ++ back
  pub others : Each (IsOther c) front
  pub late : Each (IsLate c bound) back

asks_none : (asks : List Ask) → first_id asks ≡ None → asks ≡ []
asks_none [] e = refl
asks_none (x ∷ asks) e = absurd (none-some (id_of x) (sym e))

module _ (c bound : ℕ) where
  held_more : (served : List Ask) (x : Ask) → HeldOrder c bound served → IsLate c bound x → HeldOrder c bound (served ++ x ∷ [])
  held_more served x h late = record {
    front = h.front;
    back = h.back ++ x ∷ [];
    whole = ap (λ l. l ++ x ∷ []) h.whole ∙ append_assoc h.front h.back (x ∷ []);
    others = h.others;
    late = each_append (IsLate c bound) h.back (x ∷ []) h.late (late, tt);
  }

  module _ {Inner : Type 0} where
    -- a core that goes no further than to the end, or came to the bound
    abbrev pub IsFar : (end place : ℕ) → LaneValue Inner → Type 0
    IsFar end place lane = place ≢ c → (lane.clock ≡ end) ⊎ (bound ≤ lane.clock)

    -- of this kind are the asks that wait, and every core but one has come far
    abbrev pub Waits : (Ask → Type 0) → (end place : ℕ) → LaneValue Inner → Type 0
    Waits P end place lane = Each P lane.asks × IsFar end place lane

    module _ (P : Ask → Type 0) (end : ℕ) where
      waits_posted : (lanes : List (LaneValue Inner)) (posts : List Post) → AllNumbered (Waits P end) 0 lanes → AllNumbered (Waits P end) 0 (posted lanes posts)
      waits_posted lanes [] h = h
      waits_posted lanes (p ∷ posts) h =
          waits_posted (changed_at p.to (with_waiting p) lanes) posts (numbered_changed (with_waiting p) (Waits P end) 0 p.to lanes (λ k lane e is. is) h)

      waits_without : (k : ℕ) (lanes : List (LaneValue Inner)) → AllNumbered (Waits P end) 0 lanes → AllNumbered (Waits P end) 0 (changed_at k (λ lane. without_oldest lane) lanes)
      waits_without k lanes h = numbered_changed (λ lane. without_oldest lane) (Waits P end) 0 k lanes (λ j lane e is. (each_younger P lane.asks is.0, is.1)) h

      waits_oldest : (k : ℕ) (lanes : List (LaneValue Inner)) (x : Ask) → AllNumbered (Waits P end) 0 lanes → oldest_ask lanes k ≡ Some x → P x
      waits_oldest k lanes x h =
          numbered_seen (λ lane. oldest lane.asks) None (λ o. o ≡ Some x → P x) (Waits P end) 0 k lanes (λ e. absurd (none-some x e))
          (λ j lane at is e. oldest_in P lane.asks x is.0 e) h

    -- where no ask waits, every ask that does is of any kind
    none_waits : (P Q : Ask → Type 0) (end n : ℕ) (lanes : List (LaneValue Inner)) → NoKey (oldest_id lanes) → AllNumbered (Waits P end) n lanes → AllNumbered (Waits Q end) n lanes
    none_waits P Q end n [] none h = tt
    none_waits P Q end n (lane ∷ lanes) none h = ((subst (Each Q) (sym (asks_none lane.asks (none 0))) tt, h.0.1), none_waits P Q end (n + 1) lanes (λ j. none (suc j)) h.1)

    tick_free : {end k : ℕ} {lanes : List (LaneValue Inner)} → IsNext end lanes (Tick k) → NoKey (oldest_id lanes)
    tick_free (ticks clock none free least) = none

  module _ {Inner Chan : Type 0} (rules : Rules Inner Chan) where
    waits_taking : (P : Ask → Type 0) (end k : ℕ) (posts : List Post) (lane : LaneValue Inner) → Waits P end k lane → Waits P end k (lane_taking rules posts lane)
    waits_taking P end k [] lane is = is
    waits_taking P end k (p ∷ posts) lane is = is

    waits_took : (P : Ask → Type 0) (end k : ℕ) (lanes : List (LaneValue Inner)) → AllNumbered (Waits P end) 0 lanes → AllNumbered (Waits P end) 0 (changed_at k (λ lane. lane_taking rules lane.posts lane) lanes)
    waits_took P end k lanes h = numbered_changed (λ lane. lane_taking rules lane.posts lane) (Waits P end) 0 k lanes (λ j lane e is. waits_taking P end j lane.posts lane is) h

    module _ (owns : Owns Inner Chan) (laws : Laws rules owns) where
      -- a tick of a core that came far sends late asks
      late_ticked : (end k : ℕ) (lane : LaneValue Inner) → end ≤ TOP → IsLaneOf rules owns end k lane → Waits (IsLate c bound) end k lane → Waits (IsLate c bound) end k (lane_ticked rules end lane)
      late_ticked end k lane top is h =
          let now = tick_of rules lane.clock lane.core in
          elim (nat_lt lane.clock end) as (λ b. nat_lt lane.clock end ≡ b → Waits (IsLate c bound) end k (cond b (record lane { core = now.0; clock = lane.clock + 1; asks = lane.asks ++ now.1 }) lane)) [
            | true ↦ λ e.
                let below = ltb-true lane.clock end e in (
                  each_append (IsLate c bound) lane.asks now.1 h.0
                      (each_weaker (λ y at other. elim (h.1 (λ same. other (at.core ∙ same))) [ inl end_is ↦ absurd (omega (arith, below, end_is)) | inr far ↦ (let cycle = at.cycle in omega (arith, far, cycle)) ]) now.1
                      (tick_asks rules owns laws lane.clock k lane.core (omega (arith, below, top)) is.core)),
                  (λ ne. elim (h.1 ne) [ inl end_is ↦ absurd (omega (arith, below, end_is)) | inr far ↦ inr (omega (arith, far)) ]),
                )
            | false ↦ λ _. h
          ] refl

      -- before finishing ticks, and after
      pub record IsBefore (w : WorldValue Inner Chan) : Type 0 where
        pub opened : IsOpen rules owns w
        pub served : Each (IsOther c) w.served
        pub lanes : AllNumbered (Waits (IsOther c) w.end) 0 w.lanes

      record IsAfter (w : WorldValue Inner Chan) : Type 0 where
        opened : IsOpen rules owns w
        served : HeldOrder c bound w.served
        lanes : AllNumbered (Waits (IsLate c bound) w.end) 0 w.lanes

      lanes_serving : (P : Ask → Type 0) (k : ℕ) (o : Option Ask) (w : WorldValue Inner Chan) → AllNumbered (Waits P w.end) 0 w.lanes → AllNumbered (Waits P (world_serving rules k o w).end) 0 (world_serving rules k o w).lanes
      lanes_serving P k None w h = h
      lanes_serving P k (Some x) w h = waits_posted P w.end (changed_at k (λ lane. without_oldest lane) w.lanes) (through rules w.chans (x ∷ [])).posts (waits_without P w.end k w.lanes h)

      held_serving : (k : ℕ) (o : Option Ask) (w : WorldValue Inner Chan) → oldest_ask w.lanes k ≡ o → IsAfter w → HeldOrder c bound (world_serving rules k o w).served
      held_serving k None w e h = h.served
      held_serving k (Some x) w e h = held_more w.served x h.served (waits_oldest (IsLate c bound) w.end k w.lanes x h.lanes e)

      others_serving : (k : ℕ) (o : Option Ask) (w : WorldValue Inner Chan) → oldest_ask w.lanes k ≡ o → IsBefore w → Each (IsOther c) (world_serving rules k o w).served
      others_serving k None w e h = h.served
      others_serving k (Some x) w e h = each_append (IsOther c) w.served (x ∷ []) h.served (waits_oldest (IsOther c) w.end k w.lanes x h.lanes e, tt)

      after_stepped : (x : Step) (w : WorldValue Inner Chan) → IsAfter w → IsAfter (stepped rules x w)
      unfolding stepped
      after_stepped (Tick k) w h = record {
        opened = open_stepped rules owns laws (Tick k) w h.opened;
        served = h.served;
        lanes =
            numbered_weaker (λ j lane both. both.1) 0 (changed_at k (lane_ticked rules w.end) w.lanes)
            (numbered_changed (lane_ticked rules w.end) (λ j lane. IsLaneOf rules owns w.end j lane × Waits (IsLate c bound) w.end j lane) 0 k w.lanes
            (λ j lane _ both. (lane_open_ticked rules owns laws w.end j lane h.opened.end both.0, late_ticked w.end j lane h.opened.end both.0 both.1))
            (numbered_both (IsLaneOf rules owns w.end) (Waits (IsLate c bound) w.end) 0 w.lanes h.opened.lanes h.lanes));
      }
      after_stepped (Serve k) w h = record {
        opened = open_stepped rules owns laws (Serve k) w h.opened;
        served = held_serving k (oldest_ask w.lanes k) w refl h;
        lanes = lanes_serving (IsLate c bound) k (oldest_ask w.lanes k) w h.lanes;
      }
      after_stepped (Take k) w h = record {
        opened = open_stepped rules owns laws (Take k) w h.opened;
        served = h.served;
        lanes = waits_took (IsLate c bound) w.end k w.lanes h.lanes;
      }

      finish_after : {w e : WorldValue Inner Chan} → Finishes rules w e → IsAfter w → HeldOrder c bound e.served
      finish_after (done fin) h = h.served
      finish_after (goes {w = w} x next rest) h = finish_after rest (after_stepped x w h)

      all_before : (served : List Ask) → Each (IsOther c) served → HeldOrder c bound served
      all_before served h = record { front = served; back = []; whole = sym (append-nil served); others = h; late = tt }

      after_from : (w : WorldValue Inner Chan) → IsBefore w → NoKey (oldest_id w.lanes) → IsAfter w
      after_from w h none = record { opened = h.opened; served = all_before w.served h.served; lanes = none_waits (IsOther c) (IsLate c bound) w.end 0 w.lanes none h.lanes }

      before_serve : (k : ℕ) (w : WorldValue Inner Chan) → IsBefore w → IsBefore (stepped rules (Serve k) w)
      unfolding stepped
      before_serve k w h = record {
        opened = open_stepped rules owns laws (Serve k) w h.opened;
        served = others_serving k (oldest_ask w.lanes k) w refl h;
        lanes = lanes_serving (IsOther c) k (oldest_ask w.lanes k) w h.lanes;
      }

      before_take : (k : ℕ) (w : WorldValue Inner Chan) → IsBefore w → IsBefore (stepped rules (Take k) w)
      unfolding stepped
      before_take k w h = record {
        opened = open_stepped rules owns laws (Take k) w h.opened;
        served = h.served;
        lanes = waits_took (IsOther c) w.end k w.lanes h.lanes;
      }

      -- what finishing leaves is in order
      pub finish_ordered : {w e : WorldValue Inner Chan} → Finishes rules w e → IsBefore w → HeldOrder c bound e.served
      finish_ordered (done {w = w} fin) h = all_before w.served h.served
      finish_ordered (goes {w = w} (Tick k) next rest) h = finish_after rest (after_stepped (Tick k) w (after_from w h (tick_free next)))
      finish_ordered (goes {w = w} (Serve k) next rest) h = finish_ordered rest (before_serve k w h)
      finish_ordered (goes {w = w} (Take k) next rest) h = finish_ordered rest (before_take k w h)
