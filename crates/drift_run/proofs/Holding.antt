-- A core that is held alone sends nothing in its leg, and every other core comes far.
use Rattle.std.proofs.Common.{◌≡◌, ◌≢◌, ◌∙◌, ℕ, zero, suc, ◌+◌, ◌<◌, ◌≤◌, ◌==◌, ◌⊎◌, inl, inr, List, [], ◌∷◌, ◌++◌, All, Bool, true, false, cond, IsTrue, IsFalse, map, min, Some, length, slice_get, refl, sym, ap, subst, arith}
use Rattle.std.specs.List.{AllZip, AllByRecursion as Each}
use Rattle.std.proofs.lemmas.Bool.{true≢false, eqb-false}
use Rattle.std.proofs.lemmas.List.{length-map}
use Rattle.std.proofs.lemmas.Option.{none-some, same_Some, slice_get_within}
use Rattle.core_actor.specs.Actors.{Ran}
use Rattle.core_actor.specs.declared.actors.CoreActor.{CoreActor}
use Rattle.drive_script.specs.declared.lanes.Lane.{Lane}
use Rattle.drive_script.specs.Open.{IsLaneOf}
use Rattle.drive_script.specs.Views.{lane_of}
use Rattle.drive_script.specs.Worlds.{LaneValue, WorldValue}
use Rattle.io_edge.specs.Holds.{Holds}
use Rattle.manager.specs.declared.managers.Desk.{Desk}
use Rattle.manager.specs.declared.managers.Manager.{Manager}
use Rattle.manager.specs.Leads.{Led}
use Rattle.settle.specs.Gathers.{Gathered}
use Rattle.settle.specs.Settles.{gathered_world, FinishesFrom}
use Rattle.settle.proofs.Lists.{get_in, get_map, numbered_at, numbered_of}
use Rattle.settle.proofs.WorldOf.{world_open}
use Rattle.slack_base.specs.declared.bounds.TheConstants.{TOP}
use Rattle.slack_base.specs.declared.histories.Taken.{Taken}
use Rattle.slack_base.specs.declared.messages.Ask.{Ask}
use Rattle.slack_base.specs.Inboxes.{CoreValue}
use Rattle.slack_base.specs.Messages.{id_of}
use Rattle.stamp_queue.specs.Rings.{all_sent}
use Rattle.target_law.specs.Alone.{Alone, begins, takes, ticks}
use Rattle.target_law.specs.Cycles.{StateValue}
use Rattle.target_law.specs.Drifts.{asks_by}
use Rattle.target_law.specs.Laws.{Laws}
use Rattle.target_law.specs.Rules.{Rules, Owns}
use Rattle.target_law.specs.Values.{Values}
use Rattle.target_law.proofs.Lists.{each_weaker}
use Rattle.drift_run.specs.Holds.{IsHeldAlone, KeepsHolds}
use Rattle.drift_run.specs.Parts.{part_of}
use Rattle.drift_run.specs.Rigs.{IsOpening, AreReady, HaveCome}
use Rattle.drift_run.proofs.Leaving.{before_leg, number_at, parts_ready, parts_linked}
use Rattle.drift_run.proofs.Ordered.{HeldOrder, IsOther, IsLate, Waits, finish_ordered}
use Rattle.drift_run.proofs.Rigged.{all_get}
use Rattle.drift_run.proofs.Zips.{seen_in}

le_or_lt : (a b : ℕ) → (a ≤ b) ⊎ (b < a)
le_or_lt zero b = inl (omega arith)
le_or_lt (suc a) zero = inr (omega arith)
le_or_lt (suc a) (suc b) = elim (le_or_lt a b) [ inl h ↦ inl (omega (arith, h)) | inr h ↦ inr (omega (arith, h)) ]

same_or : (a b : ℕ) → (a ≡ b) ⊎ (a ≢ b)
same_or a b = elim (le_or_lt a b) [
  | inl h ↦ elim (le_or_lt b a) [ inl g ↦ inl (omega (arith, h, g)) | inr g ↦ inr (λ e. omega (arith, g, e)) ]
  | inr h ↦ inr (λ e. omega (arith, h, e))
]

not_both : (b : Bool) → IsTrue b → IsFalse b → ⊥
not_both b t f = true≢false (sym t ∙ f)

far_enough : (start slack k end clock : ℕ) → end ≡ start + k → clock ≤ end → start + min slack k ≤ clock → (clock ≡ end) ⊎ (start + slack ≤ clock)
far_enough start slack k end clock is below h = elim (le_or_lt slack k) [ inl l ↦ inr (omega (arith, h, l)) | inr l ↦ inl (omega (arith, h, l, is, below)) ]

append_none : {X : Type 0} (xs ys : List X) → xs ++ ys ≡ [] → (xs ≡ []) × (ys ≡ [])
append_none [] ys e = (refl, e)
append_none (x ∷ xs) ys e = absurd (let n = ap length e in omega (arith, n))

not_same : (a b : ℕ) → (a == b) ≡ false → a ≢ b
not_same a b h e = eqb-false a b h e

-- no ask of the core was served
none_by : (c : ℕ) (asks : List Ask) → asks_by c asks ≡ [] → Each (IsOther c) asks
none_by c [] e = tt
none_by c (x ∷ asks) e =
    elim ((id_of x).core == c) as (λ b. ((id_of x).core == c) ≡ b → cond b (x ∷ asks_by c asks) (asks_by c asks) ≡ [] → Each (IsOther c) (x ∷ asks)) [
      | true ↦ λ _ f. absurd (let n = ap length f in omega (arith, n))
      | false ↦ λ h f. (not_same (id_of x).core c h, none_by c asks f)
    ] refl e

each_get : {X : Type 0} (P : X → Type 0) (xs : List X) (i : ℕ) (x : X) → Each P xs → slice_get xs i ≡ Some x → P x
each_get P [] i x h e = absurd (none-some x e)
each_get P (y ∷ xs) zero x h e = subst P (same_Some y x e) h.0
each_get P (y ∷ xs) (suc i) x h e = each_get P xs i x h.1 e

get_append_cases : {X : Type 0} (xs ys : List X) (i : ℕ) (x : X) → slice_get (xs ++ ys) i ≡ Some x → (slice_get xs i ≡ Some x) ⊎ ((length xs ≤ i) × ((k : ℕ) × (slice_get ys k ≡ Some x)))
get_append_cases [] ys i x e = inr (omega arith, (i, e))
get_append_cases (z ∷ zs) ys zero x e = inl e
get_append_cases (z ∷ zs) ys (suc i) x e = elim (get_append_cases zs ys i x e) [ inl h ↦ inl h | inr h ↦ inr (let n = h.0 in omega (arith, n), h.1) ]

-- the order by places
pub keeps_of : (holds : Holds) (n slack a k : ℕ) (served : List Ask) → ((c : ℕ) → c < n → IsHeldAlone holds n slack a k c → HeldOrder c (a + slack) served) → KeepsHolds holds n slack a k served
keeps_of holds n slack a k served f c inside held i j x y ex ey here other early =
    let h = f c inside held in
    elim (get_append_cases h.front h.back i x (subst (λ l. slice_get l i ≡ Some x) h.whole ex)) [
      | inl e ↦ absurd (each_get (IsOther c) h.front i x h.others e here)
      | inr e ↦ elim (get_append_cases h.front h.back j y (subst (λ l. slice_get l j ≡ Some y) h.whole ey)) [
        | inl d ↦ let w = slice_get_within h.front j y d in let l = e.0 in omega (arith, w, l)
        | inr d ↦ absurd (let late = each_get (IsLate c (a + slack)) h.back d.1.0 y h.late d.1.1 other in omega (arith, late, early))
      ]
    ]

module _ {Inner Chan : Type 0} (rules : Rules Inner Chan) where
  alone_none : {core : CoreValue Inner} {a k : ℕ} {taken : List Taken} {now : CoreValue Inner} {asks : List Ask} → Alone rules core a k taken now asks → k ≡ 0 → asks ≡ []
  alone_none begins e = refl
  alone_none (takes p h) e = alone_none h e
  alone_none (ticks h) e = absurd (omega (arith, e))

  module _ (owns : Owns Inner Chan) {Core D : Type 0} (values : Values Core D Inner Chan) (holds : Holds) (end : ℕ) where
    module _ (m n : Manager D) (us vs : List (CoreActor Core)) (ready : AreReady rules owns values end m us) (led : Led rules owns values m n) (ran : AllZip (Ran rules owns values holds end) us vs)
        (s : StateValue Inner Chan) (slack k c : ℕ) (end_is : end ≡ s.clock + k) (come : HaveCome rules values s m us) (opening : All (IsOpening s.clock slack) us) (held : IsHeldAlone holds rules.cores slack s.clock k c) where
      -- the core made no tick
      silent : (b : CoreActor Core) → slice_get vs c ≡ Some b → all_sent b.asks ≡ []
      silent b at =
          let x = before_leg rules owns values holds end m n us vs ready led ran c b at in
          let a = x.0 in
          let q = all_get (IsOpening s.clock slack) us c a opening x.1 in
          let number : a.pacer.number ≡ c = sym x.2.went.pacer.1 ∙ number_at rules owns values holds end m n us vs ready led ran c b at in
          let must : IsTrue (holds.must a.pacer.number s.clock) = subst (λ i. IsTrue (holds.must i s.clock)) (sym number) held.held in
          let begun = q.clock' in
          let stays : b.lane.clock ≤ s.clock = elim (le_or_lt b.lane.clock s.clock) [
            | inl l ↦ l
            | inr l ↦ absurd (not_both (holds.must a.pacer.number s.clock) must (x.2.unheld s.clock (omega (arith, begun)) l))
          ] in
          let w = slice_get_within us c a x.1 in
          let count = come.cores.count in
          let first = get_in s.cores c (omega (arith, w, count)) in
          let alone = x.2.went.alone s.clock first.0 (come.cores.at c first.0 a first.1 x.1) in
          let clock = alone.at in
          alone_none alone.alone (omega (arith, stays, clock))

      -- every other came to the end, or past the slack
      far : (i : ℕ) (b : CoreActor Core) → slice_get vs i ≡ Some b → i ≢ c → (b.lane.clock ≡ end) ⊎ (s.clock + slack ≤ b.lane.clock)
      far i b at other =
          let x = before_leg rules owns values holds end m n us vs ready led ran i b at in
          let a = x.0 in
          let q = all_get (IsOpening s.clock slack) us i a opening x.1 in
          let number : a.pacer.number ≡ i = sym x.2.went.pacer.1 ∙ number_at rules owns values holds end m n us vs ready led ran i b at in
          let w = slice_get_within us i a x.1 in
          let c1 = ready.rings.count in
          let c2 = ready.manager.desk_count in
          let inside : i < rules.cores = omega (arith, w, c1, c2) in
          let rises = x.2.went.seen in
          let seen = q.seen in
          let same = x.2.went.pacer.2 in
          let is = q.slack' in
          let below = x.2.went.ready.below in
          let begun = q.clock' in
          let goes = x.2.went.clock in
          elim x.2.ends [
            | inl d ↦ inl d
            | inr d ↦ elim d [
              | inl l ↦ inr (omega (arith, l, rises, seen, same, is))
              | inr may ↦
                  let there : IsTrue (holds.may i b.lane.clock) = subst (λ j. IsTrue (holds.may j b.lane.clock)) number may in
                  elim (le_or_lt (s.clock + min slack k) b.lane.clock) [
                    | inl l ↦ far_enough s.clock slack k end b.lane.clock end_is below l
                    | inr l ↦ absurd (not_both (holds.may i b.lane.clock) there (held.free i b.lane.clock inside other (omega (arith, begun, goes)) l))
                  ]
            ]
          ]

      module _ (laws : Laws rules owns) (top : end ≤ TOP) (c_is : c < rules.cores) (last : WorldValue Inner Chan) (f : FinishesFrom rules values end n (map part_of vs) last) where
        world : WorldValue Inner Chan
        world = gathered_world values end n f.lanes

        -- of whom a lane is
        at_place : (i : ℕ) → i < rules.cores → (v : CoreActor Core) × (slice_get vs i ≡ Some v) × ((desk : Desk) × (slice_get n.desks.items i ≡ Some desk) × ((lane : Lane Core) × (slice_get f.lanes i ≡ Some lane) × Gathered desk (part_of v) lane))
        at_place i inside =
            let c1 = led.ready.desk_count in
            let c2 : length (map part_of vs) ≡ length n.desks.items = (parts_linked rules owns values holds end m n us vs ready led ran).count in
            let c3 : length (map part_of vs) ≡ length vs = length-map vs part_of in
            let c4 = f.gathered.count in
            let v = get_in vs i (omega (arith, inside, c1, c2, c3)) in
            let desk = get_in n.desks.items i (omega (arith, inside, c1)) in
            let lane = get_in f.lanes i (omega (arith, inside, c1, c2, c4)) in
            (v.0, v.1, (desk.0, desk.1, (lane.0, lane.1, f.gathered.at i desk.0 (part_of v.0) lane.0 desk.1 (get_map part_of vs i v.0 v.1) lane.1)))

        -- nothing of the core was sent
        nothing : (asks_by c n.served ≡ []) × ((lane : Lane Core) → slice_get f.lanes c ≡ Some lane → lane.asks.items ≡ [])
        nothing =
            let x = at_place c c_is in
            let is = x.2.2.2 in
            let all = is.asks (asks_by c n.served) (led.ready.desks.at c x.2.0 x.2.1).received in
            let none = append_none (asks_by c n.served) x.2.2.0.asks.items (sym all ∙ silent x.0 x.1) in
            (none.0, λ lane at. ap (λ (l : Lane Core). l.asks.items) (same_Some lane x.2.2.0 (sym at ∙ x.2.2.1)) ∙ none.1)

        lane_before : (i : ℕ) (lane : LaneValue Inner) → slice_get (map (lane_of values) f.lanes) i ≡ Some lane → IsLaneOf rules owns end i lane → Waits c (s.clock + slack) (IsOther c) end i lane
        lane_before i lane at is =
            let l = seen_in (lane_of values) f.lanes i lane at in
            let w = slice_get_within f.lanes i l.0 l.1 in
            let c1 = led.ready.desk_count in
            let c2 : length (map part_of vs) ≡ length n.desks.items = (parts_linked rules owns values holds end m n us vs ready led ran).count in
            let c4 = f.gathered.count in
            let x = at_place i (omega (arith, w, c1, c2, c4)) in
            let same : x.2.2.0 ≡ l.0 = same_Some x.2.2.0 l.0 (sym x.2.2.1 ∙ l.1) in
            let clock : lane.clock ≡ x.0.lane.clock = ap (λ (y : LaneValue Inner). y.clock) (sym l.2) ∙ ap (λ (y : Lane Core). y.clock) (sym same) ∙ x.2.2.2.clock in (
              elim (same_or i c) [
                | inl e ↦
                    let none : lane.asks ≡ [] = ap (λ (y : LaneValue Inner). y.asks) (sym l.2) ∙ nothing.1 l.0 (subst (λ j. slice_get f.lanes j ≡ Some l.0) e l.1) in
                    subst (Each (IsOther c)) (sym none) tt
                | inr ne ↦ each_weaker (λ y own same. ne (sym own.core ∙ same)) lane.asks is.asks
              ],
              (λ ne. elim (far i x.0 x.1 ne) [ inl d ↦ inl (clock ∙ d) | inr d ↦ inr (omega (arith, clock, d)) ]),
            )

        -- what was served stands in order
        pub held_order : HeldOrder c (s.clock + slack) last.served
        held_order =
            let gathered = f.gathered in
            let opened = world_open rules owns values n (map part_of vs) f.lanes end led.ready (parts_ready rules owns values holds end m n us vs ready led ran) (parts_linked rules owns values holds end m n us vs ready led ran).count gathered top in
            finish_ordered c (s.clock + slack) rules owns laws f.finishes (record {
              opened = opened;
              served = none_by c n.served nothing.0;
              lanes = numbered_of (Waits c (s.clock + slack) (IsOther c) end) 0 (map (lane_of values) f.lanes) (λ i lane at.
                  let same : i ≡ 0 + i = omega arith in
                  subst (λ j. Waits c (s.clock + slack) (IsOther c) end j lane) same (lane_before i lane at (numbered_at (IsLaneOf rules owns end) (map (lane_of values) f.lanes) i lane opened.lanes at)));
            })
