-- The slots of a wheel as one list in order.
use Rattle.std.proofs.Common.{◌≡◌, ◌≢◌, ◌∙◌, ◌⊎◌, ℕ, ◌+◌, ◌-◌, ◌%◌, ◌^◌, ◌<◌, ◌≤◌, max, min, false, true, List, [], ◌∷◌, length, set, refl, sym, ap, subst, arith, inl, inr, cond, replicate}
use Rattle.std.specs.List.{AllByRecursion}
use Rattle.std.proofs.Math.ListN.{get_or-eq_default}
use Rattle.std.proofs.lemmas.Bool.{cases_eq, cases_lt}
use Rattle.std.proofs.lemmas.List.{get_or-replicate, get_or-set_same, get_or-set_other, length-replicate, length-set}
use Rattle.slack_base.specs.declared.messages.Post.{Post}
use Rattle.slack_base.specs.Inboxes.{is_later, with_post}
use Rattle.stamp_queue.specs.declared.inbox.occupied.Occupied.{Occupied}
use Rattle.stamp_queue.specs.Inbox.{IsInOrder, next_due}
use Rattle.stamp_queue.specs.Occupied.{mark_at, round, IsNextRound, NoneWithin, KeepsOthers}
use Rattle.stamp_queue.specs.Wheel.{posts_in, wheel_posts, BelongsTo, TakesFirst, AreHeld, IsMarked, AreMarked, IsWheel}
use Rattle.stamp_queue.proofs.Places.{weaker, both_weaker, all_with, in_order-with_post}
use Rattle.stamp_queue.proofs.Merged.{slots_put, slots_take, in_order-with_slots, all_with_slots, all_of_with_slots, none_sooner, next_due-with_post}

-- ---- one slot changes

module _ (slots : List (List Post)) (k : ℕ) (posts : List Post) (count : length slots ≡ 256) (h : k < 256) where
  pub set_here : posts_in (set slots k posts) k ≡ posts
  set_here = get_or-set_same slots k posts [] (omega arith)

  pub set_other : (j : ℕ) → j ≢ k → posts_in (set slots k posts) j ≡ posts_in slots j
  set_other j apart = get_or-set_other slots k j posts [] apart

  -- what is so of each slot
  pub set_all : (P : ℕ → List Post → Type 0) → P k posts → ((j : ℕ) → j < 256 → j ≢ k → P j (posts_in slots j)) → (j : ℕ) → j < 256 → P j (posts_in (set slots k posts) j)
  set_all P here others j within = elim (cases_eq j k) [
    | inl same ↦ subst (λ i. P i (posts_in (set slots k posts) i)) (sym same) (subst (P k) (sym set_here) here)
    | inr apart ↦ subst (P j) (sym (set_other j apart)) (others j within apart)
  ]

-- beyond the last slot there is no post
beyond : (P : Post → Type 0) (slots : List (List Post)) → length slots ≡ 256 → ((k : ℕ) → k < 256 → AllByRecursion P (posts_in slots k)) → (k : ℕ) → AllByRecursion P (posts_in slots k)
beyond P slots count all k = elim (cases_lt k 256) [
  | inl within ↦ all k within
  | inr out ↦ subst (AllByRecursion P) (sym (get_or-eq_default slots [] {n = k} (omega arith))) tt
]

-- posts of another slot have other dues
other_dues : (slots : List (List Post)) (floor k : ℕ) (p : Post) → AreHeld slots floor → p.due % 256 ≡ k → (j : ℕ) → j ≢ k → AllByRecursion (λ q. q.due ≢ p.due) (posts_in slots j)
other_dues slots floor k p held is j apart = elim (cases_lt j 256) [
  | inl within ↦ weaker (BelongsTo floor j) (λ q. q.due ≢ p.due) (λ q b e. apart (sym b.0 ∙ ap (λ d. d % 256) e ∙ is)) (posts_in slots j) (held.belong j within)
  | inr out ↦ subst (AllByRecursion (λ q. q.due ≢ p.due)) (sym (get_or-eq_default slots [] {n = j} (omega arith))) tt
]

-- all posts of a wheel are within its floor and 255 cycles behind it
pub all_within : (slots : List (List Post)) (floor : ℕ) → AreHeld slots floor → AllByRecursion (λ q. (floor ≤ q.due) × (q.due ≤ floor + 255)) (wheel_posts slots)
all_within slots floor held = all_with_slots (posts_in slots) (λ q. (floor ≤ q.due) × (q.due ≤ floor + 255)) 256
    (λ k within. weaker (BelongsTo floor k) (λ q. (floor ≤ q.due) × (q.due ≤ floor + 255)) (λ q b. (b.1, b.2)) (posts_in slots k) (held.belong k within))

-- none is due before the first
pub all_from_first : (slots : List (List Post)) → AllByRecursion (λ q. next_due (wheel_posts slots) ≤ q.due) (wheel_posts slots)
all_from_first slots = none_sooner (wheel_posts slots) (in_order-with_slots (posts_in slots) 256)

pub slot_from_first : (slots : List (List Post)) (k : ℕ) → k < 256 → AllByRecursion (λ q. next_due (wheel_posts slots) ≤ q.due) (posts_in slots k)
slot_from_first slots k h = all_of_with_slots (posts_in slots) (λ q. next_due (wheel_posts slots) ≤ q.due) 256 (all_from_first slots) k h

-- a due outside is none of the wheel's
pub outside_none : (slots : List (List Post)) (floor first due : ℕ) → AreHeld slots floor → (due < floor) ⊎ (max floor first + 255 < due) → AllByRecursion (λ q. q.due ≢ due) (wheel_posts slots)
outside_none slots floor first due held out =
    weaker (λ q. (floor ≤ q.due) × (q.due ≤ floor + 255)) (λ q. q.due ≢ due) (λ q b e. elim out [
      | inl before ↦ absurd (omega (arith, b.0, e, before))
      | inr after ↦ absurd (omega (arith, b.1, e, after))
    ]) (wheel_posts slots) (all_within slots floor held)

-- ---- a post is put

-- the list has the post
pub put_posts : (slots : List (List Post)) (floor : ℕ) (p : Post) → AreHeld slots floor
    → wheel_posts (set slots (p.due % 256) (with_post (posts_in slots (p.due % 256)) p)) ≡ with_post (wheel_posts slots) p
put_posts slots floor p held =
    let k = p.due % 256 in
    let now = set slots k (with_post (posts_in slots k) p) in
    slots_put (posts_in slots) (posts_in now) k (λ j apart. set_other slots k (with_post (posts_in slots k) p) held.count (omega arith) j apart) p
    (set_here slots k (with_post (posts_in slots k) p) held.count (omega arith)) (held.in_order k (omega arith)) (other_dues slots floor k p held refl) 256 (omega arith)

-- with the floor raised no further than the first post
pub put_held : (slots : List (List Post)) (floor raised : ℕ) (p : Post) → AreHeld slots floor
    → floor ≤ raised → raised ≤ max floor (next_due (wheel_posts slots)) → raised ≤ p.due → p.due ≤ raised + 255
    → AreHeld (set slots (p.due % 256) (with_post (posts_in slots (p.due % 256)) p)) raised
put_held slots floor raised p held grows stops from to =
    let k = p.due % 256 in
    let more = with_post (posts_in slots k) p in
    let all : (j : ℕ) → j < 256 → AllByRecursion (BelongsTo raised j) (posts_in slots j) = λ j within.
    both_weaker (BelongsTo floor j) (λ q. next_due (wheel_posts slots) ≤ q.due) (BelongsTo raised j)
    (λ q b first. (b.0, omega (arith, b.1, first), omega (arith, b.2))) (posts_in slots j) (held.belong j within) (slot_from_first slots j within) in
    record {
      count = length-set slots k more ∙ held.count;
      belong = set_all slots k more held.count (omega arith) (λ j posts. AllByRecursion (BelongsTo raised j) posts)
          (all_with (BelongsTo raised k) (posts_in slots k) p (refl, from, to) (all k (omega arith))) (λ j within apart. all j within);
      in_order = set_all slots k more held.count (omega arith) (λ j posts. IsInOrder posts)
          (in_order-with_post (posts_in slots k) p (held.in_order k (omega arith))) (λ j within apart. held.in_order j within);
    }

-- ---- marks

mark_with : (mark : ℕ) (posts : List Post) (p : Post) → mark ≡ 1 → IsMarked mark (with_post posts p)
mark_with mark [] p h = h
mark_with mark (q ∷ posts) p h = elim (is_later q p) as (λ b. IsMarked mark (cond b (p ∷ q ∷ posts) (q ∷ with_post posts p))) [ true ↦ h | false ↦ h ]

pub put_marked : (old new : Occupied) (slots : List (List Post)) (k : ℕ) (p : Post) → length slots ≡ 256 → k < 256 → AreMarked old slots → mark_at new k ≡ 1 → KeepsOthers old new k
    → AreMarked new (set slots k (with_post (posts_in slots k) p))
put_marked old new slots k p count h marked here others =
    set_all slots k (with_post (posts_in slots k) p) count h (λ j posts. IsMarked (mark_at new j) posts) (mark_with (mark_at new k) (posts_in slots k) p here)
    (λ j within apart. subst (λ m. IsMarked m (posts_in slots j)) (sym (others j within apart)) (marked j within))

-- ---- the first post

-- a due that a post of a list in order has, and none is before
pub least_is : (posts : List Post) (due : ℕ) → IsInOrder posts → AllByRecursion (λ q. due ≤ q.due) posts → (next_due posts ≤ due) → (posts ≡ [] → ⊥) → next_due posts ≡ due
least_is [] due o all le some = absurd (some refl)
least_is (p ∷ posts) due o all le some = omega (arith, all.0, le)

-- a wheel with a post in a slot has a post
some_in_wheel : (slots : List (List Post)) (k : ℕ) (p : Post) (rest : List Post) → k < 256 → posts_in slots k ≡ p ∷ rest → wheel_posts slots ≡ [] → ⊥
some_in_wheel slots k p rest h is none =
    (subst (AllByRecursion (λ q. ⊥)) is (all_of_with_slots (posts_in slots) (λ q. ⊥) 256 (subst (AllByRecursion (λ q. ⊥)) (sym none) tt) k h)).0

-- the first post of a slot, where none of the wheel is due before it
pub first_of_slot : (slots : List (List Post)) (k : ℕ) (p : Post) (rest : List Post) → k < 256 → posts_in slots k ≡ p ∷ rest
    → ((j : ℕ) → j < 256 → AllByRecursion (λ q. p.due ≤ q.due) (posts_in slots j)) → next_due (wheel_posts slots) ≡ p.due
first_of_slot slots k p rest h is all =
    least_is (wheel_posts slots) p.due (in_order-with_slots (posts_in slots) 256) (all_with_slots (posts_in slots) (λ q. p.due ≤ q.due) 256 all)
    (subst (AllByRecursion (λ q. next_due (wheel_posts slots) ≤ q.due)) is (slot_from_first slots k h)).0 (some_in_wheel slots k p rest h is)

-- the first due of a wheel with a post is within it
first_within : (posts : List Post) (floor : ℕ) → AllByRecursion (λ q. (floor ≤ q.due) × (q.due ≤ floor + 255)) posts → (posts ≡ [] → ⊥) → (floor ≤ next_due posts) × (next_due posts ≤ floor + 255)
first_within [] floor all some = absurd (some refl)
first_within (p ∷ posts) floor all some = all.0

-- where the slot of the first due has no post, the wheel has none
first_absent : (posts : List Post) → AllByRecursion (λ q. q.due ≢ next_due posts) posts → posts ≡ []
first_absent [] all = refl
first_absent (p ∷ posts) all = absurd (all.0 refl)

pub none_in_wheel : (slots : List (List Post)) (floor : ℕ) → AreHeld slots floor → posts_in slots (next_due (wheel_posts slots) % 256) ≡ [] → wheel_posts slots ≡ []
none_in_wheel slots floor held none =
    let first = next_due (wheel_posts slots) in
    first_absent (wheel_posts slots) (all_with_slots (posts_in slots) (λ q. q.due ≢ first) 256 (λ j within. elim (cases_eq j (first % 256)) [
      | inl same ↦ subst (λ i. AllByRecursion (λ q. q.due ≢ first) (posts_in slots i)) (sym same) (subst (AllByRecursion (λ q. q.due ≢ first)) (sym none) tt)
      | inr apart ↦ weaker (BelongsTo floor j) (λ q. q.due ≢ first) (λ q b e. apart (sym b.0 ∙ ap (λ d. d % 256) e)) (posts_in slots j) (held.belong j within)
    ]))

-- the posts of the first due's slot have this due
pub first_in_slot : (slots : List (List Post)) (floor : ℕ) (p : Post) (rest : List Post) → AreHeld slots floor → posts_in slots (next_due (wheel_posts slots) % 256) ≡ p ∷ rest
    → AllByRecursion (λ q. q.due ≡ next_due (wheel_posts slots)) (p ∷ rest)
first_in_slot slots floor p rest held is =
    let first = next_due (wheel_posts slots) in
    let k = first % 256 in
    let within = first_within (wheel_posts slots) floor (all_within slots floor held) (some_in_wheel slots k p rest (omega arith) is) in
    both_weaker (BelongsTo floor k) (λ q. first ≤ q.due) (λ q. q.due ≡ first) (λ q b from. omega (arith, b.0, b.2, from, within.0)) (p ∷ rest)
    (subst (AllByRecursion (BelongsTo floor k)) is (held.belong k (omega arith))) (subst (AllByRecursion (λ q. first ≤ q.due)) is (slot_from_first slots k (omega arith)))

-- ---- the first post is taken

-- what is left, and that the post was the first
pub take_posts : (slots : List (List Post)) (floor : ℕ) (p : Post) (rest : List Post) → AreHeld slots floor → posts_in slots (next_due (wheel_posts slots) % 256) ≡ p ∷ rest
    → (p.due ≡ next_due (wheel_posts slots)) × (wheel_posts slots ≡ p ∷ wheel_posts (set slots (next_due (wheel_posts slots) % 256) rest))
take_posts slots floor p rest held is =
    let first = next_due (wheel_posts slots) in
    let k = first % 256 in
    let now = set slots k rest in
    let due : p.due ≡ first = (first_in_slot slots floor p rest held is).0 in
    let here : posts_in now k ≡ rest = set_here slots k rest held.count (omega arith) in
    let order : IsInOrder (p ∷ rest) = subst IsInOrder is (held.in_order k (omega arith)) in
    let behind : (j : ℕ) → j ≢ k → AllByRecursion (λ q. p.due < q.due) (posts_in slots j) = λ j apart.
    both_weaker (λ q. q.due ≢ p.due) (λ q. first ≤ q.due) (λ q. p.due < q.due) (λ q other from. let no : q.due ≢ p.due = other in omega (arith, due, from)) (posts_in slots j)
    (other_dues slots floor k p held (ap (λ d. d % 256) due) j apart)
    (beyond (λ q. first ≤ q.due) slots held.count (λ i within. slot_from_first slots i within) j) in (
      due,
      slots_take (posts_in slots) (posts_in now) k (λ j apart. set_other slots k rest held.count (omega arith) j apart) p
          (is ∙ ap (λ posts. p ∷ posts) (sym here)) (subst (AllByRecursion (λ q. is_later p q ≡ false)) (sym here) order.0) behind 256 (omega arith),
    )

-- the slots after it, with any floor up to the first due
pub take_held : (slots : List (List Post)) (floor raised : ℕ) (p : Post) (rest : List Post) → AreHeld slots floor → posts_in slots (next_due (wheel_posts slots) % 256) ≡ p ∷ rest
    → floor ≤ raised → raised ≤ next_due (wheel_posts slots) → AreHeld (set slots (next_due (wheel_posts slots) % 256) rest) raised
take_held slots floor raised p rest held is grows stops =
    let first = next_due (wheel_posts slots) in
    let k = first % 256 in
    let all : (j : ℕ) → j < 256 → AllByRecursion (BelongsTo raised j) (posts_in slots j) = λ j within.
    both_weaker (BelongsTo floor j) (λ q. first ≤ q.due) (BelongsTo raised j) (λ q b from. (b.0, omega (arith, stops, from), omega (arith, b.2, grows))) (posts_in slots j)
    (held.belong j within) (slot_from_first slots j within) in
    record {
      count = length-set slots k rest ∙ held.count;
      belong = set_all slots k rest held.count (omega arith) (λ j posts. AllByRecursion (BelongsTo raised j) posts)
          (subst (AllByRecursion (BelongsTo raised k)) is (all k (omega arith))).1 (λ j within apart. all j within);
      in_order = set_all slots k rest held.count (omega arith) (λ j posts. IsInOrder posts)
          (subst IsInOrder is (held.in_order k (omega arith))).1 (λ j within apart. held.in_order j within);
    }

-- where a post is left in the slot, its due is still the first
pub take_first : (slots : List (List Post)) (floor : ℕ) (p : Post) (rest : List Post) → AreHeld slots floor → posts_in slots (next_due (wheel_posts slots) % 256) ≡ p ∷ rest
    → (rest ≡ [] → ⊥) → next_due (wheel_posts slots) ≡ next_due (wheel_posts (set slots (next_due (wheel_posts slots) % 256) rest))
take_first slots floor p [] held is some = absurd (some refl)
take_first slots floor p (q ∷ rest) held is some =
    let first = next_due (wheel_posts slots) in
    let k = first % 256 in
    let now = set slots k (q ∷ rest) in
    let here : posts_in now k ≡ q ∷ rest = set_here slots k (q ∷ rest) held.count (omega arith) in
    let due : q.due ≡ first = (first_in_slot slots floor p (q ∷ rest) held is).1.0 in
    let all : (j : ℕ) → j < 256 → AllByRecursion (λ r. q.due ≤ r.due) (posts_in now j) =
    set_all slots k (q ∷ rest) held.count (omega arith) (λ j posts. AllByRecursion (λ r. q.due ≤ r.due) posts)
    (subst (λ d. AllByRecursion (λ r. d ≤ r.due) (q ∷ rest)) (sym due) (subst (AllByRecursion (λ r. first ≤ r.due)) is (slot_from_first slots k (omega arith))).1)
    (λ j within apart. subst (λ d. AllByRecursion (λ r. d ≤ r.due) (posts_in slots j)) (sym due) (slot_from_first slots j within)) in
    sym (first_of_slot now k q rest (omega arith) here all ∙ due)

mark_rest : (mark : ℕ) (p : Post) (rest : List Post) → IsMarked mark (p ∷ rest) → (rest ≡ [] → ⊥) → IsMarked mark rest
mark_rest mark p [] h some = absurd (some refl)
mark_rest mark p (q ∷ rest) h some = h

-- the marks, where a post is left in the slot and where none is
pub take_marked : (occupied : Occupied) (slots : List (List Post)) (k : ℕ) (p : Post) (rest : List Post) → length slots ≡ 256 → k < 256 → AreMarked occupied slots → posts_in slots k ≡ p ∷ rest
    → (rest ≡ [] → ⊥) → AreMarked occupied (set slots k rest)
take_marked occupied slots k p rest count h marked is some =
    set_all slots k rest count h (λ j posts. IsMarked (mark_at occupied j) posts)
    (mark_rest (mark_at occupied k) p rest (subst (IsMarked (mark_at occupied k)) is (marked k h)) some) (λ j within apart. marked j within)

pub emptied_marked : (old new : Occupied) (slots : List (List Post)) (k : ℕ) (rest : List Post) → length slots ≡ 256 → k < 256 → AreMarked old slots → rest ≡ []
    → mark_at new k ≡ 0 → KeepsOthers old new k → AreMarked new (set slots k rest)
emptied_marked old new slots k rest count h marked none here others =
    set_all slots k rest count h (λ j posts. IsMarked (mark_at new j) posts) (subst (IsMarked (mark_at new k)) (sym none) here)
    (λ j within apart. subst (λ m. IsMarked m (posts_in slots j)) (sym (others j within apart)) (marked j within))

-- ---- the next slot round the wheel has the first post

unmarked : (mark : ℕ) (posts : List Post) → mark ≡ 0 → IsMarked mark posts → posts ≡ []
unmarked mark [] none h = refl
unmarked mark (p ∷ posts) none h = absurd (let no : ◌≡◌ {A = ℕ} 0 1 = sym none ∙ h in omega arith)

marked_one : (mark : ℕ) (p : Post) (posts : List Post) → IsMarked mark (p ∷ posts) → mark ≡ 1
marked_one mark p posts h = h

-- no slot has a post
pub none_marked_first : (occupied : Occupied) (slots : List (List Post)) → AreMarked occupied slots → NoneWithin occupied 0 256 → wheel_posts slots ≡ []
none_marked_first occupied slots marked none =
    first_absent (wheel_posts slots) (all_with_slots (posts_in slots) (λ q. q.due ≢ next_due (wheel_posts slots)) 256
    (λ k within. subst (AllByRecursion (λ q. q.due ≢ next_due (wheel_posts slots))) (sym (unmarked (mark_at occupied k) (posts_in slots k) (none k (omega arith) within) (marked k within))) tt))

all_at : (P : Post → Type 0) (posts : List Post) → ((p : Post) (rest : List Post) → posts ≡ p ∷ rest → AllByRecursion P posts) → AllByRecursion P posts
all_at P [] f = tt
all_at P (p ∷ rest) f = f p rest refl

next_marked : (mark : ℕ) (posts : List Post) → IsMarked mark posts → mark ≡ 1 → (p : Post) × (rest : List Post) × (posts ≡ p ∷ rest)
next_marked mark [] h one = absurd (let no : ◌≡◌ {A = ℕ} 0 1 = sym h ∙ one in omega arith)
next_marked mark (p ∷ rest) h one = (p, rest, refl)

-- the next slot's first post is the first of all
pub next_slot_first : (occupied : Occupied) (slots : List (List Post)) (due from slot : ℕ) → AreHeld slots due → AreMarked occupied slots → from ≡ due % 256 → IsNextRound occupied from slot
    → next_due (posts_in slots slot) ≡ next_due (wheel_posts slots)
next_slot_first occupied slots due from slot held marked is n =
    let found = next_marked (mark_at occupied slot) (posts_in slots slot) (marked slot n.0) n.1 in
    let p = found.0 in
    let own : BelongsTo due slot p = (subst (AllByRecursion (BelongsTo due slot)) found.2 (held.belong slot n.0)).0 in
    let all : (j : ℕ) → j < 256 → AllByRecursion (λ q. p.due ≤ q.due) (posts_in slots j) = λ j within.
    all_at (λ q. p.due ≤ q.due) (posts_in slots j) (λ q rest some.
    let nearer : round from slot ≤ round from j = n.2 j within (marked_one (mark_at occupied j) q rest (subst (IsMarked (mark_at occupied j)) some (marked j within))) in
    weaker (BelongsTo due j) (λ r. p.due ≤ r.due) (λ r b. omega (arith, own.0, own.1, own.2, b.0, b.1, b.2, nearer, is)) (posts_in slots j) (held.belong j within)) in
    ap next_due found.2 ∙ sym (first_of_slot slots slot p found.1 n.0 found.2 all)

-- ---- as the calls say it

-- no slot has a post at first
pub new_wheel : (slots : List (List Post)) (occupied : Occupied) → slots ≡ replicate 256 [] → NoneWithin occupied 0 256 → IsWheel slots occupied 0 (2 ^ 64 - 1) × (wheel_posts slots ≡ [])
new_wheel slots occupied is none =
    let empty : (k : ℕ) → k < 256 → posts_in slots k ≡ [] = λ k h. ap (λ lists. posts_in lists k) is ∙ get_or-replicate 256 k [] [] h in
    let marked : AreMarked occupied slots = λ k h. subst (IsMarked (mark_at occupied k)) (sym (empty k h)) (none k (omega arith) h) in
    let no_post = none_marked_first occupied slots marked none in (
      record {
        held = record {
          count = let size = length-replicate {A = List Post} 256 [] in ap length is ∙ size;
          belong = λ k h. subst (AllByRecursion (BelongsTo 0 k)) (sym (empty k h)) tt;
          in_order = λ k h. subst IsInOrder (sym (empty k h)) tt;
        };
        marked = marked;
        least = ap next_due (sym no_post);
      },
      no_post,
    )

-- what a put leaves
pub put_wheel : (slots now : List (List Post)) (old new : Occupied) (floor raised first first_now slot : ℕ) (p : Post)
    → IsWheel slots old floor first → (floor ≤ raised) × (raised ≤ max floor first) → (raised ≤ p.due) × (p.due ≤ raised + 255) → slot ≡ p.due % 256
    → now ≡ set slots (p.due % 256) (with_post (posts_in slots (p.due % 256)) p) → mark_at new slot ≡ 1 → KeepsOthers old new slot
    → p.due < 2 ^ 64 → first_now ≡ min first p.due
    → IsWheel now new raised first_now × (wheel_posts now ≡ with_post (wheel_posts slots) p)
put_wheel slots now old new floor raised first first_now slot p w grows holds at is here others fits first_is =
    let k = p.due % 256 in
    let after = set slots k (with_post (posts_in slots k) p) in
    let stops : raised ≤ max floor (next_due (wheel_posts slots)) = omega (arith, grows.1, w.least) in
    let posts : wheel_posts after ≡ with_post (wheel_posts slots) p = put_posts slots floor p w.held in
    let one : IsWheel after new raised first_now = record {
      held = put_held slots floor raised p w.held grows.0 stops holds.0 holds.1;
      marked = put_marked old new slots k p w.held.count (omega arith) w.marked (ap (mark_at new) (sym at) ∙ here) (subst (KeepsOthers old new) at others);
      least = first_is ∙ ap (λ d. min d p.due) w.least ∙ sym (next_due-with_post (wheel_posts slots) p fits) ∙ ap next_due (sym posts);
    } in
    (subst (λ lists. IsWheel lists new raised first_now) (sym is) one, ap wheel_posts is ∙ posts)

-- what a take leaves
pub record Taken (old now : List (List Post)) (marks : Occupied) (low top slot : ℕ) (p : Post) : Type 0 where
  pub due : p.due ≡ top
  pub posts : wheel_posts old ≡ p ∷ wheel_posts now
  pub above : low ≤ top
  pub held : (floor : ℕ) → low ≤ floor → floor ≤ top → AreHeld now floor
  pub emptied : (new : Occupied) → posts_in now slot ≡ [] → mark_at new slot ≡ 0 → KeepsOthers marks new slot → AreMarked new now
  pub same : (posts_in now slot ≡ [] → ⊥) → IsWheel now marks low top

take-at : (slots : List (List Post)) (occupied : Occupied) (floor : ℕ) (p : Post) (rest : List Post) → AreHeld slots floor → AreMarked occupied slots
    → posts_in slots (next_due (wheel_posts slots) % 256) ≡ p ∷ rest
    → Taken slots (set slots (next_due (wheel_posts slots) % 256) rest) occupied floor (next_due (wheel_posts slots)) (next_due (wheel_posts slots) % 256) p
take-at slots occupied floor p rest held marked is =
    let k = next_due (wheel_posts slots) % 256 in
    let posts = take_posts slots floor p rest held is in
    let here = set_here slots k rest held.count (omega arith) in
    let above = (first_within (wheel_posts slots) floor (all_within slots floor held) (some_in_wheel slots k p rest (omega arith) is)).0 in
    record {
      due = posts.0;
      posts = posts.1;
      above = above;
      held = λ raised grows stops. take_held slots floor raised p rest held is grows stops;
      emptied = λ new none mark others. emptied_marked occupied new slots k rest held.count (omega arith) marked (sym here ∙ none) mark others;
      same = λ some. record {
        held = take_held slots floor floor p rest held is (omega arith) above;
        marked = take_marked occupied slots k p rest held.count (omega arith) marked is (λ e. some (here ∙ e));
        least = take_first slots floor p rest held is (λ e. some (here ∙ e));
      };
    }

pub take_wheel : (slots now : List (List Post)) (occupied : Occupied) (floor first slot : ℕ) (p : Post)
    → IsWheel slots occupied floor first → slot ≡ first % 256 → TakesFirst slots now slot p → Taken slots now occupied floor first slot p
take_wheel slots now occupied floor first slot p w at takes =
    let top = next_due (wheel_posts slots) in
    let k_is : slot ≡ top % 256 = at ∙ ap (λ d. d % 256) w.least in
    let rest = takes.0 in
    let is : posts_in slots (top % 256) ≡ p ∷ rest = ap (posts_in slots) (sym k_is) ∙ takes.1 in
    subst (λ lists. Taken slots lists occupied floor first slot p) (sym takes.2)
    (subst (λ d. Taken slots (set slots slot rest) occupied floor d slot p) (sym w.least)
    (subst (λ k. Taken slots (set slots k rest) occupied floor top k p) (sym k_is) (take-at slots occupied floor p rest w.held w.marked is)))

-- the slot of the first due has no post
pub none_taken : (slots : List (List Post)) (occupied : Occupied) (floor first slot : ℕ) → IsWheel slots occupied floor first → slot ≡ first % 256 → posts_in slots slot ≡ [] → wheel_posts slots ≡ []
none_taken slots occupied floor first slot w at none =
    none_in_wheel slots floor w.held (ap (posts_in slots) (sym (at ∙ ap (λ d. d % 256) w.least)) ∙ none)

-- no post is due yet
pub none_due : (slots : List (List Post)) (occupied : Occupied) (floor first cycle : ℕ) → IsWheel slots occupied floor first → cycle < first → AllByRecursion (λ q. cycle < q.due) (wheel_posts slots)
none_due slots occupied floor first cycle w h =
    weaker (λ q. next_due (wheel_posts slots) ≤ q.due) (λ q. cycle < q.due) (λ q from. omega (arith, from, h, w.least)) (wheel_posts slots) (all_from_first slots)

-- fewer posts than one
pub none_left : (posts : List Post) (most : ℕ) → length posts < most → most ≡ 1 → 2 ^ 64 - 1 ≡ next_due posts
none_left [] most h one = refl
none_left (p ∷ posts) most h one = absurd (omega (arith, h, one))
