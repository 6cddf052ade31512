-- The slots of a wheel as a list of their posts.
use Rattle.std.proofs.Common.{◌≡◌, ◌≢◌, ◌∙◌, ℕ, ◌<◌, zero, suc, false, List, [], ◌∷◌, drop, map, length, get_or, set, refl, sym, ap, ap₂, subst, arith, inl, inr, None, Some, Option}
use Rattle.std.specs.Option.{is_some}
use Rattle.std.proofs.Math.ListN.{get_or-map}
use Rattle.std.proofs.lemmas.Bool.{cases_eq, false≢true}
use Rattle.std.proofs.lemmas.List.{get_or-set_same, get_or-set_other}
use Rattle.slack_base.specs.declared.messages.Post.{Post}
use Rattle.slack_base.specs.Inboxes.{with_post}
use Rattle.stamp_queue.specs.declared.inbox.nodes.Node.{Node}
use Rattle.stamp_queue.specs.Inbox.{next_due}
use Rattle.stamp_queue.specs.Slots.{kept_post, node_at, posts_from, slot_posts, IsSlot, KeepsSlot, KeepsAll, AreSlots, rest_of}
use Rattle.stamp_queue.specs.Wheel.{posts_in, TakesFirst}
use Rattle.stamp_queue.proofs.Chains.{slot_same, chain_posts, take_away}

-- ---- all slots

map_same : (f g : Option ℕ → List Post) (slots : List (Option ℕ)) → ((j : ℕ) → j < length slots → g (get_or slots j None) ≡ f (get_or slots j None)) → map g slots ≡ map f slots
map_same f g [] same = refl
map_same f g (s ∷ slots) same = ap₂ (λ x xs. x ∷ xs) (same 0 (omega arith)) (map_same f g slots (λ j h. same (suc j) (omega arith)))

map_but_one : (f g : Option ℕ → List Post) (slots : List (Option ℕ)) (k : ℕ) (first : Option ℕ) (posts : List Post) → k < length slots → g first ≡ posts
    → ((j : ℕ) → j < length slots → j ≢ k → g (get_or slots j None) ≡ f (get_or slots j None)) → map g (set slots k first) ≡ set (map f slots) k posts
map_but_one f g [] k first posts h here same = absurd (omega arith)
map_but_one f g (s ∷ slots) zero first posts h here same = ap₂ (λ x xs. x ∷ xs) here (map_same f g slots (λ j within. same (suc j) (omega arith) (λ e. absurd (omega arith))))
map_but_one f g (s ∷ slots) (suc k) first posts h here same =
    ap₂ (λ x xs. x ∷ xs) (same 0 (omega arith) (λ e. absurd (omega arith)))
    (map_but_one f g slots k first posts (omega arith) here (λ j within apart. same (suc j) (omega arith) (λ e. apart (omega arith))))

module _ (old new : List Node) (slots : List (Option ℕ)) (k : ℕ) (first : Option ℕ) (all : length slots ≡ 256) (h : k < 256) where
  -- one slot changes, and the others are as they were
  pub slots_changed : AreSlots old slots → IsSlot new k first → ((j : ℕ) → j ≢ k → KeepsSlot old new j) → AreSlots new (set slots k first)
  slots_changed are here keeps j within = elim (cases_eq j k) [
    | inl same ↦
        let now : get_or (set slots k first) j None ≡ first = ap (λ i. get_or (set slots k first) i None) same ∙ get_or-set_same slots k first None (omega arith) in
        subst (IsSlot new j) (sym now) (subst (λ i. IsSlot new i first) (sym same) here)
    | inr other ↦
        subst (IsSlot new j) (sym (get_or-set_other slots k j first None other)) (slot_same old new j (get_or slots j None) (are j within) (keeps j other)).0
  ]

  pub posts_changed : (posts : List Post) → AreSlots old slots → slot_posts new first ≡ posts → ((j : ℕ) → j ≢ k → KeepsSlot old new j)
      → map (slot_posts new) (set slots k first) ≡ set (map (slot_posts old) slots) k posts
  posts_changed posts are here keeps =
      map_but_one (slot_posts old) (slot_posts new) slots k first posts (omega arith) here
      (λ j within apart. (slot_same old new j (get_or slots j None) (are j (omega arith)) (keeps j apart)).1)

-- the posts of a slot, read from the nodes or from the lists
pub read_slot : (nodes : List Node) (slots : List (Option ℕ)) (k : ℕ) → posts_in (map (slot_posts nodes) slots) k ≡ slot_posts nodes (get_or slots k None)
read_slot nodes slots k = get_or-map (slot_posts nodes) slots k None

-- no slot changed
pub posts_same : (old new : List Node) (slots : List (Option ℕ)) → length slots ≡ 256 → AreSlots old slots → KeepsAll old new → map (slot_posts new) slots ≡ map (slot_posts old) slots
posts_same old new slots all are keeps =
    map_same (slot_posts old) (slot_posts new) slots (λ j h. (slot_same old new j (get_or slots j None) (are j (omega arith)) (keeps j)).1)

pub slots_same : (old new : List Node) (slots : List (Option ℕ)) → AreSlots old slots → KeepsAll old new → AreSlots new slots
slots_same old new slots are keeps j h = (slot_same old new j (get_or slots j None) (are j h) (keeps j)).0

-- a slot has no post, or it has a first
pub empty_slot : (nodes : List Node) (k : ℕ) (slot : Option ℕ) → IsSlot nodes k slot → is_some slot ≡ false → slot_posts nodes slot ≡ []
empty_slot nodes k None h e = refl
empty_slot nodes k (Some place) h e = absurd (false≢true (sym e))

pub slot_empty : (nodes : List Node) (k : ℕ) (slot : Option ℕ) → IsSlot nodes k slot → slot_posts nodes slot ≡ [] → is_some slot ≡ false
slot_empty nodes k None h e = refl
slot_empty nodes k (Some place) h e =
    let head = chain_posts nodes k (node_at nodes place).behind place h in
    let no : head.0 ∷ drop 1 (posts_from nodes (node_at nodes place).behind place) ≡ [] = sym head.2 ∙ e in absurd cc

-- the due of the first post of a slot
pub first_due : (nodes : List Node) (k place : ℕ) (p : Post) → IsSlot nodes k (Some place) → kept_post (node_at nodes place) ≡ Some p → next_due (slot_posts nodes (Some place)) ≡ p.due
first_due nodes k place p h is =
    let head = chain_posts nodes k (node_at nodes place).behind place h in
    let both : Some head.0 ≡ Some p = sym head.1 ∙ is in
    let same : head.0 ≡ p = cc in
    ap next_due head.2 ∙ ap (λ q. q.due) same

-- what a put shows: the slot has one post more
pub put_shows : (old new : List Node) (slots : List (Option ℕ)) (k slot place : ℕ) (p : Post) (now : List (List Post))
    → length slots ≡ 256 → k < 256 → slot ≡ k → AreSlots old slots → map (slot_posts old) slots ≡ now
    → slot_posts new (Some place) ≡ with_post (slot_posts old (get_or slots slot None)) p → ((j : ℕ) → j ≢ k → KeepsSlot old new j)
    → map (slot_posts new) (set slots slot (Some place)) ≡ set now k (with_post (posts_in now k) p)
put_shows old new slots k slot place p now all within is are shows here keeps =
    let put : slot_posts new (Some place) ≡ with_post (posts_in now k) p =
    here ∙ ap (λ s. with_post (slot_posts old (get_or slots s None)) p) is ∙ ap (λ posts. with_post posts p) (sym (read_slot old slots k)) ∙ ap (λ lists. with_post (posts_in lists k) p) shows in
    ap (λ s. map (slot_posts new) (set slots s (Some place))) is
    ∙ posts_changed old new slots k (Some place) all within (with_post (posts_in now k) p) are put keeps
    ∙ ap (λ lists. set lists k (with_post (posts_in now k) p)) shows

-- and a take: the slot has lost its first
pub take_shows : (nodes : List Node) (slots : List (Option ℕ)) (k place : ℕ) (node : Node) (rest : Option ℕ) (now : List (List Post))
    → length slots ≡ 256 → k < 256 → get_or slots k None ≡ Some place → AreSlots nodes slots → map (slot_posts nodes) slots ≡ now
    → kept_post node ≡ None → rest ≡ rest_of (node_at nodes place)
    → let new = set nodes place node in
    AreSlots new (set slots k rest) × (p : Post) × (kept_post (node_at nodes place) ≡ Some p) × TakesFirst now (map (slot_posts new) (set slots k rest)) k p
take_shows nodes slots k place node rest now all within is are shows free rest_is =
    let new = set nodes place node in
    let chain : IsSlot nodes k (Some place) = subst (IsSlot nodes k) is (are k within) in
    let away = take_away nodes k place node chain free in
    let left = slot_posts new rest in
    let had : posts_in now k ≡ away.0 ∷ left =
    ap (λ lists. posts_in lists k) (sym shows) ∙ read_slot nodes slots k ∙ ap (slot_posts nodes) is ∙ away.2 ∙ ap (λ slot. away.0 ∷ slot_posts new slot) (sym rest_is) in (
      slots_changed nodes new slots k rest all within are (subst (IsSlot new k) (sym rest_is) away.3) away.4,
      away.0,
      away.1,
      (left, had, posts_changed nodes new slots k rest all within left are refl away.4 ∙ ap (λ lists. set lists k left) shows),
    )
