-- Chains of nodes, and what a change of one node does to them.
use Rattle.std.proofs.Common.{◌≡◌, ◌≢◌, ◌∙◌, ℕ, ◌%◌, ◌<◌, ◌≤◌, zero, suc, true, false, List, [], ◌∷◌, ◌++◌, drop, take, append-nil, length, set, refl, sym, ap, subst, arith, inl, inr, None, Some, Option, IsSomeAnd, add-one, ◌-◌, ◌==◌, if◌then◌else◌, Bool}
use Rattle.std.specs.Option.{option_to_list, unwrap_or}
use Rattle.std.proofs.lemmas.Bool.{cases_lt}
use Rattle.std.proofs.lemmas.Bool.Decides.{nat_tests}
use Rattle.std.proofs.Math.ListN.{get_or-eq_default}
use Rattle.std.proofs.lemmas.List.{get_or-set_same, get_or-set_other, drop_all, take_all}
use Rattle.slack_base.specs.declared.messages.Post.{Post}
use Rattle.slack_base.specs.Inboxes.{is_later, with_post}
use Rattle.stamp_queue.specs.declared.inbox.nodes.Node.{Node}
use Rattle.stamp_queue.specs.Slots.{blank, node_at, posts_from, slot_posts, HoldsPost, IsChain, IsSlot, chain_len, rest_of, KeepsSlot, StandsBefore, IsNextNoLater, KeepsAll, IsWritten, kept_post, node_of}
use Rattle.stamp_queue.proofs.Places.{with_post-pass, with_post-stop}

-- the post that a place holds
post_of : (o : Option Post) (k : ℕ) → IsSomeAnd o (λ p. p.due % 256 ≡ k) → (p : Post) × (o ≡ Some p) × (p.due % 256 ≡ k)
post_of None k h = absurd h
post_of (Some p) k h = (p, refl, h)

pub held_post : (nodes : List Node) (k n place : ℕ) → HoldsPost nodes k n place → (p : Post) × (kept_post (node_at nodes place) ≡ Some p) × (p.due % 256 ≡ k)
held_post nodes k n place h = post_of (kept_post (node_at nodes place)) k h.1

slot_of_post : (o : Option Post) (k j : ℕ) → IsSomeAnd o (λ p. p.due % 256 ≡ k) → IsSomeAnd o (λ p. p.due % 256 ≡ j) → k ≡ j
slot_of_post None k j h g = absurd h
slot_of_post (Some p) k j h g = sym h ∙ g

-- the post of a node that isn't free
kept_as : (b : Bool) (p q : Post) → (if b then Some p else None) ≡ Some q → (p ≡ q) × (b ≡ true)
kept_as false p q h = absurd (let no : None ≡ Some q = h in cc)
kept_as true p q h = let both : Some p ≡ Some q = h in let same : p ≡ q = cc in (same, refl)

pub kept_is : (node : Node) (q : Post) → kept_post node ≡ Some q → node.post ≡ q
kept_is node q h = (kept_as node.is_used node.post q h).0

kept_with : (node : Node) (p q : Post) → kept_post node ≡ Some q → kept_post (record node { post = p }) ≡ Some p
kept_with node p q h = ap (λ b. if b then Some p else None) (kept_as node.is_used node.post q h).1

-- a place stands in one slot alone, and at one distance from its end
pub same_node : (nodes : List Node) (k j n m place : ℕ) → HoldsPost nodes k n place → HoldsPost nodes j m place → (k ≡ j) × (n ≡ m)
same_node nodes k j n m place h g = (slot_of_post (kept_post (node_at nodes place)) k j h.1 g.1, sym h.0 ∙ g.0)

-- a place that holds a post is one of the nodes
pub held_within : (nodes : List Node) (k n place : ℕ) → HoldsPost nodes k n place → place < length nodes
held_within nodes k n place h = elim (cases_lt place (length nodes)) [
  | inl within ↦ within
  | inr beyond ↦ absurd (subst (λ node. IsSomeAnd (kept_post node) (λ p. p.due % 256 ≡ k)) (get_or-eq_default nodes blank beyond) h.1)
]

pub chain_head : (nodes : List Node) (k n place : ℕ) → IsChain nodes k n place → HoldsPost nodes k n place
chain_head nodes k zero place h = h
chain_head nodes k (suc n) place h = h.0

-- a chain is as it was where the nodes of its slot are, up to so many behind them
pub chain_same : (old new : List Node) (k n place : ℕ) → IsChain old k n place
    → ((m x : ℕ) → m ≤ n → HoldsPost old k m x → node_at new x ≡ node_at old x)
    → IsChain new k n place × (posts_from new n place ≡ posts_from old n place)
chain_same old new k zero place h same =
    let e = same zero place (omega arith) h in
    (subst (λ node. (node.behind ≡ zero) × IsSomeAnd (kept_post node) (λ p. p.due % 256 ≡ k)) (sym e) h, ap (λ node. option_to_list (kept_post node)) e)
chain_same old new k (suc n) place h same =
    let e = same (suc n) place (omega arith) h.0 in
    let deep = chain_same old new k n (node_at old place).next h.1 (λ m x within. same m x (omega arith)) in
    let head = subst (λ node. (node.behind ≡ suc n) × IsSomeAnd (kept_post node) (λ p. p.due % 256 ≡ k)) (sym e) h.0 in (
      (head, subst (λ node. IsChain new k n node.next) (sym e) deep.0),
      ap (λ node. option_to_list (kept_post node) ++ posts_from new n node.next) e ∙ ap (λ posts. option_to_list (kept_post (node_at old place)) ++ posts) deep.1,
    )

-- a slot is as it was where its nodes are
pub slot_same : (old new : List Node) (k : ℕ) (slot : Option ℕ) → IsSlot old k slot → KeepsSlot old new k → IsSlot new k slot × (slot_posts new slot ≡ slot_posts old slot)
slot_same old new k None h same = (tt, refl)
slot_same old new k (Some place) h same =
    let n = (node_at old place).behind in
    let e : node_at new place ≡ node_at old place = same n place (chain_head old k n place h) in
    let deep = chain_same old new k n place h (λ m x within. same m x) in
    (subst (λ node. IsChain new k node.behind place) (sym e) deep.0, ap (λ node. posts_from new node.behind place) e ∙ deep.1)

-- slots that keep their nodes twice
pub keeps_twice : (a b c : List Node) (k : ℕ) → KeepsSlot a b k → KeepsSlot b c k → KeepsSlot a c k
keeps_twice a b c k one two n place h =
    let e = one n place h in
    two n place (subst (λ node. (node.behind ≡ n) × IsSomeAnd (kept_post node) (λ p. p.due % 256 ≡ k)) (sym e) h) ∙ e

-- a change of a node that holds no post of the slot
pub set_keeps : (nodes : List Node) (place : ℕ) (node : Node) (k : ℕ) → ((n : ℕ) → HoldsPost nodes k n place → ⊥) → KeepsSlot nodes (set nodes place node) k
set_keeps nodes place node k none n x h = get_or-set_other nodes place x node blank (λ e. none n (subst (HoldsPost nodes k n) e h))

-- a place with no post stands in no slot
pub free_holds_none : (nodes : List Node) (place k n : ℕ) → kept_post (node_at nodes place) ≡ None → HoldsPost nodes k n place → ⊥
free_holds_none nodes place k n free h = subst (λ o. IsSomeAnd o (λ p. p.due % 256 ≡ k)) free h.1

-- a place of one slot stands in no other
pub other_holds_none : (nodes : List Node) (place k j n : ℕ) → HoldsPost nodes k n place → j ≢ k → (m : ℕ) → HoldsPost nodes j m place → ⊥
other_holds_none nodes place k j n h apart m g = apart (same_node nodes j k m n place g h).0

-- the first post of a chain, and those behind it
pub chain_posts : (nodes : List Node) (k n place : ℕ) → IsChain nodes k n place → (p : Post) × (kept_post (node_at nodes place) ≡ Some p) × (posts_from nodes n place ≡ p ∷ drop 1 (posts_from nodes n place))
chain_posts nodes k zero place h =
    let held = held_post nodes k zero place h in
    (held.0, held.1, ap option_to_list held.1 ∙ ap (λ o. held.0 ∷ drop 1 (option_to_list o)) (sym held.1))
chain_posts nodes k (suc n) place h =
    let held = held_post nodes k (suc n) place h.0 in
    let rest = posts_from nodes n (node_at nodes place).next in
    (held.0, held.1, ap (λ o. option_to_list o ++ rest) held.1 ∙ ap (λ o. held.0 ∷ drop 1 (option_to_list o ++ rest)) (sym held.1))

-- the posts behind the first, where there are some
pub behind_first : (nodes : List Node) (k n place : ℕ) → HoldsPost nodes k (suc n) place → drop 1 (posts_from nodes (suc n) place) ≡ posts_from nodes n (node_at nodes place).next
behind_first nodes k n place h =
    let held = held_post nodes k (suc n) place h in
    ap (λ o. drop 1 (option_to_list o ++ posts_from nodes n (node_at nodes place).next)) held.1

behind_last : (nodes : List Node) (k place : ℕ) → HoldsPost nodes k zero place → drop 1 (posts_from nodes zero place) ≡ []
behind_last nodes k place h = let held = held_post nodes k zero place h in ap (λ o. drop 1 (option_to_list o)) held.1

-- ---- a post is written into a node that holds one of the same slot

-- what it does
pub record Written (old new : List Node) (k n place : ℕ) (p : Post) : Type 0 where
  pub chain : IsChain new k n place
  pub posts : posts_from new n place ≡ p ∷ drop 1 (posts_from old n place)
  pub here : kept_post (node_at new place) ≡ Some p
  pub next : (node_at new place).next ≡ (node_at old place).next
  pub slot : (m x : ℕ) → m ≢ n → HoldsPost old k m x → node_at new x ≡ node_at old x
  pub others : (j : ℕ) → j ≢ k → KeepsSlot old new j

written-node : (old : List Node) (k n place : ℕ) (p : Post) → IsChain old k n place → p.due % 256 ≡ k
    → (new : List Node) → node_at new place ≡ record (node_at old place) { post = p }
    → ((x : ℕ) → x ≢ place → node_at new x ≡ node_at old x) → Written old new k n place p
written-node old k zero place p chain is new here others =
    let had = held_post old k zero place chain in
    let now : kept_post (node_at new place) ≡ Some p = ap kept_post here ∙ kept_with (node_at old place) p had.0 had.1 in
    let head : HoldsPost new k zero place = (ap (λ node. node.behind) here ∙ chain.0, subst (λ o. IsSomeAnd o (λ q. q.due % 256 ≡ k)) (sym now) is) in
    record {
      chain = head;
      posts = ap option_to_list now ∙ ap (λ posts. p ∷ posts) (sym (behind_last old k place chain));
      here = now;
      next = ap (λ node. node.next) here;
      slot = λ m x apart h. others x (λ e. apart (same_node old k k m zero place (subst (HoldsPost old k m) e h) chain).1);
      others = λ j apart m x h. others x (λ e. other_holds_none old place k j zero chain apart m (subst (HoldsPost old j m) e h));
    }
written-node old k (suc n) place p chain is new here others =
    let had = held_post old k (suc n) place chain.0 in
    let now : kept_post (node_at new place) ≡ Some p = ap kept_post here ∙ kept_with (node_at old place) p had.0 had.1 in
    let head : HoldsPost new k (suc n) place = (ap (λ node. node.behind) here ∙ chain.0.0, subst (λ o. IsSomeAnd o (λ q. q.due % 256 ≡ k)) (sym now) is) in
    let next : (node_at new place).next ≡ (node_at old place).next = ap (λ node. node.next) here in
    let slot : (m x : ℕ) → m ≢ suc n → HoldsPost old k m x → node_at new x ≡ node_at old x =
    λ m x apart h. others x (λ e. apart (same_node old k k m (suc n) place (subst (HoldsPost old k m) e h) chain.0).1) in
    let deep = chain_same old new k n (node_at old place).next chain.1 (λ m x within h. slot m x (λ e. absurd (omega arith)) h) in
    record {
      chain = (head, subst (IsChain new k n) (sym next) deep.0);
      posts = ap (λ o. option_to_list o ++ posts_from new n (node_at new place).next) now ∙ ap (λ x. p ∷ posts_from new n x) next
          ∙ ap (λ posts. p ∷ posts) (deep.1 ∙ sym (behind_first old k n place chain.0));
      here = now;
      next = next;
      slot = slot;
      others = λ j apart m x h. others x (λ e. other_holds_none old place k j (suc n) chain.0 apart m (subst (HoldsPost old j m) e h));
    }

pub written : (nodes : List Node) (k n place : ℕ) (p : Post) → IsChain nodes k n place → p.due % 256 ≡ k
    → Written nodes (set nodes place (record (node_at nodes place) { post = p })) k n place p
written nodes k n place p chain is =
    let node : Node = record (node_at nodes place) { post = p } in
    written-node nodes k n place p chain is (set nodes place node)
    (get_or-set_same nodes place node blank (held_within nodes k n place (chain_head nodes k n place chain)))
    (λ x apart. get_or-set_other nodes place x node blank apart)

-- ---- a post settles in a chain

-- whatever becomes of the chain from here on, where the post stands among those behind, it is so from the first on
abbrev pub Leads : (now : List Node) (k n place : ℕ) (p : Post) (m first : ℕ) (all : List Post) → Type 0
Leads now k n place p m first all = (final : List Node)
    → ((i x : ℕ) → n < i → HoldsPost now k i x → node_at final x ≡ node_at now x)
    → IsChain final k n place
    → posts_from final n place ≡ with_post (drop 1 (posts_from now n place)) p
    → IsChain final k m first × (posts_from final m first ≡ all)

-- the next post, which is no later, goes one node forward
pub leads_more : (now new : List Node) (k n place : ℕ) (p q : Post) (m first : ℕ) (all : List Post)
    → Leads now k (suc n) place p m first all
    → IsChain now k (suc n) place
    → kept_post (node_at now (node_at now place).next) ≡ Some q
    → is_later q p ≡ false
    → Written now new k (suc n) place q
    → Leads new k n (node_at now place).next p m first all
leads_more now new k n place p q m first all leads chain here early w final same deep posts =
    let y = (node_at now place).next in
    let behind : IsChain new k n y × (posts_from new n y ≡ posts_from now n y) = chain_same now new k n y chain.1 (λ i x within h. w.slot i x (λ e. absurd (omega arith)) h) in
    let head : HoldsPost new k (suc n) place = w.chain.0 in
    let at : node_at final place ≡ node_at new place = same (suc n) place (omega arith) head in
    let next : (node_at final place).next ≡ y = ap (λ node. node.next) at ∙ w.next in
    let agree : (i x : ℕ) → suc n < i → HoldsPost now k i x → node_at final x ≡ node_at now x = λ i x beyond h.
    let e = w.slot i x (λ is. absurd (omega arith)) h in
    same i x (omega arith) (subst (λ node. (node.behind ≡ i) × IsSomeAnd (kept_post node) (λ r. r.due % 256 ≡ k)) (sym e) h) ∙ e in
    let whole : IsChain final k (suc n) place =
    (subst (λ node. (node.behind ≡ suc n) × IsSomeAnd (kept_post node) (λ r. r.due % 256 ≡ k)) (sym at) head, subst (IsChain final k n) (sym next) deep) in
    let rest = drop 1 (posts_from now n y) in
    let first_is : (p' : Post) × (kept_post (node_at now y) ≡ Some p') × (posts_from now n y ≡ p' ∷ rest) = chain_posts now k n y chain.1 in
    let both : Some first_is.0 ≡ Some q = sym first_is.1 ∙ here in
    let some : first_is.0 ≡ q = cc in
    let old : drop 1 (posts_from now (suc n) place) ≡ q ∷ rest = behind_first now k n place chain.0 ∙ first_is.2 ∙ ap (λ r. r ∷ rest) some in
    let out : posts_from final (suc n) place ≡ q ∷ posts_from final n y =
    ap (λ node. option_to_list (kept_post node) ++ posts_from final n node.next) at
    ∙ ap (λ o. option_to_list o ++ posts_from final n (node_at new place).next) w.here
    ∙ ap (λ x. q ∷ posts_from final n x) w.next in
    leads final agree whole
    (out ∙ ap (λ posts. q ∷ posts) (posts ∙ ap (λ r. with_post (drop 1 r) p) behind.1) ∙ sym (ap (λ r. with_post r p) old ∙ with_post-pass p q rest early))

-- the post stands where it goes
pub settled : (now new : List Node) (k n place : ℕ) (p : Post) (m first : ℕ) (all : List Post)
    → Leads now k n place p m first all → Written now new k n place p
    → with_post (drop 1 (posts_from now n place)) p ≡ p ∷ drop 1 (posts_from now n place)
    → IsChain new k m first × (posts_from new m first ≡ all)
settled now new k n place p m first all leads w stands =
    leads new (λ i x beyond h. w.slot i x (λ e. absurd (omega arith)) h) w.chain (w.posts ∙ sym stands)

-- ---- a node is put before a chain, and the first of a chain is taken away

-- a node that is written where there was no post keeps all others
written_keeps : (nodes new : List Node) (place : ℕ) (node : Node) → IsWritten nodes new place node → KeepsAll nodes new
written_keeps nodes new place node w j n x h = w.2 x (λ e. free_holds_none nodes place j n w.0 (subst (HoldsPost nodes j n) e h))

-- it becomes the first of a slot
put_before : (nodes new : List Node) (k place : ℕ) (slot : Option ℕ) (p : Post) (next behind : ℕ)
    → IsWritten nodes new place (node_of p next behind) → IsSlot nodes k slot → p.due % 256 ≡ k
    → next ≡ unwrap_or slot 4294967295 → behind ≡ chain_len nodes slot
    → IsSlot new k (Some place) × (slot_posts new (Some place) ≡ p ∷ slot_posts nodes slot) × KeepsAll nodes new
put_before nodes new k place None p next behind w chain is link count =
    let now : kept_post (node_at new place) ≡ Some p = ap kept_post w.1 in
    let last : (node_at new place).behind ≡ zero = ap (λ n. n.behind) w.1 ∙ count in
    let head : HoldsPost new k zero place = (last, subst (λ o. IsSomeAnd o (λ q. q.due % 256 ≡ k)) (sym now) is) in (
      subst (λ n. IsChain new k n place) (sym last) head,
      ap (λ n. posts_from new n place) last ∙ ap option_to_list now,
      written_keeps nodes new place (node_of p next behind) w,
    )
put_before nodes new k place (Some first) p next behind w chain is link count =
    let now : kept_post (node_at new place) ≡ Some p = ap kept_post w.1 in
    let c = (node_at nodes first).behind in
    let keeps : KeepsAll nodes new = written_keeps nodes new place (node_of p next behind) w in
    let deep = chain_same nodes new k c first chain (λ m x within. keeps k m x) in
    let more : (node_at new place).behind ≡ suc c = ap (λ n. n.behind) w.1 ∙ count ∙ add-one c in
    let onward : (node_at new place).next ≡ first = ap (λ n. n.next) w.1 ∙ link in
    let head : HoldsPost new k (suc c) place = (more, subst (λ o. IsSomeAnd o (λ q. q.due % 256 ≡ k)) (sym now) is) in
    let whole : IsChain new k (suc c) place = (head, subst (IsChain new k c) (sym onward) deep.0) in (
      subst (λ n. IsChain new k n place) (sym more) whole,
      ap (λ n. posts_from new n place) more
          ∙ ap (λ o. option_to_list o ++ posts_from new c (node_at new place).next) now
          ∙ ap (λ x. p ∷ posts_from new c x) onward ∙ ap (λ posts. p ∷ posts) deep.1,
      keeps,
    )

-- with the posts that were there behind it
pub inserted : (old new : List Node) (k place : ℕ) (slot : Option ℕ) (p : Post) (next behind : ℕ)
    → IsWritten old new place (node_of p next behind) → IsSlot old k slot → p.due % 256 ≡ k
    → next ≡ unwrap_or slot 4294967295 → behind ≡ chain_len old slot
    → IsSlot new k (Some place) × (drop 1 (slot_posts new (Some place)) ≡ slot_posts old slot) × KeepsAll old new
inserted old new k place slot p next behind w chain is link count =
    let put = put_before old new k place slot p next behind w chain is link count in
    (put.0, ap (λ posts. drop 1 posts) put.1, put.2)

-- what a lent slice leaves in its list
pub replaced_all : (old new : List Node) (n : ℕ) → n ≡ length old → length new ≡ length old → take n (new ++ drop (length new) old) ≡ new
replaced_all old new n size same =
    ap (λ xs. take n (new ++ xs)) (drop_all (length new) old (omega arith)) ∙ ap (take n) (append-nil new) ∙ take_all n new (omega arith)

-- the first node of a slot becomes free
abbrev TakesAway : (nodes new : List Node) (k place : ℕ) → Type 0
TakesAway nodes new k place =
    let rest = rest_of (node_at nodes place) in
    (p : Post) × (kept_post (node_at nodes place) ≡ Some p) × (slot_posts nodes (Some place) ≡ p ∷ slot_posts new rest) × IsSlot new k rest × ((j : ℕ) → j ≢ k → KeepsSlot nodes new j)

take_away-at : (nodes : List Node) (k n place : ℕ) (node : Node) → (node_at nodes place).behind ≡ n → IsChain nodes k n place → kept_post node ≡ None
    → TakesAway nodes (set nodes place node) k place
take_away-at nodes k zero place node last chain free =
    let new = set nodes place node in
    let held = held_post nodes k zero place chain in
    let rest : rest_of (node_at nodes place) ≡ None = ap (λ n. if n == 0 then None else Some (node_at nodes place).next) last in (
      held.0,
      held.1,
      ap (λ n. posts_from nodes n place) last ∙ ap option_to_list held.1 ∙ ap (λ slot. held.0 ∷ slot_posts new slot) (sym rest),
      subst (IsSlot new k) (sym rest) tt,
      λ j apart. set_keeps nodes place node j (other_holds_none nodes place k j zero chain apart),
    )
take_away-at nodes k (suc n) place node more chain free =
    let new = set nodes place node in
    let y = (node_at nodes place).next in
    let held = held_post nodes k (suc n) place chain.0 in
    let some : ((node_at nodes place).behind == 0) ≡ false = grind (arith, nat_tests) in
    let rest : rest_of (node_at nodes place) ≡ Some y = ap (λ b. if b then None else Some y) some in
    let same : (m x : ℕ) → m ≤ n → HoldsPost nodes k m x → node_at new x ≡ node_at nodes x = λ m x within h.
    get_or-set_other nodes place x node blank (λ e. let twice = same_node nodes k k m (suc n) place (subst (HoldsPost nodes k m) e h) chain.0 in absurd (omega (arith, twice.1, within))) in
    let deep = chain_same nodes new k n y chain.1 same in
    let head : HoldsPost nodes k n y = chain_head nodes k n y chain.1 in
    let count : (node_at new y).behind ≡ n = ap (λ x. x.behind) (same n y (omega arith) head) ∙ head.0 in (
      held.0,
      held.1,
      ap (λ n. posts_from nodes n place) more ∙ ap (λ o. option_to_list o ++ posts_from nodes n y) held.1
          ∙ ap (λ posts. held.0 ∷ posts) (sym deep.1 ∙ ap (λ m. posts_from new m y) (sym count)) ∙ ap (λ slot. held.0 ∷ slot_posts new slot) (sym rest),
      subst (IsSlot new k) (sym rest) (subst (λ m. IsChain new k m y) (sym count) deep.0),
      λ j apart. set_keeps nodes place node j (other_holds_none nodes place k j (suc n) chain.0 apart),
    )

pub take_away : (nodes : List Node) (k place : ℕ) (node : Node) → IsSlot nodes k (Some place) → kept_post node ≡ None → TakesAway nodes (set nodes place node) k place
take_away nodes k place node chain free = take_away-at nodes k (node_at nodes place).behind place node refl chain free

-- ---- the place behind a place

rest_at : (nodes : List Node) (k n place next : ℕ) → (node_at nodes place).behind ≡ n → IsChain nodes k n place → rest_of (node_at nodes place) ≡ Some next
    → (m : ℕ) × ((node_at nodes place).behind ≡ suc m) × (next ≡ (node_at nodes place).next) × HoldsPost nodes k (suc m) place × IsChain nodes k m next
rest_at nodes k zero place next e chain is =
    absurd (let none : rest_of (node_at nodes place) ≡ None = ap (λ n. if n == 0 then None else Some (node_at nodes place).next) e in let no : Some next ≡ None = sym is ∙ none in cc)
rest_at nodes k (suc m) place next e chain is =
    let y = (node_at nodes place).next in
    let some : ((node_at nodes place).behind == 0) ≡ false = grind (arith, nat_tests) in
    let rest : rest_of (node_at nodes place) ≡ Some y = ap (λ b. if b then None else Some y) some in
    let both : Some next ≡ Some y = sym is ∙ rest in
    let same : next ≡ y = cc in
    (m, e, same, chain.0, subst (IsChain nodes k m) (sym same) chain.1)

pub rest_place : (nodes : List Node) (k place next : ℕ) → IsSlot nodes k (Some place) → rest_of (node_at nodes place) ≡ Some next
    → (m : ℕ) × ((node_at nodes place).behind ≡ suc m) × (next ≡ (node_at nodes place).next) × HoldsPost nodes k (suc m) place × IsChain nodes k m next
rest_place nodes k place next chain is = rest_at nodes k (node_at nodes place).behind place next refl chain is

pub rest_within : (nodes : List Node) (k place next : ℕ) → IsSlot nodes k (Some place) → rest_of (node_at nodes place) ≡ Some next → next < length nodes
rest_within nodes k place next chain is =
    let rest = rest_place nodes k place next chain is in held_within nodes k rest.0 next (chain_head nodes k rest.0 next rest.4)

-- the posts behind the first are those from the next place on
rest_posts : (nodes : List Node) (k place next : ℕ) → IsSlot nodes k (Some place) → rest_of (node_at nodes place) ≡ Some next
    → (q : Post) × (kept_post (node_at nodes next) ≡ Some q) × (posts : List Post) × (drop 1 (slot_posts nodes (Some place)) ≡ q ∷ posts)
rest_posts nodes k place next chain is =
    let rest = rest_place nodes k place next chain is in
    let m = rest.0 in
    let head = chain_posts nodes k m next rest.4 in (
      head.0,
      head.1,
      drop 1 (posts_from nodes m next),
      ap (λ n. drop 1 (posts_from nodes n place)) rest.1 ∙ behind_first nodes k m place rest.3 ∙ ap (posts_from nodes m) (sym rest.2) ∙ head.2,
    )

-- a post before the next one, and before none
stands_before : (nodes : List Node) (k place next : ℕ) (p q : Post) → IsSlot nodes k (Some place) → rest_of (node_at nodes place) ≡ Some next
    → kept_post (node_at nodes next) ≡ Some q → is_later q p ≡ true → StandsBefore nodes place p
stands_before nodes k place next p q chain is here later =
    let rest = rest_posts nodes k place next chain is in
    let both : Some rest.0 ≡ Some q = sym rest.1 ∙ here in
    let same : rest.0 ≡ q = cc in
    let posts : drop 1 (slot_posts nodes (Some place)) ≡ q ∷ rest.2 = rest.3 ∙ ap (λ x. x ∷ rest.2) same in
    ap (λ xs. with_post xs p) posts ∙ with_post-stop p q rest.2 later ∙ ap (λ xs. p ∷ xs) (sym posts)

last_stands : (nodes : List Node) (k n place : ℕ) (p : Post) → (node_at nodes place).behind ≡ n → IsChain nodes k n place → rest_of (node_at nodes place) ≡ None → StandsBefore nodes place p
last_stands nodes k zero place p e chain is =
    let none : drop 1 (slot_posts nodes (Some place)) ≡ [] = ap (λ n. drop 1 (posts_from nodes n place)) e ∙ behind_last nodes k place chain in
    ap (λ xs. with_post xs p) none ∙ ap (λ xs. p ∷ xs) (sym none)
last_stands nodes k (suc m) place p e chain is =
    absurd (let some : ((node_at nodes place).behind == 0) ≡ false = grind (arith, nat_tests) in
    let rest : rest_of (node_at nodes place) ≡ Some (node_at nodes place).next = ap (λ b. if b then None else Some (node_at nodes place).next) some in
    let no : None ≡ Some (node_at nodes place).next = sym is ∙ rest in cc)

pub stands_last : (nodes : List Node) (k place : ℕ) (p : Post) → IsSlot nodes k (Some place) → rest_of (node_at nodes place) ≡ None → StandsBefore nodes place p
stands_last nodes k place p chain is = last_stands nodes k (node_at nodes place).behind place p refl chain is

-- the next place has a post
rest_kept : (nodes : List Node) (k place next : ℕ) → IsSlot nodes k (Some place) → rest_of (node_at nodes place) ≡ Some next
    → kept_post (node_at nodes next) ≡ Some (node_at nodes next).post
rest_kept nodes k place next chain is =
    let rest = rest_posts nodes k place next chain is in
    rest.1 ∙ ap Some (sym (kept_is (node_at nodes next) rest.0 rest.1))

-- which comes later than another, or doesn't
pub next_later : (nodes : List Node) (k place next : ℕ) (p : Post) → IsSlot nodes k (Some place) → rest_of (node_at nodes place) ≡ Some next
    → is_later (node_at nodes next).post p ≡ true → StandsBefore nodes place p
next_later nodes k place next p chain is later =
    stands_before nodes k place next p (node_at nodes next).post chain is (rest_kept nodes k place next chain is) later

pub next_no_later : (nodes : List Node) (k place next : ℕ) (p : Post) → IsSlot nodes k (Some place) → rest_of (node_at nodes place) ≡ Some next
    → is_later (node_at nodes next).post p ≡ false → IsNextNoLater nodes place p next
next_no_later nodes k place next p chain is early =
    let rest = rest_place nodes k place next chain is in
    (omega (arith, rest.1), rest.2, subst (λ o. IsSomeAnd o (λ q. is_later q p ≡ false)) (sym (rest_kept nodes k place next chain is)) early)

-- ---- one step of settling

some_that : {X : Type 0} (P : X → Type 0) (o : Option X) → IsSomeAnd o P → (x : X) × (o ≡ Some x) × P x
some_that P None h = absurd h
some_that P (Some x) h = (x, refl, h)

-- what a step keeps
abbrev Steps : (now new : List Node) (k next : ℕ) (p : Post) (m first : ℕ) (all : List Post) (bound : ℕ) → Type 0
Steps now new k next p m first all bound =
    IsSlot new k (Some next) × Leads new k (node_at new next).behind next p m first all × ((j : ℕ) → j ≢ k → KeepsSlot now new j) × ((node_at new next).behind < bound)

step_at : (now new : List Node) (k n place : ℕ) (p q : Post) (m first : ℕ) (all : List Post)
    → IsChain now k (suc n) place → Leads now k (suc n) place p m first all
    → kept_post (node_at now (node_at now place).next) ≡ Some q → is_later q p ≡ false
    → Written now new k (suc n) place q
    → Steps now new k (node_at now place).next p m first all (suc n)
step_at now new k n place p q m first all chain leads here early w =
    let y = (node_at now place).next in
    let deep = chain_same now new k n y chain.1 (λ i x within h. w.slot i x (λ e. absurd (omega arith)) h) in
    let count : (node_at new y).behind ≡ n = (chain_head new k n y deep.0).0 in (
      subst (λ i. IsChain new k i y) (sym count) deep.0,
      subst (λ i. Leads new k i y p m first all) (sym count) (leads_more now new k n place p q m first all leads chain here early w),
      w.others,
      omega (arith, count),
    )

pub step : (now : List Node) (k place next : ℕ) (p : Post) (m first : ℕ) (all : List Post)
    → IsSlot now k (Some place) → Leads now k (node_at now place).behind place p m first all → IsNextNoLater now place p next
    → Steps now (set now place (record (node_at now place) { post = (node_at now next).post })) k next p m first all (node_at now place).behind
step now k place next p m first all chain leads go =
    let y = (node_at now place).next in
    let found = some_that (λ q. is_later q p ≡ false) (kept_post (node_at now next)) go.2 in
    let q = found.0 in
    let n = (node_at now place).behind - 1 in
    let more : (node_at now place).behind ≡ suc n = omega (arith, go.0) in
    let whole : IsChain now k (suc n) place = subst (λ i. IsChain now k i place) more chain in
    let at_next : kept_post (node_at now y) ≡ Some q = ap (λ x. kept_post (node_at now x)) (sym go.1) ∙ found.1 in
    let held = held_post now k n y (chain_head now k n y whole.1) in
    let both : Some held.0 ≡ Some q = sym held.1 ∙ at_next in
    let same : held.0 ≡ q = cc in
    let w = written now k (suc n) place q whole (ap (λ x. x.due % 256) (sym same) ∙ held.2) in
    let steps = step_at now (set now place (record (node_at now place) { post = q })) k n place p q m first all whole (subst (λ i. Leads now k i place p m first all) more leads) at_next found.2 w in
    subst (λ r. Steps now (set now place (record (node_at now place) { post = r })) k next p m first all (node_at now place).behind) (sym (kept_is (node_at now next) q found.1))
    (subst (λ x. Steps now (set now place (record (node_at now place) { post = q })) k x p m first all (node_at now place).behind) (sym go.1)
    (subst (λ i. Steps now (set now place (record (node_at now place) { post = q })) k y p m first all i) (sym more) steps))

-- the last write
pub last_step : (now : List Node) (k place : ℕ) (p : Post) (m first : ℕ) (all : List Post)
    → IsSlot now k (Some place) → Leads now k (node_at now place).behind place p m first all → p.due % 256 ≡ k → StandsBefore now place p
    → let new = set now place (record (node_at now place) { post = p }) in
    IsSlot new k (Some first) × (slot_posts new (Some first) ≡ all) × ((j : ℕ) → j ≢ k → KeepsSlot now new j)
last_step now k place p m first all chain leads is stands =
    let n = (node_at now place).behind in
    let new = set now place (record (node_at now place) { post = p }) in
    let w = written now k n place p chain is in
    let done = settled now new k n place p m first all leads w stands in
    let count : (node_at new first).behind ≡ m = (chain_head new k m first done.0).0 in
    (subst (λ i. IsChain new k i first) (sym count) done.0, ap (λ i. posts_from new i first) count ∙ done.1, w.others)
