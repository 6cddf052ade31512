-- The slots of a wheel: each is a chain of nodes.
use Rattle.std.specs.Prelude.{◌≡◌, ◌≢◌, ℕ, ◌+◌, ◌%◌, ◌<◌, ◌==◌, zero, suc, List, [], ◌∷◌, ◌++◌, drop, false, true, length, slice_index_or, IfSome, IsSomeAnd, if◌then◌else◌}
use Rattle.std.specs.declared.option.Option.{Option}
use Rattle.std.specs.declared.option.Option.TheVariants.{None, Some}
use Rattle.std.specs.Option.{option_to_list}
use Rattle.slack_base.specs.declared.messages.Post.{Post}
use Rattle.slack_base.specs.declared.messages.PostKind.TheVariants.{Reply}
use Rattle.slack_base.specs.Inboxes.{is_later, with_post}
use Rattle.stamp_queue.specs.declared.inbox.nodes.Node.{Node}

-- a free node
abbrev pub blank : Node
blank = record { post = record { to = 0; due = 0; id = record { cycle = 0; core = 0; number = 0 }; line = 0; kind = Reply false (record { w0 = 0; w1 = 0; w2 = 0; w3 = 0 }) }; next = 0; behind = 0; is_used = false }

-- the post of a node: none where it is free
abbrev pub kept_post : Node → Option Post
kept_post node = if node.is_used then Some node.post else None

abbrev pub node_at : List Node → ℕ → Node
node_at nodes place = slice_index_or nodes place blank

-- the posts of a chain, from a place on, with so many nodes behind it
abbrev pub posts_from : List Node → ℕ → ℕ → List Post
posts_from nodes zero place = option_to_list (kept_post (node_at nodes place))
posts_from nodes (suc n) place = option_to_list (kept_post (node_at nodes place)) ++ posts_from nodes n (node_at nodes place).next

-- the posts of a slot whose first has this place
abbrev pub slot_posts : List Node → Option ℕ → List Post
slot_posts nodes None = []
slot_posts nodes (Some place) = posts_from nodes (node_at nodes place).behind place

-- the node at a place has a post of the slot, and so many nodes behind it
abbrev pub HoldsPost : List Node → ℕ → ℕ → ℕ → Type 0
HoldsPost nodes slot n place = ((node_at nodes place).behind ≡ n) × IsSomeAnd (kept_post (node_at nodes place)) (λ p. p.due % 256 ≡ slot)

-- each node of a chain has a post of the slot, and one node less behind it than the one before
abbrev pub IsChain : List Node → ℕ → ℕ → ℕ → Type 0
IsChain nodes slot zero place = HoldsPost nodes slot zero place
IsChain nodes slot (suc n) place = HoldsPost nodes slot (suc n) place × IsChain nodes slot n (node_at nodes place).next

-- a slot is empty, or a chain
abbrev pub IsSlot : List Node → ℕ → Option ℕ → Type 0
IsSlot nodes slot None = Unit {0}
IsSlot nodes slot (Some place) = IsChain nodes slot (node_at nodes place).behind place

-- how many posts a slot has
abbrev pub chain_len : List Node → Option ℕ → ℕ
chain_len nodes None = 0
chain_len nodes (Some place) = (node_at nodes place).behind + 1

-- the slot without the node that was its first
abbrev pub rest_of : Node → Option ℕ
rest_of node = if node.behind == 0 then None else Some node.next

-- all nodes that have posts of the slot are as they were
abbrev pub KeepsSlot : List Node → List Node → ℕ → Type 0
KeepsSlot old new slot = (n place : ℕ) → HoldsPost old slot n place → node_at new place ≡ node_at old place

-- each slot is a chain of its own
abbrev pub AreSlots : List Node → List (Option ℕ) → Type 0
AreSlots nodes slots = (k : ℕ) → k < 256 → IsSlot nodes k (slice_index_or slots k None)

-- no post of any slot is lost
abbrev pub KeepsAll : List Node → List Node → Type 0
KeepsAll old new = (slot : ℕ) → KeepsSlot old new slot

-- a place is one of the nodes, with no post
abbrev pub IsFreeIn : List Node → ℕ → Type 0
IsFreeIn nodes place = (place < length nodes) × ((kept_post (node_at nodes place)) ≡ None)

-- a node with a post
abbrev pub node_of : Post → ℕ → ℕ → Node
node_of p next behind = record { post = p; next = next; behind = behind; is_used = true }

-- a node is written to a place that had no post, and all others are as they were
abbrev pub IsWritten : List Node → List Node → ℕ → Node → Type 0
IsWritten old new place node =
    ((kept_post (node_at old place)) ≡ None) × (node_at new place ≡ node) × ((x : ℕ) → x ≢ place → node_at new x ≡ node_at old x)

-- where there is a first place, it is one of the nodes
abbrev pub HasPlace : List Node → Option ℕ → Type 0
HasPlace nodes first = IfSome first (λ place. place < length nodes)

-- the post goes before all that stand behind the place
abbrev pub StandsBefore : List Node → ℕ → Post → Type 0
StandsBefore nodes place p = with_post (drop 1 (slot_posts nodes (Some place))) p ≡ p ∷ drop 1 (slot_posts nodes (Some place))

-- the next place of the slot has a post that is no later
abbrev pub IsNextNoLater : List Node → ℕ → Post → ℕ → Type 0
IsNextNoLater nodes place p next =
    (0 < (node_at nodes place).behind) × (next ≡ (node_at nodes place).next) × IsSomeAnd (kept_post (node_at nodes next)) (λ q. is_later q p ≡ false)
