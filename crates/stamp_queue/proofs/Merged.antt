-- Posts put one after another into a list in order.
use Rattle.std.proofs.Common.{◌≡◌, ◌≢◌, ◌∙◌, ℕ, ◌+◌, ◌^◌, ◌<◌, ◌≤◌, zero, suc, true, false, List, [], ◌∷◌, length, refl, sym, ap, subst, arith, min, inl, inr}
use Rattle.std.specs.List.{AllByRecursion}
use Rattle.std.proofs.lemmas.Bool.{cases_eq, cases_lt}
use Rattle.slack_base.specs.declared.messages.Post.{Post}
use Rattle.slack_base.specs.Inboxes.{is_later, with_post}
use Rattle.stamp_queue.specs.Inbox.{IsInOrder, next_due}
use Rattle.stamp_queue.specs.Merged.{with_posts, with_slots}
use Rattle.stamp_queue.proofs.Order.{no_later_than, no_later_back, due_no_later}
use Rattle.stamp_queue.proofs.Places.{weaker, with_post-pass, with_post-stop, later_all, all_with, in_order-with_post}

-- of two posts of different dues one comes later
pub later_due : (q p : Post) → p.due < q.due → is_later q p ≡ true
later_due q p h =
    elim (is_later q p) as (λ b. is_later q p ≡ b → b ≡ true) [
      | true ↦ λ _. refl
      | false ↦ λ e. absurd (let d = due_no_later q p e in omega (arith, d, h))
    ] refl

-- where one comes later, it is the same in which order the two are put
either_order : (inbox : List Post) (p q : Post) → is_later q p ≡ true → with_post (with_post inbox p) q ≡ with_post (with_post inbox q) p
either_order [] p q h = with_post-pass q p [] (no_later_back q p h) ∙ sym (with_post-stop p q [] h)
either_order (x ∷ inbox) p q h =
    let back = no_later_back q p h in
    let put = λ (r : Post) (posts : List Post). with_post posts r in
    elim (is_later x p) as (λ b. is_later x p ≡ b → with_post (with_post (x ∷ inbox) p) q ≡ with_post (with_post (x ∷ inbox) q) p) [
      | true ↦ λ e.
          let one : with_post (with_post (x ∷ inbox) p) q ≡ p ∷ with_post (x ∷ inbox) q = ap (put q) (with_post-stop p x inbox e) ∙ with_post-pass q p (x ∷ inbox) back in
          let other : with_post (with_post (x ∷ inbox) q) p ≡ p ∷ with_post (x ∷ inbox) q = elim (is_later x q) as (λ b. is_later x q ≡ b → with_post (with_post (x ∷ inbox) q) p ≡ p ∷ with_post (x ∷ inbox) q) [
            | true ↦ λ f. let is = with_post-stop q x inbox f in ap (put p) is ∙ with_post-stop p q (x ∷ inbox) h ∙ ap (λ posts. p ∷ posts) (sym is)
            | false ↦ λ f. let is = with_post-pass q x inbox f in ap (put p) is ∙ with_post-stop p x (with_post inbox q) e ∙ ap (λ posts. p ∷ posts) (sym is)
          ] refl in
          one ∙ sym other
      | false ↦ λ e.
          let f = no_later_than x p q e back in
          ap (put q) (with_post-pass p x inbox e) ∙ with_post-pass q x (with_post inbox p) f
          ∙ ap (λ posts. x ∷ posts) (either_order inbox p q h)
          ∙ sym (ap (put p) (with_post-pass q x inbox f) ∙ with_post-pass p x (with_post inbox q) e)
    ] refl

-- two posts may be put in either order
abbrev Commute : Post → Post → Type 0
Commute p q = (inbox : List Post) → with_post (with_post inbox p) q ≡ with_post (with_post inbox q) p

later_commute : (p q : Post) → is_later q p ≡ true → Commute p q
later_commute p q h inbox = either_order inbox p q h

due_commute : (p q : Post) → q.due ≢ p.due → Commute p q
due_commute p q apart inbox = elim (cases_lt p.due q.due) [
  | inl below ↦ either_order inbox p q (later_due q p below)
  | inr above ↦ sym (either_order inbox q p (later_due p q (let no : q.due ≢ p.due = apart in omega arith)))
]

-- a post that commutes with all of them may be put first or last
past : (posts inbox : List Post) (p : Post) → AllByRecursion (Commute p) posts → with_posts (with_post inbox p) posts ≡ with_post (with_posts inbox posts) p
past [] inbox p all = refl
past (q ∷ posts) inbox p all = ap (λ i. with_posts i posts) (all.0 inbox) ∙ past posts (with_post inbox q) p all.1

-- one whose due none of them has
pub past_dues : (posts inbox : List Post) (p : Post) → AllByRecursion (λ q. q.due ≢ p.due) posts → with_posts (with_post inbox p) posts ≡ with_post (with_posts inbox posts) p
past_dues posts inbox p all = past posts inbox p (weaker (λ q. q.due ≢ p.due) (Commute p) (λ q apart. due_commute p q apart) posts all)

-- a post put among them comes out in its place
pub put_among : (posts inbox : List Post) (p : Post) → IsInOrder posts → with_posts inbox (with_post posts p) ≡ with_post (with_posts inbox posts) p
put_among [] inbox p o = refl
put_among (q ∷ posts) inbox p o =
    elim (is_later q p) as (λ b. is_later q p ≡ b → with_posts inbox (with_post (q ∷ posts) p) ≡ with_post (with_posts inbox (q ∷ posts)) p) [
      | true ↦ λ h.
          let all : AllByRecursion (λ r. is_later r p ≡ true) (q ∷ posts) = (h, later_all p q posts h o.0) in
          ap (with_posts inbox) (with_post-stop p q posts h)
          ∙ past (q ∷ posts) inbox p (weaker (λ r. is_later r p ≡ true) (Commute p) (λ r later. later_commute p r later) (q ∷ posts) all)
      | false ↦ λ h. ap (with_posts inbox) (with_post-pass p q posts h) ∙ put_among posts (with_post inbox q) p o.1
    ] refl

-- a first post stays the first, where none of them is sooner
pub stays_first : (posts inbox : List Post) (p : Post) → AllByRecursion (λ q. is_later p q ≡ false) posts → with_posts (p ∷ inbox) posts ≡ p ∷ with_posts inbox posts
stays_first [] inbox p all = refl
stays_first (q ∷ posts) inbox p all =
    ap (λ i. with_posts i posts) (with_post-pass q p inbox all.0) ∙ stays_first posts (with_post inbox q) p all.1

-- a post before all of them
pub put_first : (inbox : List Post) (p : Post) → AllByRecursion (λ q. is_later q p ≡ true) inbox → with_post inbox p ≡ p ∷ inbox
put_first [] p all = refl
put_first (q ∷ inbox) p all = with_post-stop p q inbox all.0

pub in_order-with_posts : (posts inbox : List Post) → IsInOrder inbox → IsInOrder (with_posts inbox posts)
in_order-with_posts [] inbox o = o
in_order-with_posts (p ∷ posts) inbox o = in_order-with_posts posts (with_post inbox p) (in_order-with_post inbox p o)

-- what is so of each post of two lists, and of each of one put into the other
pub all_with_posts : (P : Post → Type 0) (posts inbox : List Post) → AllByRecursion P inbox → AllByRecursion P posts → AllByRecursion P (with_posts inbox posts)
all_with_posts P [] inbox old new = old
all_with_posts P (p ∷ posts) inbox old new = all_with_posts P posts (with_post inbox p) (all_with P inbox p new.0 old) new.1

all_of_with : (P : Post → Type 0) (inbox : List Post) (p : Post) → AllByRecursion P (with_post inbox p) → P p × AllByRecursion P inbox
all_of_with P [] p all = (all.0, tt)
all_of_with P (q ∷ inbox) p all =
    elim (is_later q p) as (λ b. is_later q p ≡ b → P p × AllByRecursion P (q ∷ inbox)) [
      | true ↦ λ h. let rest = subst (AllByRecursion P) (with_post-stop p q inbox h) all in (rest.0, rest.1)
      | false ↦ λ h. let rest = subst (AllByRecursion P) (with_post-pass p q inbox h) all in let deep = all_of_with P inbox p rest.1 in (deep.0, (rest.0, deep.1))
    ] refl

pub all_of_with_posts : (P : Post → Type 0) (posts inbox : List Post) → AllByRecursion P (with_posts inbox posts) → AllByRecursion P inbox × AllByRecursion P posts
all_of_with_posts P [] inbox all = (all, tt)
all_of_with_posts P (p ∷ posts) inbox all =
    let deep = all_of_with_posts P posts (with_post inbox p) all in
    let one = all_of_with P inbox p deep.0 in
    (one.1, (one.0, deep.1))

pub length-with_post : (inbox : List Post) (p : Post) → length (with_post inbox p) ≡ length inbox + 1
length-with_post [] p = refl
length-with_post (q ∷ inbox) p =
    elim (is_later q p) as (λ b. is_later q p ≡ b → length (with_post (q ∷ inbox) p) ≡ length (q ∷ inbox) + 1) [
      | true ↦ λ h. ap length (with_post-stop p q inbox h) ∙ omega arith
      | false ↦ λ h. let deep = length-with_post inbox p in ap length (with_post-pass p q inbox h) ∙ omega (arith, deep)
    ] refl

pub length-with_posts : (posts inbox : List Post) → length (with_posts inbox posts) ≡ length inbox + length posts
length-with_posts [] inbox = omega arith
length-with_posts (p ∷ posts) inbox =
    let deep = length-with_posts posts (with_post inbox p) in
    let one = length-with_post inbox p in
    omega (arith, deep, one)

-- the due of the first post
pub next_due-with_post : (inbox : List Post) (p : Post) → p.due < 2 ^ 64 → next_due (with_post inbox p) ≡ min (next_due inbox) p.due
next_due-with_post [] p fits = omega arith
next_due-with_post (q ∷ inbox) p fits =
    elim (is_later q p) as (λ b. is_later q p ≡ b → next_due (with_post (q ∷ inbox) p) ≡ min q.due p.due) [
      | true ↦ λ h. let d = due_no_later p q (no_later_back q p h) in ap next_due (with_post-stop p q inbox h) ∙ omega (arith, d)
      | false ↦ λ h. let d = due_no_later q p h in ap next_due (with_post-pass p q inbox h) ∙ omega (arith, d)
    ] refl

-- no post of a list in order is due before its first
pub none_sooner : (inbox : List Post) → IsInOrder inbox → AllByRecursion (λ q. next_due inbox ≤ q.due) inbox
none_sooner [] o = tt
none_sooner (p ∷ inbox) o = (omega arith, weaker (λ q. is_later p q ≡ false) (λ q. p.due ≤ q.due) (λ q h. due_no_later p q h) inbox o.0)

-- where none of the new posts is due before those that are there, nothing changes
sooner_same : (posts inbox : List Post) (p : Post) → AllByRecursion (λ q. p.due ≤ q.due) posts → next_due (with_posts (p ∷ inbox) posts) ≡ p.due
sooner_same [] inbox p all = refl
sooner_same (q ∷ posts) inbox p all =
    elim (is_later p q) as (λ b. is_later p q ≡ b → next_due (with_posts (p ∷ inbox) (q ∷ posts)) ≡ p.due) [
      | true ↦ λ h.
          let d : q.due ≤ p.due = due_no_later q p (no_later_back p q h) in
          let same : q.due ≡ p.due = omega (arith, all.0, d) in
          ap (λ i. next_due (with_posts i posts)) (with_post-stop q p inbox h)
          ∙ sooner_same posts (p ∷ inbox) q (subst (λ due. AllByRecursion (λ r. due ≤ r.due) posts) (sym same) all.1) ∙ same
      | false ↦ λ h. ap (λ i. next_due (with_posts i posts)) (with_post-pass q p inbox h) ∙ sooner_same posts (with_post inbox q) p all.1
    ] refl

-- of two lists in order the first due is the lesser of theirs
pub next_due-with_posts : (posts inbox : List Post) → IsInOrder posts → IsInOrder inbox → next_due posts < 2 ^ 64 → next_due inbox < 2 ^ 64
    → next_due (with_posts inbox posts) ≡ min (next_due posts) (next_due inbox)
next_due-with_posts [] inbox o p fits other = omega arith
next_due-with_posts (p ∷ posts) [] o i fits other =
    let all = weaker (λ q. is_later p q ≡ false) (λ q. p.due ≤ q.due) (λ q h. due_no_later p q h) posts o.0 in
    sooner_same posts [] p all ∙ omega arith
next_due-with_posts (p ∷ posts) (x ∷ inbox) o i fits other =
    let all = weaker (λ q. is_later p q ≡ false) (λ q. p.due ≤ q.due) (λ q h. due_no_later p q h) posts o.0 in
    elim (is_later x p) as (λ b. is_later x p ≡ b → next_due (with_posts (x ∷ inbox) (p ∷ posts)) ≡ min p.due x.due) [
      | true ↦ λ h.
          let d = due_no_later p x (no_later_back x p h) in
          ap (λ l. next_due (with_posts l posts)) (with_post-stop p x inbox h) ∙ sooner_same posts (x ∷ inbox) p all ∙ omega (arith, d)
      | false ↦ λ h.
          let d = due_no_later x p h in
          let more = weaker (λ q. p.due ≤ q.due) (λ q. x.due ≤ q.due) (λ q g. omega (arith, d, g)) posts all in
          ap (λ l. next_due (with_posts l posts)) (with_post-pass p x inbox h) ∙ sooner_same posts (with_post inbox p) x more ∙ omega (arith, d)
    ] refl

-- ---- slots

module _ (f : ℕ → List Post) where
  pub in_order-with_slots : (n : ℕ) → IsInOrder (with_slots f n)
  unfolding with_slots
  in_order-with_slots zero = tt
  in_order-with_slots (suc n) = in_order-with_posts (f n) (with_slots f n) (in_order-with_slots n)

  pub all_with_slots : (P : Post → Type 0) (n : ℕ) → ((k : ℕ) → k < n → AllByRecursion P (f k)) → AllByRecursion P (with_slots f n)
  unfolding with_slots
  all_with_slots P zero all = tt
  all_with_slots P (suc n) all = all_with_posts P (f n) (with_slots f n) (all_with_slots P n (λ k h. all k (omega arith))) (all n (omega arith))

  pub all_of_with_slots : (P : Post → Type 0) (n : ℕ) → AllByRecursion P (with_slots f n) → (k : ℕ) → k < n → AllByRecursion P (f k)
  unfolding with_slots
  all_of_with_slots P zero all k h = absurd (omega arith)
  all_of_with_slots P (suc n) all k h =
      let parts = all_of_with_posts P (f n) (with_slots f n) all in
      elim (cases_eq k n) [
        | inl same ↦ subst (λ j. AllByRecursion P (f j)) (sym same) parts.1
        | inr other ↦ all_of_with_slots P n parts.0 k (omega arith)
      ]

module _ (f g : ℕ → List Post) (k : ℕ) (others : (j : ℕ) → j ≢ k → g j ≡ f j) where
  -- slots before the one that changed
  slots_same : (n : ℕ) → n ≤ k → with_slots g n ≡ with_slots f n
  unfolding with_slots
  slots_same zero h = refl
  slots_same (suc n) h = ap (λ i. with_posts i (g n)) (slots_same n (omega arith)) ∙ ap (with_posts (with_slots f n)) (others n (omega arith))

  -- a post is put into a slot
  pub slots_put : (p : Post) → g k ≡ with_post (f k) p → IsInOrder (f k) → ((j : ℕ) → j ≢ k → AllByRecursion (λ q. q.due ≢ p.due) (f j))
      → (n : ℕ) → k < n → with_slots g n ≡ with_post (with_slots f n) p
  unfolding with_slots
  slots_put p here o apart zero h = absurd (omega arith)
  slots_put p here o apart (suc n) h = elim (cases_eq k n) [
    | inl same ↦
        let at : with_posts (with_slots g k) (g k) ≡ with_post (with_posts (with_slots f k) (f k)) p =
        ap (λ i. with_posts i (g k)) (slots_same k (omega arith)) ∙ ap (with_posts (with_slots f k)) here ∙ put_among (f k) (with_slots f k) p o in
        subst (λ m. with_posts (with_slots g m) (g m) ≡ with_post (with_posts (with_slots f m) (f m)) p) same at
    | inr other ↦
        ap (λ i. with_posts i (g n)) (slots_put p here o apart n (omega arith)) ∙ ap (with_posts (with_post (with_slots f n) p)) (others n (λ e. other (sym e)))
        ∙ past_dues (f n) (with_slots f n) p (apart n (λ e. other (sym e)))
  ]

  -- the first post of all is taken out of its slot
  pub slots_take : (p : Post) → f k ≡ p ∷ g k → AllByRecursion (λ q. is_later p q ≡ false) (g k) → ((j : ℕ) → j ≢ k → AllByRecursion (λ q. p.due < q.due) (f j))
      → (n : ℕ) → k < n → with_slots f n ≡ p ∷ with_slots g n
  unfolding with_slots
  slots_take p here least behind zero h = absurd (omega arith)
  slots_take p here least behind (suc n) h = elim (cases_eq k n) [
    | inl same ↦
        let before : AllByRecursion (λ q. is_later q p ≡ true) (with_slots f k) =
        all_with_slots f (λ q. is_later q p ≡ true) k (λ j within. weaker (λ q. p.due < q.due) (λ q. is_later q p ≡ true) (λ q d. later_due q p d) (f j) (behind j (omega arith))) in
        let at : with_posts (with_slots f k) (f k) ≡ p ∷ with_posts (with_slots g k) (g k) =
        ap (with_posts (with_slots f k)) here ∙ ap (λ i. with_posts i (g k)) (put_first (with_slots f k) p before)
        ∙ stays_first (g k) (with_slots f k) p least ∙ ap (λ i. p ∷ with_posts i (g k)) (sym (slots_same k (omega arith))) in
        subst (λ m. with_posts (with_slots f m) (f m) ≡ p ∷ with_posts (with_slots g m) (g m)) same at
    | inr other ↦
        let no_later : AllByRecursion (λ q. is_later p q ≡ false) (f n) =
        weaker (λ q. p.due < q.due) (λ q. is_later p q ≡ false) (λ q d. no_later_back q p (later_due q p d)) (f n) (behind n (λ e. other (sym e))) in
        ap (λ i. with_posts i (f n)) (slots_take p here least behind n (omega arith)) ∙ stays_first (f n) (with_slots g n) p no_later
        ∙ ap (λ posts. p ∷ with_posts (with_slots g n) posts) (sym (others n (λ e. other (sym e))))
  ]
