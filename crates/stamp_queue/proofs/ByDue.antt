-- Posts by due, in order of their dues.
use Rattle.std.proofs.Common.{◌≡◌, ◌≢◌, ◌∙◌, ℕ, ◌<◌, true, false, cond, List, [], ◌∷◌, ◌++◌, drop, refl, sym, ap, subst, arith, inl, inr, None, Some, Less, Equal, Greater, nat_cmp, Bool, MatchBool}
use Rattle.std.specs.declared.cmp.Ordering.{Ordering}
use Rattle.std.specs.List.{AllByRecursion, slice_get}
use Rattle.std.specs.List.Sorted.{IsStrictlySortedBy}
use Rattle.std.specs.Option.{is_some}
use Rattle.std.specs.Ordering.{is_eq, match_ordering}
use Rattle.std.specs.Cmp.{nat_cmp_is}
use Rattle.std.specs.Map.{keys_of, lookup, set_value, remove_entry}
use Rattle.std.specs.BTreeMap.{is_at, insert_entry}
use Rattle.std.proofs.lemmas.Bool.{cases_order}
use Rattle.std.proofs.lemmas.Cmp.{nat_cmp_total}
use Rattle.std.proofs.lemmas.Map.{lookup-none}
use Rattle.std.proofs.lemmas.Map.Entries.{none_below_head}
use Rattle.std.proofs.lemmas.Map.Keys.{sorted_head, sorted_tail}
use Rattle.slack_base.specs.declared.messages.Post.{Post}
use Rattle.slack_base.specs.Inboxes.{is_later, with_post}
use Rattle.stamp_queue.specs.Inbox.{IsInOrder, next_due}
use Rattle.stamp_queue.specs.OffWheel.{all_posts, IsEntry, AreEntries, NoneHasDue}
use Rattle.stamp_queue.proofs.Order.{no_later_back}
use Rattle.stamp_queue.proofs.Places.{weaker, all_with, with_post-pass, with_post-stop, in_order-with_post}
use Rattle.stamp_queue.proofs.Merged.{later_due, put_first}

-- ---- lists

pub all_append : (P : Post → Type 0) (xs ys : List Post) → AllByRecursion P xs → AllByRecursion P ys → AllByRecursion P (xs ++ ys)
all_append P [] ys h g = g
all_append P (x ∷ xs) ys h g = (h.0, all_append P xs ys h.1 g)

pub all_of_append : (P : Post → Type 0) (xs ys : List Post) → AllByRecursion P (xs ++ ys) → AllByRecursion P xs × AllByRecursion P ys
all_of_append P [] ys h = (tt, h)
all_of_append P (x ∷ xs) ys h = let deep = all_of_append P xs ys h.1 in ((h.0, deep.0), deep.1)

-- a post behind a front, and in a front
put_behind : (front posts : List Post) (p : Post) → AllByRecursion (λ q. is_later q p ≡ false) front → with_post (front ++ posts) p ≡ front ++ with_post posts p
put_behind [] posts p h = refl
put_behind (q ∷ front) posts p h = with_post-pass p q (front ++ posts) h.0 ∙ ap (λ xs. q ∷ xs) (put_behind front posts p h.1)

put_within : (front posts : List Post) (p : Post) → AllByRecursion (λ q. is_later q p ≡ true) posts → with_post (front ++ posts) p ≡ with_post front p ++ posts
put_within [] posts p h = put_first posts p h
put_within (q ∷ front) posts p h =
    elim (is_later q p) as (λ b. is_later q p ≡ b → with_post ((q ∷ front) ++ posts) p ≡ with_post (q ∷ front) p ++ posts) [
      | true ↦ λ e. with_post-stop p q (front ++ posts) e ∙ ap (λ xs. xs ++ posts) (sym (with_post-stop p q front e))
      | false ↦ λ e. with_post-pass p q (front ++ posts) e ∙ ap (λ xs. q ∷ xs) (put_within front posts p h) ∙ ap (λ xs. xs ++ posts) (sym (with_post-pass p q front e))
    ] refl

-- ---- dues

same_cmp : (d : ℕ) → nat_cmp d d ≡ Equal
same_cmp d = sym (nat_cmp_is d d Equal refl)

less_cmp : (a b : ℕ) → a < b → nat_cmp a b ≡ Less
less_cmp a b h = sym (nat_cmp_is a b Less h)

more_cmp : (a b : ℕ) → b < a → nat_cmp a b ≡ Greater
more_cmp a b h = sym (nat_cmp_is a b Greater h)

less_lt : (a b : ℕ) → nat_cmp a b ≡ Less → a < b
less_lt a b h = elim (cases_order a b) [
  | inl same ↦ absurd (let no : Less ≡ Equal = sym h ∙ sym (nat_cmp_is a b Equal same) in cc)
  | inr apart ↦ elim apart [
    | inl below ↦ below
    | inr above ↦ absurd (let no : Less ≡ Greater = sym h ∙ more_cmp a b above in cc)
  ]
]

-- all posts behind an entry are due later
pub dues_above : (d : ℕ) (entries : List (ℕ × List Post)) → AllByRecursion (λ k. nat_cmp d k ≡ Less) (keys_of entries) → AreEntries entries → AllByRecursion (λ q. d < q.due) (all_posts entries)
dues_above d [] h are = tt
dues_above d (e ∷ entries) h are =
    all_append (λ q. d < q.due) e.1 (all_posts entries)
    (weaker (λ q. q.due ≡ e.0) (λ q. d < q.due) (λ q is. let above = less_lt d e.0 h.0 in omega (arith, is, above)) e.1 are.0.1)
    (dues_above d entries h.1 are.1)

-- the entry of a due
at_same : (due k : ℕ) → due ≡ k → is_at (nat_cmp due) k ≡ true
at_same due k e = ap (λ d. is_eq (nat_cmp due d)) (sym e) ∙ ap is_eq (same_cmp due)

at_less : (due k : ℕ) → due < k → is_at (nat_cmp due) k ≡ false
at_less due k h = ap is_eq (less_cmp due k h)

at_more : (due k : ℕ) → k < due → is_at (nat_cmp due) k ≡ false
at_more due k h = ap is_eq (more_cmp due k h)

-- no entry has a due that is below the first
none_below : (due : ℕ) (e : ℕ × List Post) (entries : List (ℕ × List Post)) → IsStrictlySortedBy nat_cmp (keys_of (e ∷ entries)) → due < e.0 → lookup (is_at (nat_cmp due)) (e ∷ entries) ≡ None
none_below due e entries o h = lookup-none (is_at (nat_cmp due)) (e ∷ entries) (none_below_head nat_cmp_total due e entries o (less_cmp due e.0 h))

with_some : (posts : List Post) (p : Post) → with_post posts p ≢ []
with_some [] p e = absurd (let no : p ∷ [] ≡ [] = e in cc)
with_some (q ∷ posts) p e =
    elim (is_later q p) as (λ b. is_later q p ≡ b → ⊥) [
      | true ↦ λ h. let no : p ∷ q ∷ posts ≡ [] = sym (with_post-stop p q posts h) ∙ e in absurd cc
      | false ↦ λ h. let no : q ∷ with_post posts p ≡ [] = sym (with_post-pass p q posts h) ∙ e in absurd cc
    ] refl

all_less : (a b : ℕ) (keys : List ℕ) → a < b → AllByRecursion (λ k. nat_cmp b k ≡ Less) keys → AllByRecursion (λ k. nat_cmp a k ≡ Less) keys
all_less a b [] h all = tt
all_less a b (k ∷ keys) h all = (less_cmp a k (let above = less_lt b k all.0 in omega (arith, h, above)), all_less a b keys h all.1)

-- ---- a post is put

-- into an entry that is there
pub put_there : (entries : List (ℕ × List Post)) (posts now : List Post) (p : Post) → IsStrictlySortedBy nat_cmp (keys_of entries) → AreEntries entries
    → lookup (is_at (nat_cmp p.due)) entries ≡ Some posts → now ≡ with_post posts p
    → AreEntries (set_value (is_at (nat_cmp p.due)) entries now) × (all_posts (set_value (is_at (nat_cmp p.due)) entries now) ≡ with_post (all_posts entries) p)
put_there [] posts now p o are found is = absurd (let no : None ≡ Some posts = found in cc)
put_there (e ∷ entries) posts now p o are found is =
    let test = is_at (nat_cmp p.due) in
    let Put : List (ℕ × List Post) → Type 0 = λ es. AreEntries es × (all_posts es ≡ with_post (all_posts (e ∷ entries)) p) in
    elim (cases_order p.due e.0) [
      | inl same ↦
          let at = at_same p.due e.0 same in
          let both : Some e.1 ≡ Some posts = sym (ap (λ b. cond b (Some e.1) (lookup test entries)) at) ∙ found in
          let old : e.1 ≡ posts = cc in
          let now_is : now ≡ with_post e.1 p = is ∙ ap (λ xs. with_post xs p) (sym old) in
          let above = dues_above p.due entries (subst (λ d. AllByRecursion (λ k. nat_cmp d k ≡ Less) (keys_of entries)) (sym same) (sorted_head nat_cmp e.0 (keys_of entries) o)) are.1 in
          let entry : IsEntry (e.0, now) = subst (λ xs. IsEntry (e.0, xs)) (sym now_is)
          (with_some e.1 p, all_with (λ q. q.due ≡ e.0) e.1 p same are.0.1, in_order-with_post e.1 p are.0.2) in
          subst Put (sym (ap (λ b. cond b ((e.0, now) ∷ entries) (e ∷ set_value test entries now)) at)) (
            (entry, are.1),
            ap (λ xs. xs ++ all_posts entries) now_is
                ∙ sym (put_within e.1 (all_posts entries) p (weaker (λ q. p.due < q.due) (λ q. is_later q p ≡ true) (λ q h. later_due q p h) (all_posts entries) above)),
          )
      | inr apart ↦ elim apart [
        | inl below ↦ absurd (let none = none_below p.due e entries o below in let no : None ≡ Some posts = sym none ∙ found in cc)
        | inr more ↦
            let at = at_more p.due e.0 more in
            let deep = put_there entries posts now p (sorted_tail nat_cmp e.0 (keys_of entries) o) are.1 (sym (ap (λ b. cond b (Some e.1) (lookup test entries)) at) ∙ found) is in
            let no_later = weaker (λ q. q.due ≡ e.0) (λ q. is_later q p ≡ false) (λ q d. no_later_back p q (later_due p q (omega (arith, d, more)))) e.1 are.0.1 in
            subst Put (sym (ap (λ b. cond b ((e.0, now) ∷ entries) (e ∷ set_value test entries now)) at))
            ((are.0, deep.0), ap (λ xs. e.1 ++ xs) deep.1 ∙ sym (put_behind e.1 (all_posts entries) p no_later))
      ]
    ]

-- as an entry of its own
pub put_new : (entries : List (ℕ × List Post)) (p : Post) → IsStrictlySortedBy nat_cmp (keys_of entries) → AreEntries entries
    → lookup (is_at (nat_cmp p.due)) entries ≡ None
    → AreEntries (insert_entry nat_cmp entries p.due (p ∷ [])) × (all_posts (insert_entry nat_cmp entries p.due (p ∷ [])) ≡ with_post (all_posts entries) p)
put_new [] p o are none = (((λ e. absurd cc, (refl, tt), (tt, tt)), tt), refl)
put_new (e ∷ entries) p o are none =
    let test = is_at (nat_cmp p.due) in
    let first : List (ℕ × List Post) = (p.due, p ∷ []) ∷ e ∷ entries in
    let Put : List (ℕ × List Post) → Type 0 = λ es. AreEntries es × (all_posts es ≡ with_post (all_posts (e ∷ entries)) p) in
    let rest = insert_entry nat_cmp entries p.due (p ∷ []) in
    let now : Ordering → List (ℕ × List Post) = λ r. match_ordering r first ((e.0, p ∷ []) ∷ entries) (e ∷ rest) in
    elim (cases_order p.due e.0) [
      | inl same ↦ absurd (let some = ap (λ b. cond b (Some e.1) (lookup test entries)) (at_same p.due e.0 same) in let no : None ≡ Some e.1 = sym none ∙ some in cc)
      | inr apart ↦ elim apart [
        | inl below ↦
            let above = dues_above p.due (e ∷ entries) (less_cmp p.due e.0 below, all_less p.due e.0 (keys_of entries) below (sorted_head nat_cmp e.0 (keys_of entries) o)) are in
            subst Put (sym (ap now (less_cmp p.due e.0 below))) (
              ((λ h. absurd cc, (refl, tt), (tt, tt)), are),
              sym (put_first (all_posts (e ∷ entries)) p (weaker (λ q. p.due < q.due) (λ q. is_later q p ≡ true) (λ q h. later_due q p h) (all_posts (e ∷ entries)) above)),
            )
        | inr more ↦
            let at = at_more p.due e.0 more in
            let deep = put_new entries p (sorted_tail nat_cmp e.0 (keys_of entries) o) are.1 (sym (ap (λ b. cond b (Some e.1) (lookup test entries)) at) ∙ none) in
            let no_later = weaker (λ q. q.due ≡ e.0) (λ q. is_later q p ≡ false) (λ q d. no_later_back p q (later_due p q (omega (arith, d, more)))) e.1 are.0.1 in
            subst Put (sym (ap now (more_cmp p.due e.0 more)))
            ((are.0, deep.0), ap (λ xs. e.1 ++ xs) deep.1 ∙ sym (put_behind e.1 (all_posts entries) p no_later))
      ]
    ]

-- a list that is written back as it was
pub same_there : (entries : List (ℕ × List Post)) (posts : List Post) (due : ℕ) → lookup (is_at (nat_cmp due)) entries ≡ Some posts → set_value (is_at (nat_cmp due)) entries posts ≡ entries
same_there [] posts due found = refl
same_there (e ∷ entries) posts due found =
    let test = is_at (nat_cmp due) in
    elim (test e.0) as (λ b. test e.0 ≡ b → set_value test (e ∷ entries) posts ≡ e ∷ entries) [
      | true ↦ λ at.
          let both : Some e.1 ≡ Some posts = sym (ap (λ b. cond b (Some e.1) (lookup test entries)) at) ∙ found in
          let old : posts ≡ e.1 = cc in
          ap (λ b. cond b ((e.0, posts) ∷ entries) (e ∷ set_value test entries posts)) at ∙ ap (λ xs. (e.0, xs) ∷ entries) old
      | false ↦ λ at.
          ap (λ b. cond b ((e.0, posts) ∷ entries) (e ∷ set_value test entries posts)) at
          ∙ ap (λ es. e ∷ es) (same_there entries posts due (sym (ap (λ b. cond b (Some e.1) (lookup test entries)) at) ∙ found))
    ] refl

-- ---- whether a due is there

in_rest : (b : Bool) (e : ℕ × List Post) (rest : List Post) (due : ℕ) → NoneHasDue e.1 due → MatchBool b (NoneHasDue rest due → ⊥) (NoneHasDue rest due)
    → MatchBool b (NoneHasDue (e.1 ++ rest) due → ⊥) (NoneHasDue (e.1 ++ rest) due)
in_rest true e rest due none h = λ all. h (all_of_append (λ q. q.due ≢ due) e.1 rest all).1
in_rest false e rest due none h = all_append (λ q. q.due ≢ due) e.1 rest none h

some_has : (posts : List Post) (due : ℕ) → (posts ≢ []) → AllByRecursion (λ q. q.due ≡ due) posts → NoneHasDue posts due → ⊥
some_has [] due some is none = some refl
some_has (q ∷ posts) due some is none = none.0 is.0

pub has_due : (entries : List (ℕ × List Post)) (due : ℕ) → AreEntries entries
    → MatchBool (is_some (lookup (is_at (nat_cmp due)) entries)) (NoneHasDue (all_posts entries) due → ⊥) (NoneHasDue (all_posts entries) due)
has_due [] due are = tt
has_due (e ∷ entries) due are =
    let test = is_at (nat_cmp due) in
    let Has : Bool → Type 0 = λ b. MatchBool b (NoneHasDue (e.1 ++ all_posts entries) due → ⊥) (NoneHasDue (e.1 ++ all_posts entries) due) in
    let other : due ≢ e.0 → test e.0 ≡ false → Has (is_some (lookup test (e ∷ entries))) = λ apart at.
    subst Has (sym (ap (λ b. is_some (cond b (Some e.1) (lookup test entries))) at))
    (in_rest (is_some (lookup test entries)) e (all_posts entries) due (weaker (λ q. q.due ≡ e.0) (λ q. q.due ≢ due) (λ q d is. apart (sym is ∙ d)) e.1 are.0.1) (has_due entries due are.1)) in
    elim (cases_order due e.0) [
      | inl same ↦
          let is = subst (λ d. AllByRecursion (λ q. q.due ≡ d) e.1) (sym same) are.0.1 in
          subst Has (sym (ap (λ b. is_some (cond b (Some e.1) (lookup test entries))) (at_same due e.0 same)))
          (λ all. some_has e.1 due are.0.0 is (all_of_append (λ q. q.due ≢ due) e.1 (all_posts entries) all).0)
      | inr apart ↦ elim apart [
        | inl below ↦ other (λ e'. absurd (omega (arith, e', below))) (at_less due e.0 below)
        | inr more ↦ other (λ e'. absurd (omega (arith, e', more))) (at_more due e.0 more)
      ]
    ]

-- ---- the first entry

pub first_entry : (entries : List (ℕ × List Post)) (due : ℕ) (posts : List Post) → slice_get entries 0 ≡ Some (due, posts) → entries ≡ (due, posts) ∷ drop 1 entries
first_entry [] due posts h = absurd (let no : None ≡ Some (due, posts) = h in cc)
first_entry (e ∷ entries) due posts h = let both : Some e ≡ Some (due, posts) = h in let same : e ≡ (due, posts) = cc in ap (λ x. x ∷ entries) same

first_is : (due : ℕ) (posts rest : List Post) → (posts ≢ []) → AllByRecursion (λ q. q.due ≡ due) posts → next_due (posts ++ rest) ≡ due
first_is due [] rest some is = absurd (some refl)
first_is due (q ∷ posts) rest some is = is.0

pub first_entry_due : (entries : List (ℕ × List Post)) (due : ℕ) (posts : List Post) → AreEntries entries → slice_get entries 0 ≡ Some (due, posts) → next_due (all_posts entries) ≡ due
first_entry_due entries due posts are h =
    let is = first_entry entries due posts h in
    let here = (subst AreEntries is are).0 in
    ap (λ es. next_due (all_posts es)) is ∙ first_is due posts (all_posts (drop 1 entries)) here.0 here.1

-- the first entry without its first post, and, where that was the last, none
left_there : (entries : List (ℕ × List Post)) (due : ℕ) (old rest : List Post) → slice_get entries 0 ≡ Some (due, old)
    → (set_value (is_at (nat_cmp due)) entries rest ≡ (due, rest) ∷ drop 1 entries) × (remove_entry (is_at (nat_cmp due)) (set_value (is_at (nat_cmp due)) entries rest) ≡ drop 1 entries)
left_there entries due old rest h =
    let test = is_at (nat_cmp due) in
    let after = drop 1 entries in
    let at = at_same due due refl in
    let now : set_value test entries rest ≡ (due, rest) ∷ after =
    ap (λ es. set_value test es rest) (first_entry entries due old h) ∙ ap (λ b. cond b ((due, rest) ∷ after) ((due, old) ∷ set_value test after rest)) at in
    (now, ap (remove_entry test) now ∙ ap (λ b. cond b after ((due, rest) ∷ remove_entry test after)) at)

pub take_there : (entries : List (ℕ × List Post)) (due : ℕ) (p : Post) (old rest : List Post) → AreEntries entries → slice_get entries 0 ≡ Some (due, old) → old ≡ p ∷ rest
    → ((rest ≢ []) → AreEntries (set_value (is_at (nat_cmp due)) entries rest)) × (all_posts entries ≡ p ∷ all_posts (set_value (is_at (nat_cmp due)) entries rest))
take_there entries due p old rest are h is =
    let left = left_there entries due old rest h in
    let first = first_entry entries due old h in
    let all : AreEntries ((due, old) ∷ drop 1 entries) = subst AreEntries first are in
    let due_all : AllByRecursion (λ q. q.due ≡ due) (p ∷ rest) = subst (AllByRecursion (λ q. q.due ≡ due)) is all.0.1 in
    let order : IsInOrder (p ∷ rest) = subst IsInOrder is all.0.2 in (
      λ some. subst AreEntries (sym left.0) ((some, due_all.1, order.1), all.1),
      ap all_posts first ∙ ap (λ xs. xs ++ all_posts (drop 1 entries)) is ∙ ap (λ es. p ∷ all_posts es) (sym left.0),
    )

pub take_last : (entries : List (ℕ × List Post)) (due : ℕ) (p : Post) (old rest : List Post) → AreEntries entries → slice_get entries 0 ≡ Some (due, old) → old ≡ p ∷ rest → rest ≡ []
    → let now = remove_entry (is_at (nat_cmp due)) (set_value (is_at (nat_cmp due)) entries rest) in AreEntries now × (all_posts entries ≡ p ∷ all_posts now)
take_last entries due p old rest are h is none =
    let left = left_there entries due old rest h in
    let first = first_entry entries due old h in
    let all : AreEntries ((due, old) ∷ drop 1 entries) = subst AreEntries first are in
    let alone : old ≡ p ∷ [] = is ∙ ap (λ xs. p ∷ xs) none in (
      subst AreEntries (sym left.1) all.1,
      ap all_posts first ∙ ap (λ xs. xs ++ all_posts (drop 1 entries)) alone ∙ ap (λ es. p ∷ all_posts es) (sym left.1),
    )
