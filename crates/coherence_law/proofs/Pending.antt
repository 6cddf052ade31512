-- The posts that wait for a core, in whatever order: what they say of a line.
use Rattle.std.proofs.Common.{◌≡◌, ◌≢◌, ◌∙◌, ℕ, Bool, true, false, not, Option, None, Some, List, [], ◌∷◌, ◌++◌, filter, refl, sym, ap, subst, inl, inr, cond, ◌==◌}
use Rattle.std.specs.List.{All}
use Rattle.std.proofs.lemmas.Bool.{cases_Bool, eq-eqb, ne_eqb}
use Rattle.std.proofs.lemmas.List.Elements.{All-head, All-tail}
use Rattle.slack_base.specs.declared.messages.Post.{Post}
use Rattle.slack_base.specs.declared.messages.PostKind.{PostKind}
use Rattle.slack_base.specs.declared.messages.PostKind.TheVariants.{Reply, Retry, SnoopShare, SnoopOwn, Invalidate}
use Rattle.slack_base.specs.Inboxes.{with_post, is_later}
use Rattle.coherence_law.specs.Lines.{Want, Nothing, Asked, Filling, Retrying, Part, receive, IsFresh}

abbrev pub list_of : {Y : Type 0} → Option Y → List Y
list_of None = []
list_of (Some y) = y ∷ []

abbrev pub with_pick : {Y : Type 0} → Option Y → List Y → List Y
with_pick None ys = ys
with_pick (Some y) ys = y ∷ ys

abbrev pub picked : {Y : Type 0} → (Post → Option Y) → List Post → List Y
picked f [] = []
picked f (p ∷ ps) = with_pick (f p) (picked f ps)

-- f sees in these posts just this
abbrev pub Picks : {Y : Type 0} → (Post → Option Y) → List Post → Option Y → Type 0
Picks f ps o = picked f ps ≡ list_of o

abbrev first_of : {Y : Type 0} → Y → List Y → Y
first_of d [] = d
first_of d (y ∷ ys) = y

abbrev rest_of : {Y : Type 0} → List Y → List Y
rest_of [] = []
rest_of (y ∷ ys) = ys

abbrev IsCons : {Y : Type 0} → List Y → Type 0
IsCons [] = ⊥
IsCons (y ∷ ys) = Unit {0}

module _ {Y : Type 0} (f : Post → Option Y) where
  pub take_none : (p : Post) (ps : List Post) (o : Option Y) → f p ≡ None → Picks f (p ∷ ps) o → Picks f ps o
  take_none p ps o none h = subst (λ x. with_pick x (picked f ps) ≡ list_of o) none h

  pub take_some : (p : Post) (ps : List Post) (o : Option Y) (y : Y) → f p ≡ Some y → Picks f (p ∷ ps) o → (o ≡ Some y) × Picks f ps None
  take_some p ps None y is h = absurd (subst IsCons (subst (λ x. with_pick x (picked f ps) ≡ []) is h) tt)
  take_some p ps (Some z) y is h =
      let e : y ∷ picked f ps ≡ z ∷ [] = subst (λ x. with_pick x (picked f ps) ≡ z ∷ []) is h in
      (ap Some (sym (ap (first_of y) e)), ap rest_of e)

  pub put_none : (p : Post) (ps : List Post) (o : Option Y) → f p ≡ None → Picks f ps o → Picks f (p ∷ ps) o
  put_none p ps o none h = subst (λ x. with_pick x (picked f ps) ≡ list_of o) (sym none) h

  pub put_some : (p : Post) (ps : List Post) (y : Y) → f p ≡ Some y → Picks f ps None → Picks f (p ∷ ps) (Some y)
  put_some p ps y is h = subst (λ x. with_pick x (picked f ps) ≡ y ∷ []) (sym is) (ap (λ ys. y ∷ ys) h)

  -- under a head
  pub under_as : (p : Post) (a b : List Post) (o : Option Y) → ((o : Option Y) → Picks f a o → Picks f b o) → (x : Option Y) → f p ≡ x → Picks f (p ∷ a) o → Picks f (p ∷ b) o
  under_as p a b o same None is h = put_none p b o is (same o (take_none p a o is h))
  under_as p a b o same (Some y) is h =
      let t = take_some p a o y is h in
      subst (λ z. Picks f (p ∷ b) z) (sym t.0) (put_some p b y is (same None t.1))

  pub under : (p : Post) (a b : List Post) → ((o : Option Y) → Picks f a o → Picks f b o) → (o : Option Y) → Picks f (p ∷ a) o → Picks f (p ∷ b) o
  under p a b same o h = under_as p a b o same (f p) refl h

  swap_as : (p q : Post) (a : List Post) (o : Option Y) (x y : Option Y) → f p ≡ x → f q ≡ y → Picks f (p ∷ q ∷ a) o → Picks f (q ∷ p ∷ a) o
  swap_as p q a o None y e g h = under_as q a (p ∷ a) o (λ o. put_none p a o e) y g (take_none p (q ∷ a) o e h)
  swap_as p q a o (Some x) None e g h = put_none q (p ∷ a) o g (under p (q ∷ a) a (λ o. take_none q a o g) o h)
  swap_as p q a o (Some x) (Some y) e g h =
      let t = take_some p (q ∷ a) o x e h in
      absurd (subst IsCons (subst (λ z. with_pick z (picked f a) ≡ []) g t.1) tt)

  pub swap : (p q : Post) (a : List Post) (o : Option Y) → Picks f (p ∷ q ∷ a) o → Picks f (q ∷ p ∷ a) o
  swap p q a o h = swap_as p q a o (f p) (f q) refl refl h

  pub to_front : (a : List Post) (p : Post) (b : List Post) (o : Option Y) → Picks f (a ++ p ∷ b) o → Picks f (p ∷ (a ++ b)) o
  to_front [] p b o h = h
  to_front (q ∷ a) p b o h = swap q p (a ++ b) o (under q (a ++ p ∷ b) (p ∷ (a ++ b)) (λ o. to_front a p b o) o h)

  pub from_front : (a : List Post) (p : Post) (b : List Post) (o : Option Y) → Picks f (p ∷ (a ++ b)) o → Picks f (a ++ p ∷ b) o
  from_front [] p b o h = h
  from_front (q ∷ a) p b o h = under q (p ∷ (a ++ b)) (a ++ p ∷ b) (λ o. from_front a p b o) o (swap p q (a ++ b) o h)

  -- a post put into an inbox in its order
  pub with_one : (inbox : List Post) (p : Post) (b : List Post) (o : Option Y) → Picks f (inbox ++ p ∷ b) o → Picks f (with_post inbox p ++ b) o
  with_one [] p b o h = h
  with_one (q ∷ inbox) p b o h = elim (cases_Bool (is_later q p)) [
    | inl y ↦ rw y (to_front (q ∷ inbox) p b o h)
    | inr n ↦ rw n (under q (inbox ++ p ∷ b) (with_post inbox p ++ b) (λ o. with_one inbox p b o) o h)
  ]

  -- the posts that pass a test, and the others after them
  module _ (r r' : Post → Bool) (opposite : (p : Post) → r' p ≡ not (r p)) where
    pub parted : (xs b : List Post) (o : Option Y) → Picks f (xs ++ b) o → Picks f (filter r xs ++ (filter r' xs ++ b)) o
    parted [] b o h = h
    parted (x ∷ xs) b o h =
        let next = under x (xs ++ b) (filter r xs ++ (filter r' xs ++ b)) (λ o. parted xs b o) o h in
        elim (cases_Bool (r x)) [
          | inl y ↦ rw (y, opposite x ∙ ap not y) next
          | inr n ↦ rw (n, opposite x ∙ ap not n) (from_front (filter r xs) x (filter r' xs ++ b) o next)
        ]

-- what a post says of a line
abbrev pub answer_kind : PostKind → ℕ → Option Want
answer_kind (Reply exclusive words) due = Some (Filling due exclusive words)
answer_kind Retry due = Some (Retrying due)
answer_kind _ due = None

abbrev pub invalidate_kind : PostKind → ℕ → Option ℕ
invalidate_kind Invalidate due = Some due
invalidate_kind _ due = None

abbrev pub snoop_kind : PostKind → ℕ → Option (ℕ × Bool)
snoop_kind SnoopShare due = Some (due, false)
snoop_kind SnoopOwn due = Some (due, true)
snoop_kind _ due = None

abbrev pub answer_of : ℕ → Post → Option Want
answer_of l p = cond (p.line == l) (answer_kind p.kind p.due) None

abbrev pub invalidate_of : ℕ → Post → Option ℕ
invalidate_of l p = cond (p.line == l) (invalidate_kind p.kind p.due) None

abbrev pub snoop_of : ℕ → Post → Option (ℕ × Bool)
snoop_of l p = cond (p.line == l) (snoop_kind p.kind p.due) None

-- the answer that is on its way
abbrev pub answer : Want → Option Want
answer Nothing = None
answer Asked = None
answer w = Some w

-- the posts on a line that wait for a core are those of its part
pub record HasPosts (l : ℕ) (posts : List Post) (x : Part) : Type 0 where
  pub answer : Picks (answer_of l) posts (answer x.want)
  pub invalidate : Picks (invalidate_of l) posts x.invalidate
  pub snoop : Picks (snoop_of l) posts x.snoop

pub has_same : (l : ℕ) (a b : List Post) (x : Part) → ((Y : Type 0) (f : Post → Option Y) (o : Option Y) → Picks f a o → Picks f b o) → HasPosts l a x → HasPosts l b x
has_same l a b x same h = record {
  answer = same Want (answer_of l) (answer x.want) h.answer;
  invalidate = same ℕ (invalidate_of l) x.invalidate h.invalidate;
  snoop = same (ℕ × Bool) (snoop_of l) x.snoop h.snoop;
}

module _ (l : ℕ) (p : Post) (ps : List Post) (x : Part) where
  module _ (other : p.line ≢ l) where
    no_answer : answer_of l p ≡ None
    no_answer = rw (ne_eqb p.line l other) refl

    no_invalidate : invalidate_of l p ≡ None
    no_invalidate = rw (ne_eqb p.line l other) refl

    no_snoop : snoop_of l p ≡ None
    no_snoop = rw (ne_eqb p.line l other) refl

    pub skip : HasPosts l (p ∷ ps) x → HasPosts l ps x
    skip h = record {
      answer = take_none (answer_of l) p ps (answer x.want) no_answer h.answer;
      invalidate = take_none (invalidate_of l) p ps x.invalidate no_invalidate h.invalidate;
      snoop = take_none (snoop_of l) p ps x.snoop no_snoop h.snoop;
    }

    pub more : HasPosts l ps x → HasPosts l (p ∷ ps) x
    more h = record {
      answer = put_none (answer_of l) p ps (answer x.want) no_answer h.answer;
      invalidate = put_none (invalidate_of l) p ps x.invalidate no_invalidate h.invalidate;
      snoop = put_none (snoop_of l) p ps x.snoop no_snoop h.snoop;
    }

  module _ (own : p.line ≡ l) where
    is_answer : answer_of l p ≡ answer_kind p.kind p.due
    is_answer = rw (eq-eqb p.line l own) refl

    is_invalidate : invalidate_of l p ≡ invalidate_kind p.kind p.due
    is_invalidate = rw (eq-eqb p.line l own) refl

    is_snoop : snoop_of l p ≡ snoop_kind p.kind p.due
    is_snoop = rw (eq-eqb p.line l own) refl

    answer_is : (w v : Want) → answer w ≡ Some v → w ≡ v
    answer_is Nothing v e = absurd (cc)
    answer_is Asked v e = absurd (cc)
    answer_is (Filling due exclusive words) v e = cc
    answer_is (Retrying due) v e = cc

    -- an answer is taken
    pub take_answer : (v : Want) → answer_kind p.kind p.due ≡ Some v → invalidate_kind p.kind p.due ≡ None → snoop_kind p.kind p.due ≡ None
        → HasPosts l (p ∷ ps) x → (x.want ≡ v) × HasPosts l ps (record x { want = Nothing })
    take_answer v a i s h =
        let t = take_some (answer_of l) p ps (answer x.want) v (is_answer ∙ a) h.answer in (
          answer_is x.want v t.0,
          record {
            answer = t.1;
            invalidate = take_none (invalidate_of l) p ps x.invalidate (is_invalidate ∙ i) h.invalidate;
            snoop = take_none (snoop_of l) p ps x.snoop (is_snoop ∙ s) h.snoop;
          },
        )

    pub take_invalidate : (due : ℕ) → answer_kind p.kind p.due ≡ None → invalidate_kind p.kind p.due ≡ Some due → snoop_kind p.kind p.due ≡ None
        → HasPosts l (p ∷ ps) x → (x.invalidate ≡ Some due) × HasPosts l ps (record x { invalidate = None })
    take_invalidate due a i s h =
        let t = take_some (invalidate_of l) p ps x.invalidate due (is_invalidate ∙ i) h.invalidate in (
          t.0,
          record {
            answer = take_none (answer_of l) p ps (answer x.want) (is_answer ∙ a) h.answer;
            invalidate = t.1;
            snoop = take_none (snoop_of l) p ps x.snoop (is_snoop ∙ s) h.snoop;
          },
        )

    pub take_snoop : (s : ℕ × Bool) → answer_kind p.kind p.due ≡ None → invalidate_kind p.kind p.due ≡ None → snoop_kind p.kind p.due ≡ Some s
        → HasPosts l (p ∷ ps) x → (x.snoop ≡ Some s) × HasPosts l ps (record x { snoop = None })
    take_snoop s a i is h =
        let t = take_some (snoop_of l) p ps x.snoop s (is_snoop ∙ is) h.snoop in (
          t.0,
          record {
            answer = take_none (answer_of l) p ps (answer x.want) (is_answer ∙ a) h.answer;
            invalidate = take_none (invalidate_of l) p ps x.invalidate (is_invalidate ∙ i) h.invalidate;
            snoop = t.1;
          },
        )

    -- a post is sent
    receive_by : (kind : PostKind) → p.kind ≡ kind → IsFresh kind x → HasPosts l ps x → HasPosts l (p ∷ ps) (receive kind p.due x)
    receive_by (Reply exclusive words) is fresh h = record {
      answer = put_some (answer_of l) p ps (Filling p.due exclusive words) (is_answer ∙ ap (λ k. answer_kind k p.due) is) (h.answer ∙ ap (λ w. list_of (answer w)) fresh);
      invalidate = put_none (invalidate_of l) p ps x.invalidate (is_invalidate ∙ ap (λ k. invalidate_kind k p.due) is) h.invalidate;
      snoop = put_none (snoop_of l) p ps x.snoop (is_snoop ∙ ap (λ k. snoop_kind k p.due) is) h.snoop;
    }
    receive_by Retry is fresh h = record {
      answer = put_some (answer_of l) p ps (Retrying p.due) (is_answer ∙ ap (λ k. answer_kind k p.due) is) (h.answer ∙ ap (λ w. list_of (answer w)) fresh);
      invalidate = put_none (invalidate_of l) p ps x.invalidate (is_invalidate ∙ ap (λ k. invalidate_kind k p.due) is) h.invalidate;
      snoop = put_none (snoop_of l) p ps x.snoop (is_snoop ∙ ap (λ k. snoop_kind k p.due) is) h.snoop;
    }
    receive_by SnoopShare is fresh h = record {
      answer = put_none (answer_of l) p ps (answer x.want) (is_answer ∙ ap (λ k. answer_kind k p.due) is) h.answer;
      invalidate = put_none (invalidate_of l) p ps x.invalidate (is_invalidate ∙ ap (λ k. invalidate_kind k p.due) is) h.invalidate;
      snoop = put_some (snoop_of l) p ps (p.due, false) (is_snoop ∙ ap (λ k. snoop_kind k p.due) is) (h.snoop ∙ ap list_of fresh);
    }
    receive_by SnoopOwn is fresh h = record {
      answer = put_none (answer_of l) p ps (answer x.want) (is_answer ∙ ap (λ k. answer_kind k p.due) is) h.answer;
      invalidate = put_none (invalidate_of l) p ps x.invalidate (is_invalidate ∙ ap (λ k. invalidate_kind k p.due) is) h.invalidate;
      snoop = put_some (snoop_of l) p ps (p.due, true) (is_snoop ∙ ap (λ k. snoop_kind k p.due) is) (h.snoop ∙ ap list_of fresh);
    }
    receive_by Invalidate is fresh h = record {
      answer = put_none (answer_of l) p ps (answer x.want) (is_answer ∙ ap (λ k. answer_kind k p.due) is) h.answer;
      invalidate = put_some (invalidate_of l) p ps p.due (is_invalidate ∙ ap (λ k. invalidate_kind k p.due) is) (h.invalidate ∙ ap list_of fresh);
      snoop = put_none (snoop_of l) p ps x.snoop (is_snoop ∙ ap (λ k. snoop_kind k p.due) is) h.snoop;
    }

    pub receive_one : IsFresh p.kind x → HasPosts l ps x → HasPosts l (p ∷ ps) (receive p.kind p.due x)
    receive_one fresh h = receive_by p.kind refl fresh h

-- what f sees in posts that pass a test comes of one of them
module _ {Y : Type 0} (f : Post → Option Y) (P : Post → Type 0) (y : Y) where
  abbrev pub Source : Type 0
  Source = (p : Post) × (f p ≡ Some y) × P p

  seen_as : (p : Post) (ps : List Post) (x : Option Y) → f p ≡ x → P p → Picks f (p ∷ ps) (Some y) → (Picks f ps (Some y) → Source) → Source
  seen_as p ps None is here h later = later (take_none f p ps (Some y) is h)
  seen_as p ps (Some z) is here h later = let t = take_some f p ps (Some y) z is h in (p, is ∙ sym t.0, here)

  pub seen : (ps : List Post) → Picks f ps (Some y) → All P ps → Source
  seen [] h all = absurd (subst IsCons (sym h) tt)
  seen (p ∷ ps) h all = seen_as p ps (f p) refl (All-head P p ps all) h (λ more. seen ps more (All-tail P p ps all))
