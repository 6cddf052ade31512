-- The cores, the posts on their way and the entries in the midst of a cycle, seen line by line.
use Rattle.std.proofs.Common.{◌≡◌, ◌≢◌, ◌∙◌, ℕ, Bool, true, false, Some, List, [], ◌∷◌, ◌++◌, filter, refl, sym, ap, subst, inl, inr, cond, append-nil, append_assoc, ◌==◌, ◌&&◌, unwrap_or, nat_lt}
use Rattle.std.specs.List.{All}
use Rattle.std.proofs.lemmas.Bool.{cases_eq, eq-eqb, ne_eqb}
use Rattle.std.proofs.lemmas.List.Elements.{All-head, All-tail, All-map, filter-append}
use Rattle.slack_base.specs.declared.messages.Ask.{Ask}
use Rattle.slack_base.specs.declared.messages.Post.{Post}
use Rattle.slack_base.specs.declared.messages.PostKind.{PostKind}
use Rattle.slack_base.specs.declared.messages.PostKind.TheVariants.{Reply, Retry, SnoopShare, SnoopOwn, Invalidate}
use Rattle.slack_base.specs.Messages.{id_of, line_of}
use Rattle.status_map.specs.declared.views.EntryView.{EntryView}
use Rattle.status_map.specs.declared.views.Delays.{Delays}
use Rattle.status_map.specs.Table.{serve, row, owns, post_of}
use Rattle.timed_core.specs.Accesses.{held_in}
use Rattle.timed_core.specs.Cores.{HartValue}
use Rattle.coherence_law.specs.Lines.{Want, Nothing, Part, Line, receive, IsFresh, received, all_received, AreFresh}
use Rattle.coherence_law.specs.Invariant.{Invariant}
use Rattle.coherence_law.specs.Steps.{served_line, IsServed}
use Rattle.coherence_law.proofs.Changes.{each}
use Rattle.coherence_law.proofs.Pending.{HasPosts, has_same, more, receive_one, from_front, Picks}

-- a function with its value at one place changed
abbrev pub upd : {X : Type 0} → ℕ → X → (ℕ → X) → ℕ → X
upd c x f k = cond (k == c) x (f k)

module _ {X : Type 0} (c : ℕ) (x : X) (f : ℕ → X) where
  pub upd_at : upd c x f c ≡ x
  upd_at = rw (eq-eqb c c refl) refl

  pub upd_off : (k : ℕ) → k ≢ c → upd c x f k ≡ f k
  upd_off k n = rw (ne_eqb k c n) refl

  pub upd_each : (Q : ℕ → X → Type 0) → Q c x → ((k : ℕ) → k ≢ c → Q k (f k)) → (k : ℕ) → Q k (upd c x f k)
  upd_each Q here there k = elim (cases_eq k c) [
    | inl e ↦ subst (λ j. Q j (upd c x f j)) (sym e) (subst (Q c) (sym upd_at) here)
    | inr n ↦ subst (Q k) (sym (upd_off k n)) (there k n)
  ]

abbrev pub to_core : ℕ → List Post → List Post
to_core c sent = filter (λ p. p.to == c) sent

-- what waits for a core, and what was sent to it in this cycle
abbrev pub pending : (ℕ → List Post) → List Post → ℕ → List Post
pending base sent c = base c ++ to_core c sent

abbrev pub is_wanting : Want → Bool
is_wanting Nothing = false
is_wanting _ = true

-- what a core has of a line is this part
pub record IsPartOf (l asked : ℕ) (core : HartValue) (ps : List Post) (x : Part) : Type 0 where
  pub held : x.held ≡ held_in core.cache l
  pub wants : is_wanting x.want ≡ (core.waiting && (asked == l))
  pub posts : HasPosts l ps x

abbrev pub AreParts : (l : ℕ) → (asked : ℕ → ℕ) (inner : ℕ → HartValue) (base : ℕ → List Post) (sent : List Post) → (ℕ → Part) → Type 0
AreParts l asked inner base sent parts = (c : ℕ) → IsPartOf l (asked c) (inner c) (pending base sent c) (parts c)

-- a line of the machine, of which this is true at clock t
pub record IsLineOf (t l : ℕ) (asked : ℕ → ℕ) (inner : ℕ → HartValue) (base : ℕ → List Post) (sent : List Post) (e : EntryView) : Type 0 where
  pub line : Line
  pub entry : line.entry ≡ e
  pub parts : AreParts l asked inner base sent line.parts
  pub kept : Invariant t line

-- one post more
module _ (base : ℕ → List Post) (sent : List Post) (p : Post) where
  more_here : (c : ℕ) → p.to ≡ c → pending base (sent ++ p ∷ []) c ≡ pending base sent c ++ p ∷ []
  more_here c e =
      ap (λ ps. base c ++ ps) (filter-append (λ q. q.to == c) sent (p ∷ []) ∙ rw (eq-eqb p.to c e) refl)
      ∙ sym (append_assoc (base c) (to_core c sent) (p ∷ []))

  more_there : (c : ℕ) → p.to ≢ c → pending base (sent ++ p ∷ []) c ≡ pending base sent c
  more_there c n =
      ap (λ ps. base c ++ ps) (filter-append (λ q. q.to == c) sent (p ∷ []) ∙ rw (ne_eqb p.to c n) (append-nil (to_core c sent)))

pub push : (l : ℕ) (p : Post) (ps : List Post) (x : Part) → HasPosts l (p ∷ ps) x → HasPosts l (ps ++ p ∷ []) x
push l p ps x h =
    has_same l (p ∷ ps) (ps ++ p ∷ []) x (λ Y f o k. from_front f ps p [] o (subst (λ qs. Picks f (p ∷ qs) o) (sym (append-nil ps)) k)) h

wants_received : (kind : PostKind) (due : ℕ) (x : Part) → IsFresh kind x → is_wanting (receive kind due x).want ≡ is_wanting x.want
wants_received (Reply exclusive words) due x fresh = sym (ap is_wanting fresh)
wants_received Retry due x fresh = sym (ap is_wanting fresh)
wants_received SnoopShare due x fresh = refl
wants_received SnoopOwn due x fresh = refl
wants_received Invalidate due x fresh = refl

held_received : (kind : PostKind) (due : ℕ) (x : Part) → (receive kind due x).held ≡ x.held
held_received (Reply exclusive words) due x = refl
held_received Retry due x = refl
held_received SnoopShare due x = refl
held_received SnoopOwn due x = refl
held_received Invalidate due x = refl

module _ (l : ℕ) (asked : ℕ → ℕ) (inner : ℕ → HartValue) (base : ℕ → List Post) where
  -- one post about the line
  one_sent : (sent : List Post) (p : Post) (parts : ℕ → Part) → p.line ≡ l → IsFresh p.kind (parts p.to) → AreParts l asked inner base sent parts
      → AreParts l asked inner base (sent ++ p ∷ []) (received parts p)
  one_sent sent p parts own fresh are =
      each p.to (receive p.kind p.due (parts p.to)) parts (λ c q. IsPartOf l (asked c) (inner c) (pending base (sent ++ p ∷ []) c) q)
      (record {
        held = held_received p.kind p.due (parts p.to) ∙ (are p.to).held;
        wants = wants_received p.kind p.due (parts p.to) fresh ∙ (are p.to).wants;
        posts = subst (λ ps. HasPosts l ps (receive p.kind p.due (parts p.to))) (sym (more_here base sent p p.to refl))
            (push l p (pending base sent p.to) (receive p.kind p.due (parts p.to)) (receive_one l p (pending base sent p.to) (parts p.to) own fresh (are p.to).posts));
      })
      (λ c n. record {
        held = (are c).held;
        wants = (are c).wants;
        posts = subst (λ ps. HasPosts l ps (parts c)) (sym (more_there base sent p c (λ e. n (sym e)))) (are c).posts;
      })

  pub all_sent : (sent posts : List Post) (parts : ℕ → Part) → All (λ p. p.line ≡ l) posts → AreFresh parts posts → AreParts l asked inner base sent parts
      → AreParts l asked inner base (sent ++ posts) (all_received parts posts)
  all_sent sent [] parts own fresh are = subst (λ ps. AreParts l asked inner base ps parts) (sym (append-nil sent)) are
  all_sent sent (p ∷ posts) parts own fresh are =
      subst (λ ps. AreParts l asked inner base ps (all_received (received parts p) posts)) (append_assoc sent (p ∷ []) posts)
      (all_sent (sent ++ p ∷ []) posts (received parts p) (All-tail (λ p. p.line ≡ l) p posts own) fresh.1
      (one_sent sent p parts (All-head (λ p. p.line ≡ l) p posts own) fresh.0 are))

  -- one post about another line
  one_other : (sent : List Post) (p : Post) (parts : ℕ → Part) → p.line ≢ l → AreParts l asked inner base sent parts → AreParts l asked inner base (sent ++ p ∷ []) parts
  one_other sent p parts other are c = record {
    held = (are c).held;
    wants = (are c).wants;
    posts = elim (cases_eq p.to c) [
      | inl e ↦ subst (λ ps. HasPosts l ps (parts c)) (sym (more_here base sent p c e)) (push l p (pending base sent c) (parts c) (more l p (pending base sent c) (parts c) other (are c).posts))
      | inr n ↦ subst (λ ps. HasPosts l ps (parts c)) (sym (more_there base sent p c n)) (are c).posts
    ];
  }

  pub all_other : (sent posts : List Post) (parts : ℕ → Part) → All (λ p. p.line ≢ l) posts → AreParts l asked inner base sent parts → AreParts l asked inner base (sent ++ posts) parts
  all_other sent [] parts other are = subst (λ ps. AreParts l asked inner base ps parts) (sym (append-nil sent)) are
  all_other sent (p ∷ posts) parts other are =
      subst (λ ps. AreParts l asked inner base ps parts) (append_assoc sent (p ∷ []) posts)
      (all_other (sent ++ p ∷ []) posts parts (All-tail (λ p. p.line ≢ l) p posts other)
      (one_other sent p parts (All-head (λ p. p.line ≢ l) p posts other) are))

-- the posts of an ask are about its line
pub posts_about : (d : Delays) (grant : ℕ) (ask : Ask) (l : ℕ) (e : EntryView) → line_of ask ≡ Some l → All (λ p. p.line ≡ l) (serve d grant ask e).posts
unfolding serve
posts_about d grant ask l e is =
    All-map (λ (p : Post). p.line ≡ l) (post_of (id_of ask) (unwrap_or (line_of ask) 0) grant) (row d e.words ask e.kind (owns (id_of ask).core e.kind) (nat_lt grant e.settled)).sendings
    (λ k x low. ap (λ o. unwrap_or o 0) is)

-- a line before an ask for some line is served: where it is this line, it is served, and else nothing happens to it
pub record IsBefore (t : ℕ) (d : Delays) (grant : ℕ) (ask : Ask) (la : ℕ) (l : ℕ) (asked : ℕ → ℕ) (inner : ℕ → HartValue) (base : ℕ → List Post) (sent : List Post) (e : EntryView) : Type 0 where
  pub line : Line
  pub entry : line.entry ≡ e
  pub parts : AreParts l asked inner base sent line.parts
  pub kept : l ≢ la → Invariant t line
  pub served : l ≡ la → IsServed t d grant ask line

module _ (t : ℕ) (d : Delays) (grant : ℕ) (ask : Ask) (la : ℕ) (is : line_of ask ≡ Some la) (asked : ℕ → ℕ) (inner : ℕ → HartValue) (base : ℕ → List Post) (sent : List Post) (entry : ℕ → EntryView) where
  abbrev pub sent_then : List Post
  sent_then = sent ++ (serve d grant ask (entry la)).posts

  abbrev pub entry_then : ℕ → EntryView
  entry_then = upd la (serve d grant ask (entry la)).entry entry

  pub line_served : (l : ℕ) → IsBefore t d grant ask la l asked inner base sent (entry l) → IsLineOf t l asked inner base sent_then (entry_then l)
  line_served l b = elim (cases_eq l la) [
    | inl e ↦
        let s = b.served e in
        let here : b.line.entry ≡ entry la = b.entry ∙ ap entry e in
        let own : All (λ p. p.line ≡ l) (serve d grant ask b.line.entry).posts = subst (λ j. All (λ p. p.line ≡ j) (serve d grant ask b.line.entry).posts) (sym e) (posts_about d grant ask la b.line.entry is) in
        record {
          line = served_line d grant ask b.line;
          entry = ap (λ x. (serve d grant ask x).entry) here ∙ sym (subst (λ j. entry_then j ≡ (serve d grant ask (entry la)).entry) (sym e) (upd_at la (serve d grant ask (entry la)).entry entry));
          parts = subst (λ x. AreParts l asked inner base (sent ++ (serve d grant ask x).posts) (served_line d grant ask b.line).parts) here
              (all_sent l asked inner base sent (serve d grant ask b.line.entry).posts b.line.parts own s.fresh b.parts);
          kept = s.kept;
        }
    | inr n ↦ record {
      line = b.line;
      entry = b.entry ∙ sym (upd_off la (serve d grant ask (entry la)).entry entry l n);
      parts = all_other l asked inner base sent (serve d grant ask (entry la)).posts b.line.parts
          (λ k q low same. n (sym same ∙ posts_about d grant ask la (entry la) is k q low)) b.parts;
      kept = b.kept n;
    }
  ]
