-- What each row of the table keeps.
use Rattle.std.proofs.Common.{◌≡◌, ◌≢◌, ◌∙◌, ℕ, ◌+◌, ◌<◌, ◌≤◌, Bool, true, false, Option, None, Some, List, [], ◌∷◌, ◌++◌, map, max, nat_lt, refl, sym, ap, subst, inl, inr, arith}
use Rattle.std.specs.List.{fold}
use Rattle.std.proofs.lemmas.Bool.{cases_eq, cases_Bool, eq-eqb, ne_eqb, eqb-true, eqb-false, ltb-false, false≢true}
use Rattle.slack_base.specs.declared.bounds.TheConstants.{MOST_CORES}
use Rattle.slack_base.specs.declared.stamps.Id.{Id}
use Rattle.slack_base.specs.declared.messages.Words.{Words}
use Rattle.std.proofs.lemmas.List.{map-append}
use Rattle.slack_base.specs.declared.messages.Post.{Post}
use Rattle.slack_base.specs.declared.messages.Ask.TheVariants.{Read, ReadOwn}
use Rattle.slack_base.specs.declared.messages.PostKind.TheVariants.{Reply, Retry, Invalidate}
use Rattle.mesi_cache.specs.declared.lines.Held.{Held}
use Rattle.mesi_cache.specs.declared.lines.Held.TheVariants.{Shared as S, Exclusive as E, Modified as M}
use Rattle.mesi_cache.specs.declared.lines.HeldLine.{HeldLine}
use Rattle.mesi_cache.specs.Lines.{may_write}
use Rattle.status_map.specs.declared.views.EntryKind.{EntryKind}
use Rattle.status_map.specs.declared.views.EntryKind.TheVariants.{Idle, Shared, Owned, Moving}
use Rattle.status_map.specs.declared.views.Delays.{Delays}
use Rattle.status_map.specs.Cores.{with_core, others}
use Rattle.status_map.specs.Table.{Outcome, outcome, send, row, owns, served, serve, post_of, settled_by}
use Rattle.status_map.proofs.Sets.{holds-with_core}
use Rattle.coherence_law.specs.Lines.{Want, Nothing, Asked, Filling, Retrying, Part, Line, changed, all_received, AreFresh}
use Rattle.coherence_law.specs.Invariant.{NoReply, IsClear, IsMember, IsSharer, IsHeldAlone, IsAloneAs, IsHeldShared, IsShareReply, IsShareHeld, IsReplyBefore, IsGoing, IsThere, IsOwned, NoSnoops, IsOfKind, IsDueReply, IsPunctualPart, IsSettled, Invariant}
use Rattle.coherence_law.specs.Steps.{with_part, asking_part, IsServed}
use Rattle.coherence_law.specs.LineLaws.{Reads, Owns, IsUnwritable}
use Rattle.coherence_law.proofs.Changes.{each, off, at, there_at, coming_at, IsChange, IsNotFor, owned_change, kept_answer, not_for}
use Rattle.coherence_law.proofs.Parts.{asked≢filling, nothing≢asked, asks}
use Rattle.coherence_law.proofs.Posts.{received_append, fresh_append, is_in, member_in, asking_out, invalidation, all_invalidated, none_invalidated, fresh_invalidations}

abbrev pub line_of : EntryKind → ℕ → Words → (ℕ → Part) → Line
line_of kind settled m parts = record { entry = record { kind = kind; settled = settled; words = m }; parts = parts }

-- what comes of a row
abbrev pub IsRow : (t : ℕ) (i : Id) (l g settled : ℕ) → (ℕ → Part) → Outcome → Type 0
IsRow t i l g settled parts o =
    AreFresh parts (served i l g settled o).posts
    × Invariant t (record { entry = (served i l g settled o).entry; parts = all_received parts (served i l g settled o).posts })

settled_more : (a b : ℕ) (w : Want) → a ≤ b → IsSettled a w → IsSettled b w
settled_more a b Nothing le h = tt
settled_more a b Asked le h = tt
settled_more a b (Filling due x w) le h = omega arith
settled_more a b (Retrying due) le h = tt

settled_before : (m : Words) (cores c settled end : ℕ) (w : Want) → settled ≤ end → IsSettled settled w → IsShareReply m cores c w → IsReplyBefore m end w
settled_before m cores c settled end Nothing le h f = tt
settled_before m cores c settled end Asked le h f = tt
settled_before m cores c settled end (Filling due x w) le h f = (f.0, f.1, omega arith)
settled_before m cores c settled end (Retrying due) le h f = tt

-- once all Replies that were promised are due, none is on its way
pub none_on_way : (t settled : ℕ) (w : Want) → settled ≤ t → IsSettled settled w → IsDueReply t w → NoReply w
none_on_way t settled Nothing le h d = tt
none_on_way t settled Asked le h d = tt
none_on_way t settled (Filling due x w) le h d = omega arith
none_on_way t settled (Retrying due) le h d = tt

no_fill_from_asked : (w : Want) → w ≡ Asked → NoReply w
no_fill_from_asked w e = subst NoReply (sym e) tt

-- a Reply is sent to a core that asked
module _ (t c due : ℕ) (x : Bool) (w : Words) (parts : ℕ → Part) where
  abbrev answered : ℕ → Part
  answered = changed c (record (parts c) { want = Filling due x w }) parts

  reply_kept : (settled : ℕ) (kind : EntryKind) (m : Words) → t ≤ due
      → ((k : ℕ) → IsPunctualPart t (parts k)) → ((k : ℕ) → IsSettled settled (parts k).want)
      → IsOfKind m (max settled (due + 1)) kind answered → Invariant t (line_of kind (max settled (due + 1)) m answered)
  reply_kept settled kind m soon punctual below is = record {
    punctual = each c (record (parts c) { want = Filling due x w }) parts (λ k q. IsPunctualPart t q)
        (record { reply = soon; invalidate = (punctual c).invalidate; snoop = (punctual c).snoop }) (λ k n. punctual k);
    settled = each c (record (parts c) { want = Filling due x w }) parts (λ k q. IsSettled (max settled (due + 1)) q.want)
        (omega arith) (λ k n. settled_more settled (max settled (due + 1)) (parts k).want (omega arith) (below k));
    kind = is;
  }

  no_snoops : NoSnoops parts → NoSnoops answered
  no_snoops none = each c (record (parts c) { want = Filling due x w }) parts (λ k q. q.snoop ≡ None) (none c) (λ k n. none k)

-- a Reply that shares
pub shared_reply : (t c due : ℕ) (m : Words) (cores : ℕ) (parts : ℕ → Part) (settled : ℕ) → t ≤ due
    → ((k : ℕ) → IsPunctualPart t (parts k)) → ((k : ℕ) → IsSettled settled (parts k).want)
    → ((k : ℕ) → IsSharer m cores k (parts k)) → IsMember cores c → NoSnoops parts
    → Invariant t (line_of (Shared cores) (max settled (due + 1)) m (answered t c due false m parts))
shared_reply t c due m cores parts settled soon punctual below sharers member none =
    reply_kept t c due false m parts settled (Shared cores) m soon punctual below (
      each c (record (parts c) { want = Filling due false m }) parts (λ k q. IsSharer m cores k q)
          (record { held = (sharers c).held; reply = (refl, refl, member); invalidate = (sharers c).invalidate }) (λ k n. sharers k),
      no_snoops t c due false m parts none,
    )

-- a Reply that gives the line to a core alone
pub alone_reply : (t c due : ℕ) (m : Words) (parts : ℕ → Part) (settled : ℕ) → t ≤ due
    → ((k : ℕ) → IsPunctualPart t (parts k)) → ((k : ℕ) → IsSettled settled (parts k).want)
    → IsHeldShared m (parts c).held → (parts c).invalidate ≡ None → ((k : ℕ) → k ≢ c → IsGoing m due (parts k)) → NoSnoops parts
    → Invariant t (line_of (Owned c) (max settled (due + 1)) m (answered t c due true m parts))
alone_reply t c due m parts settled soon punctual below held invalidate going none =
    reply_kept t c due true m parts settled (Owned c) m soon punctual below (
      inr (coming_at m c (record (parts c) { want = Filling due true m }) parts due refl held invalidate going),
      no_snoops t c due true m parts none,
    )

-- a Retry
retry_row : (t l g settled delay : ℕ) (i : Id) (kind : EntryKind) (m : Words) (parts : ℕ → Part)
    → (parts i.core).want ≡ Asked → IsNotFor i.core kind → Invariant t (line_of kind settled m parts)
    → IsRow t i l g settled parts (outcome (send i.core delay Retry ∷ []) kind m)
retry_row t l g settled delay i kind m parts asked other k =
    let c = i.core in let p : Part = record (parts c) { want = Retrying (g + delay) } in
    let is : IsChange m c p parts = record {
      clear = λ h. record { held = h.held; reply = tt; invalidate = h.invalidate };
      shares = λ cores h. record { held = h.held; reply = tt; invalidate = h.invalidate };
      there = λ h. there_at m c p parts h.held tt h.invalidate h.others;
      coming = λ h. absurd (asked≢filling h.due true m (sym h.reply ∙ asked));
      leaves = λ reply h. inr (record { due = h.due; invalidate = h.invalidate; before = h.before; held = h.held; reply = tt });
    } in
    ((asked, tt), kept_answer t c p (line_of kind settled m parts) is refl (record { reply = tt; invalidate = (k.punctual c).invalidate; snoop = (k.punctual c).snoop }) tt k other)

-- a snoop to the owner
snoop_part : (settled t g delay o : ℕ) (x : Bool) (m : Words) (parts : ℕ → Part) → IsOwned m o parts → IsOwned m o (changed o (record (parts o) { snoop = Some (g + delay, x) }) parts)
snoop_part settled t g delay o x m parts s =
    let p : Part = record (parts o) { snoop = Some (g + delay, x) } in
    owned_change m o p parts (record {
      clear = λ h. record { held = h.held; reply = h.reply; invalidate = h.invalidate };
      shares = λ cores h. record { held = h.held; reply = h.reply; invalidate = h.invalidate };
      there = λ h. there_at m o p parts h.held h.reply h.invalidate h.others;
      coming = λ h. inr (coming_at m o p parts h.due h.reply h.held h.invalidate h.others);
      leaves = λ reply h. inr (record { due = h.due; invalidate = h.invalidate; before = h.before; held = h.held; reply = h.reply });
    }) o s

moving_kept : (t g settled delay o c : ℕ) (x : Bool) (m : Words) (parts : ℕ → Part)
    → t ≤ g → settled ≤ g → c ≢ o → c < MOST_CORES → (parts c).want ≡ Asked → Invariant t (line_of (Owned o) settled m parts)
    → Invariant t (line_of (Moving o c x) settled m (changed o (record (parts o) { snoop = Some (g + delay, x) }) parts))
moving_kept t g settled delay o c x m parts soon late apart low asked k =
    let p : Part = record (parts o) { snoop = Some (g + delay, x) } in
    record {
      punctual = each o p parts (λ j q. IsPunctualPart t q)
          (record { reply = (k.punctual o).reply; invalidate = (k.punctual o).invalidate; snoop = omega arith }) (λ j n. k.punctual j);
      settled = each o p parts (λ j q. IsSettled settled q.want) (k.settled o) (λ j n. k.settled j);
      kind = record {
        owned = snoop_part settled t g delay o x m parts k.kind.0;
        due = g + delay;
        snoop = at o p parts (λ q. q.snoop ≡ Some (g + delay, x)) refl;
        late = omega arith;
        only = λ j n. off o p parts (λ q. q.snoop ≡ None) j n (k.kind.1 j);
        asked = off o p parts (λ q. q.want ≡ Asked) c apart asked;
        apart = apart;
        low = low;
      };
    }

-- a line that is asked for by its owner or that nobody has
own_there : (t settled c : ℕ) (m : Words) (parts : ℕ → Part) → (parts c).want ≡ Asked → IsOwned m c parts → IsThere m c parts
own_there t settled c m parts asked (inl s) = s
own_there t settled c m parts asked (inr s) = absurd (asked≢filling s.due true m (sym s.reply ∙ asked))

unheld : (m : Words) (o : Option HeldLine) → IsUnwritable o → IsHeldAlone m o → IsHeldShared m o
unheld m None u h = tt
unheld m (Some h) u s = no_state m h.held h.words u s where
  no_state : (m : Words) (h : Held) (w : Words) → may_write h ≡ false → IsAloneAs m w h → (h ≡ S) × (w ≡ m)
  no_state m S w u s = absurd s
  no_state m E w u s = absurd (false≢true (sym u))
  no_state m M w u s = absurd (false≢true (sym u))

module _ (t g settled : ℕ) (m : Words) (parts : ℕ → Part) (soon : t ≤ g) (d : Delays) (i : Id) (l : ℕ)
    (asked : (parts i.core).want ≡ Asked) (unwritable : IsUnwritable (parts i.core).held) where
  -- the owner asks again
  mine_row : Invariant t (line_of (Owned i.core) settled m parts) → IsRow t i l g settled parts (outcome (send i.core d.memory (Reply true m) ∷ []) (Owned i.core) m)
  mine_row k =
      let c = i.core in let s = own_there t settled c m parts asked k.kind.0 in (
        (asked, tt),
        alone_reply t c (g + d.memory) m parts settled (omega arith) k.punctual k.settled
            (unheld m (parts c).held unwritable s.held) s.invalidate (λ j n. inl (s.others j n)) k.kind.1,
      )

  -- nobody has it
  idle_row : Invariant t (line_of Idle settled m parts) → IsRow t i l g settled parts (outcome (send i.core d.memory (Reply true m) ∷ []) (Owned i.core) m)
  idle_row k =
      let c = i.core in let all = k.kind.0 in (
        (asked, tt),
        alone_reply t c (g + d.memory) m parts settled (omega arith) k.punctual k.settled
            (subst (IsHeldShared m) (sym (all c).held) tt) (all c).invalidate (λ j n. inl (all j)) k.kind.1,
      )

-- a set with one more core
module _ (cores c : ℕ) (low : c < MOST_CORES) where
  pub member_new : IsMember (with_core cores c) c
  member_new = record { among = rw (holds-with_core cores c c, eq-eqb c c refl) refl; low = low }

  pub member_still : (k : ℕ) → IsMember cores k → IsMember (with_core cores c) k
  member_still k h = record {
    among = elim (cases_eq k c) [
      | inl e ↦ rw (holds-with_core cores c k, eq-eqb k c e) refl
      | inr n ↦ rw (holds-with_core cores c k, ne_eqb k c n) h.among
    ];
    low = h.low;
  }

  share_held : (m : Words) (k : ℕ) (o : Option HeldLine) → IsShareHeld m cores k o → IsShareHeld m (with_core cores c) k o
  share_held m k None h = tt
  share_held m k (Some x) h = (h.0, h.1, member_still k h.2)

  share_fill : (m : Words) (k : ℕ) (w : Want) → IsShareReply m cores k w → IsShareReply m (with_core cores c) k w
  share_fill m k Nothing h = tt
  share_fill m k Asked h = tt
  share_fill m k (Filling due x w) h = (h.0, h.1, member_still k h.2)
  share_fill m k (Retrying due) h = tt

  sharer_still : (m : Words) (k : ℕ) (p : Part) → IsSharer m cores k p → IsSharer m (with_core cores c) k p
  sharer_still m k p h = record { held = share_held m k p.held h.held; reply = share_fill m k p.want h.reply; invalidate = h.invalidate }

shared_read_row : (t g settled l cores : ℕ) (m : Words) (parts : ℕ → Part) (d : Delays) (i : Id) → t ≤ g → i.core < MOST_CORES → (parts i.core).want ≡ Asked
    → Invariant t (line_of (Shared cores) settled m parts) → IsRow t i l g settled parts (outcome (send i.core d.memory (Reply false m) ∷ []) (Shared (with_core cores i.core)) m)
shared_read_row t g settled l cores m parts d i soon low asked k =
    let c = i.core in (
      (asked, tt),
      shared_reply t c (g + d.memory) m (with_core cores c) parts settled (omega arith) k.punctual k.settled
          (λ j. sharer_still cores c low m j (parts j) (k.kind.0 j)) (member_new cores c low) k.kind.1,
    )

module _ (t g settled l : ℕ) (parts : ℕ → Part) (soon : t ≤ g) (d : Delays) (i : Id) (low : i.core < MOST_CORES)
    (asked : (parts i.core).want ≡ Asked) (unwritable : IsUnwritable (parts i.core).held) where
  read_row : (kind : EntryKind) (m : Words) (mine early : Bool) → owns i.core kind ≡ mine → nat_lt g settled ≡ early → IsNotFor i.core kind
      → Invariant t (line_of kind settled m parts) → IsRow t i l g settled parts (row d m (Read i l) kind mine early)
  unfolding row
  read_row (Moving o r x) m mine early my at other k = retry_row t l g settled d.snoop i (Moving o r x) m parts asked other k
  read_row (Owned o) m mine true my at other k = retry_row t l g settled d.snoop i (Owned o) m parts asked other k
  read_row (Owned o) m false false my at other k =
      ((k.kind.1 o, tt), moving_kept t g settled d.snoop o i.core false m parts soon (ltb-false g settled at) (λ e. eqb-false o i.core my (sym e)) low asked k)
  read_row (Owned o) m true false my at other k =
      mine_row t g settled m parts soon d i l asked unwritable (subst (λ j. Invariant t (line_of (Owned j) settled m parts)) (eqb-true o i.core my) k)
  read_row Idle m mine early my at other k = idle_row t g settled m parts soon d i l asked unwritable k
  read_row (Shared cores) m mine early my at other k = shared_read_row t g settled l cores m parts d i soon low asked k

-- who shares the line and isn't in the set has nothing of it
module _ (m : Words) (cores k : ℕ) (out : IsMember cores k → ⊥) where
  held_none : (o : Option HeldLine) → IsShareHeld m cores k o → o ≡ None
  held_none None h = refl
  held_none (Some x) h = absurd (out h.2)

  fill_none : (w : Want) → IsShareReply m cores k w → NoReply w
  fill_none Nothing h = tt
  fill_none Asked h = tt
  fill_none (Filling due x w) h = out h.2
  fill_none (Retrying due) h = tt

  sharer_clear : (p : Part) → IsSharer m cores k p → IsClear p
  sharer_clear p h = record { held = held_none p.held h.held; reply = fill_none p.want h.reply; invalidate = h.invalidate }

share_held_shared : (m : Words) (cores k : ℕ) (o : Option HeldLine) → IsShareHeld m cores k o → IsHeldShared m o
share_held_shared m cores k None h = tt
share_held_shared m cores k (Some x) h = (h.0, h.1)

module _ (i : Id) (l g delay : ℕ) where
  sent_all : (xs : List ℕ) → map (post_of i l g) (map (λ k. send k delay Invalidate) xs) ≡ map (invalidation i l g delay) xs
  sent_all [] = refl
  sent_all (x ∷ xs) = ap (λ ys. invalidation i l g delay x ∷ ys) (sent_all xs)

  settled_after : (settled : ℕ) (xs : List ℕ) (ys : List Post) → fold settled_by settled (map (invalidation i l g delay) xs ++ ys) ≡ fold settled_by settled ys
  settled_after settled [] ys = refl
  settled_after settled (x ∷ xs) ys = settled_after settled xs ys

-- what comes of some posts
abbrev IsPosts : (t settled : ℕ) (kind : EntryKind) (m : Words) (parts : ℕ → Part) → List Post → Type 0
IsPosts t settled kind m parts posts = AreFresh parts posts × Invariant t (line_of kind (fold settled_by settled posts) m (all_received parts posts))

module _ (t g settled l cores : ℕ) (m : Words) (parts : ℕ → Part) (d : Delays) (i : Id) (soon : t ≤ g) (late : settled ≤ g) (short : d.snoop < d.memory)
    (asked : (parts i.core).want ≡ Asked) (kept : Invariant t (line_of (Shared cores) settled m parts)) where
  abbrev them : List ℕ
  them = others cores i.core

  abbrev after : ℕ → Part
  after = all_received parts (map (invalidation i l g d.snoop) them)

  by_cases : (Q : Part → Type 0) (k : ℕ) → (is_in k them ≡ true → Q (record (parts k) { invalidate = Some (g + d.snoop) })) → (is_in k them ≡ false → Q (parts k)) → Q (after k)
  by_cases Q k inside outside = elim (cases_Bool (is_in k them)) [
    | inl y ↦ subst Q (sym (all_invalidated i l g d.snoop them parts k y)) (inside y)
    | inr n ↦ subst Q (sym (none_invalidated i l g d.snoop them parts k n)) (outside n)
  ]

  asker_same : after i.core ≡ parts i.core
  asker_same = none_invalidated i l g d.snoop them parts i.core (asking_out cores i.core)

  going_each : (k : ℕ) → k ≢ i.core → IsGoing m (g + d.memory) (after k)
  going_each k n =
      let s = kept.kind.0 k in
      by_cases (IsGoing m (g + d.memory)) k
      (λ _. inr (record {
        due = g + d.snoop;
        invalidate = refl;
        before = omega arith;
        held = share_held_shared m cores k (parts k).held s.held;
        reply = settled_before m cores k settled (g + d.snoop) (parts k).want (omega arith) (kept.settled k) s.reply;
      }))
      (λ out. inl (sharer_clear m cores k (λ h. false≢true (sym out ∙ member_in cores i.core k n h)) (parts k) s))

  taken_kept : Invariant t (line_of (Owned i.core) (max settled (g + d.memory + 1)) m (answered t i.core (g + d.memory) true m after))
  taken_kept =
      alone_reply t i.core (g + d.memory) m after settled (omega arith)
      (λ k. by_cases (IsPunctualPart t) k
      (λ _. record { reply = (kept.punctual k).reply; invalidate = omega arith; snoop = (kept.punctual k).snoop }) (λ _. kept.punctual k))
      (λ k. by_cases (λ q. IsSettled settled q.want) k (λ _. kept.settled k) (λ _. kept.settled k))
      (subst (λ q. IsHeldShared m q.held) (sym asker_same) (share_held_shared m cores i.core (parts i.core).held (kept.kind.0 i.core).held))
      (subst (λ q. q.invalidate ≡ None) (sym asker_same) (kept.kind.0 i.core).invalidate)
      going_each
      (λ k. by_cases (λ q. q.snoop ≡ None) k (λ _. kept.kind.1 k) (λ _. kept.kind.1 k))

  taken_row : IsRow t i l g settled parts (outcome (map (λ k. send k d.snoop Invalidate) them ++ send i.core d.memory (Reply true m) ∷ []) (Owned i.core) m)
  taken_row =
      let last : Post = post_of i l g (send i.core d.memory (Reply true m)) in
      let first : List Post = map (invalidation i l g d.snoop) them in
      let fresh : AreFresh parts (first ++ last ∷ []) =
      fresh_append parts first (last ∷ []) (fresh_invalidations i l g d.snoop cores i.core parts (λ k. (kept.kind.0 k).invalidate))
      (subst (λ q. q.want ≡ Asked) (sym asker_same) asked, tt) in
      let kept' : Invariant t (line_of (Owned i.core) (fold settled_by settled (first ++ last ∷ [])) m (all_received parts (first ++ last ∷ []))) =
      subst (λ n. Invariant t (line_of (Owned i.core) n m (all_received parts (first ++ last ∷ [])))) (sym (settled_after i l g d.snoop settled them (last ∷ [])))
      (subst (λ ps. Invariant t (line_of (Owned i.core) (max settled (g + d.memory + 1)) m ps)) (sym (received_append parts first (last ∷ []))) taken_kept) in
      subst (IsPosts t settled (Owned i.core) m parts)
      (sym (map-append (post_of i l g) (map (λ k. send k d.snoop Invalidate) them) (send i.core d.memory (Reply true m) ∷ [])
      ∙ ap (λ ps. ps ++ last ∷ []) (sent_all i l g d.snoop them)))
      (fresh, kept')

module _ (t g settled l : ℕ) (parts : ℕ → Part) (soon : t ≤ g) (d : Delays) (i : Id) (low : i.core < MOST_CORES) (short : d.snoop < d.memory)
    (asked : (parts i.core).want ≡ Asked) (unwritable : IsUnwritable (parts i.core).held) where
  own_row : (kind : EntryKind) (m : Words) (mine early : Bool) → owns i.core kind ≡ mine → nat_lt g settled ≡ early → IsNotFor i.core kind
      → Invariant t (line_of kind settled m parts) → IsRow t i l g settled parts (row d m (ReadOwn i l) kind mine early)
  unfolding row
  own_row (Moving o r x) m mine early my at other k = retry_row t l g settled d.snoop i (Moving o r x) m parts asked other k
  own_row (Owned o) m mine true my at other k = retry_row t l g settled d.snoop i (Owned o) m parts asked other k
  own_row Idle m mine true my at other k = retry_row t l g settled d.snoop i Idle m parts asked other k
  own_row (Shared cores) m mine true my at other k = retry_row t l g settled d.snoop i (Shared cores) m parts asked other k
  own_row (Owned o) m false false my at other k =
      ((k.kind.1 o, tt), moving_kept t g settled d.snoop o i.core true m parts soon (ltb-false g settled at) (λ e. eqb-false o i.core my (sym e)) low asked k)
  own_row (Owned o) m true false my at other k =
      mine_row t g settled m parts soon d i l asked unwritable (subst (λ j. Invariant t (line_of (Owned j) settled m parts)) (eqb-true o i.core my) k)
  own_row Idle m mine false my at other k = idle_row t g settled m parts soon d i l asked unwritable k
  own_row (Shared cores) m mine false my at other k = taken_row t g settled l cores m parts d i soon (ltb-false g settled at) short asked k

-- a core that begins to wait
module _ (t : ℕ) (id : Id) (x : Line) (unwritable : IsUnwritable (x.parts id.core).held) (want : (x.parts id.core).want ≡ Nothing) (k : Invariant t x) where
  abbrev waiting : Line
  waiting = with_part id.core (asking_part (x.parts id.core)) x

  waits : Invariant t waiting
  waits = asks t id.core x want k

  wants : (waiting.parts id.core).want ≡ Asked
  wants = at id.core (asking_part (x.parts id.core)) x.parts (λ q. q.want ≡ Asked) refl

  still_unwritable : IsUnwritable (waiting.parts id.core).held
  still_unwritable = at id.core (asking_part (x.parts id.core)) x.parts (λ q. IsUnwritable q.held) unwritable

  for_another : IsNotFor id.core x.entry.kind
  for_another = not_for id.core (x.parts id.core) x.parts x.entry.words x.entry.settled x.entry.kind (λ e. nothing≢asked (sym want ∙ e)) k.kind

  module _ (grant line : ℕ) (d : Delays) (soon : t ≤ grant) (low : id.core < MOST_CORES) where
    read_served : IsServed t d grant (Read id line) waiting
    unfolding serve
    read_served =
        let r = read_row t grant x.entry.settled line waiting.parts soon d id low wants still_unwritable x.entry.kind x.entry.words
        (owns id.core x.entry.kind) (nat_lt grant x.entry.settled) refl refl for_another waits in
        record { fresh = r.0; kept = r.1 }

    own_served : d.snoop < d.memory → IsServed t d grant (ReadOwn id line) waiting
    unfolding serve
    own_served short =
        let r = own_row t grant x.entry.settled line waiting.parts soon d id low short wants still_unwritable x.entry.kind x.entry.words
        (owns id.core x.entry.kind) (nat_lt grant x.entry.settled) refl refl for_another waits in
        record { fresh = r.0; kept = r.1 }

pub reads : Reads
reads t c grant line d id x held want soon core low k =
    subst (λ j. IsServed t d grant (Read id line) (with_part j (asking_part (x.parts j)) x)) core
    (read_served t id x (subst (λ j. IsUnwritable (x.parts j).held) (sym core) (subst IsUnwritable (sym held) tt)) (subst (λ j. (x.parts j).want ≡ Nothing) (sym core) want) k
    grant line d soon (subst (λ j. j < MOST_CORES) (sym core) low))

pub owns_line : Owns
owns_line t c grant line d id x unwritable want soon core low short k =
    subst (λ j. IsServed t d grant (ReadOwn id line) (with_part j (asking_part (x.parts j)) x)) core
    (own_served t id x (subst (λ j. IsUnwritable (x.parts j).held) (sym core) unwritable) (subst (λ j. (x.parts j).want ≡ Nothing) (sym core) want) k
    grant line d soon (subst (λ j. j < MOST_CORES) (sym core) low) short)
