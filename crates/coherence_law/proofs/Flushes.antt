-- What the rows of WriteBack and Flush keep, and that a line is coherent.
use Rattle.std.proofs.Common.{◌≡◌, ◌≢◌, ◌∙◌, ℕ, ◌+◌, ◌<◌, ◌≤◌, Bool, true, false, Option, None, Some, [], ◌∷◌, nat_lt, refl, sym, ap, subst, inl, inr, arith, unwrap_or}
use Rattle.std.specs.Option.{option_map}
use Rattle.std.proofs.lemmas.Bool.{cases_eq, eqb-true, eqb-false, false≢true}
use Rattle.slack_base.specs.declared.bounds.TheConstants.{MOST_CORES}
use Rattle.slack_base.specs.declared.stamps.Id.{Id}
use Rattle.slack_base.specs.declared.messages.Words.{Words}
use Rattle.slack_base.specs.declared.messages.Ask.TheVariants.{WriteBack, Flush}
use Rattle.slack_base.specs.declared.messages.PostKind.TheVariants.{Reply}
use Rattle.mesi_cache.specs.declared.lines.Held.TheVariants.{Shared as S}
use Rattle.mesi_cache.specs.declared.lines.HeldLine.{HeldLine}
use Rattle.mesi_cache.specs.Lines.{may_write}
use Rattle.status_map.specs.declared.views.EntryKind.{EntryKind}
use Rattle.status_map.specs.declared.views.EntryKind.TheVariants.{Idle, Shared, Owned, Moving}
use Rattle.status_map.specs.declared.views.Delays.{Delays}
use Rattle.status_map.specs.Cores.{with_core, only}
use Rattle.status_map.specs.Table.{outcome, send, row, owns, serve}
use Rattle.coherence_law.specs.Lines.{Want, Nothing, Asked, Filling, Retrying, Part, Line, changed}
use Rattle.coherence_law.specs.Invariant.{NoReply, IsClear, IsMember, IsSharer, IsHeldAlone, IsHeldShared, IsShareHeld, IsShareReply, IsGoing, IsThere, IsOwned, NoSnoops, IsOfKind, IsDueReply, IsDueAt, IsDueSnoop, IsPunctualPart, IsSettled, Invariant}
use Rattle.coherence_law.specs.Steps.{with_part, lost_part, snooped_part, shared_held, IsServed}
use Rattle.coherence_law.specs.LineLaws.{WritesBack}
use Rattle.coherence_law.proofs.Changes.{each, off}
use Rattle.coherence_law.proofs.Parts.{some≢none, not_shared}
use Rattle.coherence_law.proofs.Rows.{line_of, IsRow, shared_reply, alone_reply, member_new, member_still}

-- who holds a line alone is its owner, and has had its Reply
module _ (m : Words) (c : ℕ) (parts : ℕ → Part) (h : HeldLine) (held : (parts c).held ≡ Some h) (may : may_write h.held ≡ true) where
  not_clear : IsClear (parts c) → ⊥
  not_clear s = some≢none h (parts c).held held s.held

  not_going : (reply : ℕ) → IsGoing m reply (parts c) → ⊥
  not_going reply (inl s) = not_clear s
  not_going reply (inr s) = not_shared m (parts c).held h held may s.held

  not_other : (o : ℕ) → c ≢ o → IsOwned m o parts → ⊥
  not_other o n (inl s) = not_clear (s.others c n)
  not_other o n (inr s) = not_going s.due (s.others c n)

  pub owner_there : IsOwned m c parts → IsThere m c parts
  owner_there (inl s) = s
  owner_there (inr s) = absurd (not_shared m (parts c).held h held may s.held)

  pub owner_is : (o : ℕ) → IsOwned m o parts → c ≡ o
  owner_is o s = elim (cases_eq c o) [ inl e ↦ e | inr n ↦ absurd (not_other o n s) ]

  not_sharer : (cores : ℕ) → IsSharer m cores c (parts c) → ⊥
  not_sharer cores s =
      let here : (h.held ≡ S) × (h.words ≡ m) × IsMember cores c = subst (IsShareHeld m cores c) held s.held in
      false≢true (sym (ap may_write here.0) ∙ may)

  -- so the line is owned, or moves
  pub there_from_kind : (settled : ℕ) (kind : EntryKind) → IsOfKind m settled kind parts → IsThere m c parts
  there_from_kind settled Idle s = absurd (not_clear (s.0 c))
  there_from_kind settled (Shared cores) s = absurd (not_sharer cores (s.0 c))
  there_from_kind settled (Owned o) s = owner_there (subst (λ j. IsOwned m j parts) (sym (owner_is o s.0)) s.0)
  there_from_kind settled (Moving o r x) s = owner_there (subst (λ j. IsOwned m j parts) (sym (owner_is o s.owned)) s.owned)

module _ (t : ℕ) (i : Id) (l g settled : ℕ) (m : Words) (parts : ℕ → Part) (d : Delays) (h : HeldLine) (held : (parts i.core).held ≡ Some h) (may : may_write h.held ≡ true) where
  abbrev after : ℕ → Part
  after = changed i.core (lost_part (parts i.core)) parts

  lost_kept : (kind kind' : EntryKind) (w : Words) → IsOfKind w settled kind' after → Invariant t (line_of kind settled m parts) → Invariant t (line_of kind' settled w after)
  lost_kept kind kind' w is k = record {
    punctual = each i.core (lost_part (parts i.core)) parts (λ j q. IsPunctualPart t q)
        (record { reply = (k.punctual i.core).reply; invalidate = (k.punctual i.core).invalidate; snoop = (k.punctual i.core).snoop }) (λ j n. k.punctual j);
    settled = each i.core (lost_part (parts i.core)) parts (λ j q. IsSettled settled q.want) (k.settled i.core) (λ j n. k.settled j);
    kind = is;
  }

  lost_clear : IsThere m i.core parts → (k : ℕ) → IsClear (after k)
  lost_clear s = each i.core (lost_part (parts i.core)) parts (λ j q. IsClear q) (record { held = refl; reply = s.reply; invalidate = s.invalidate }) (λ j n. s.others j n)

  lost_snoops : (k : ℕ) → (after k).snoop ≡ (parts k).snoop
  lost_snoops = each i.core (lost_part (parts i.core)) parts (λ j q. q.snoop ≡ (parts j).snoop) refl (λ j n. refl)

  back_row : (kind : EntryKind) (mine early : Bool) → owns i.core kind ≡ mine → Invariant t (line_of kind settled m parts) → IsRow t i l g settled after (row d m (WriteBack i l h.words) kind mine early)
  unfolding row
  back_row Idle mine early my k = absurd (not_clear m i.core parts h held may (k.kind.0 i.core))
  back_row (Shared cores) mine early my k = absurd (not_sharer m i.core parts h held may cores (k.kind.0 i.core))
  back_row (Owned o) false early my k = absurd (eqb-false o i.core my (sym (owner_is m i.core parts h held may o k.kind.0)))
  back_row (Moving o r x) false early my k = absurd (eqb-false o i.core my (sym (owner_is m i.core parts h held may o k.kind.owned)))
  back_row (Owned o) true early my k =
      let s = there_from_kind m i.core parts h held may settled (Owned o) k.kind in
      (tt, lost_kept (Owned o) Idle h.words (lost_clear s, λ j. lost_snoops j ∙ k.kind.1 j) k)
  back_row (Moving o r x) true early my k =
      let s = there_from_kind m i.core parts h held may settled (Moving o r x) k.kind in
      let e : o ≡ i.core = eqb-true o i.core my in
      let clear = lost_clear s in
      let none : (j : ℕ) (q : Part) → q.held ≡ None → IsHeldAlone h.words q.held = λ j q n. subst (IsHeldAlone h.words) (sym n) tt in (
        tt,
        lost_kept (Moving o r x) (Moving o r x) h.words (record {
          owned = inl (record { held = none o (after o) (clear o).held; reply = (clear o).reply; invalidate = (clear o).invalidate; others = λ j n. clear j });
          due = k.kind.due;
          snoop = lost_snoops o ∙ k.kind.snoop;
          late = k.kind.late;
          only = λ j n. lost_snoops j ∙ k.kind.only j n;
          asked = each i.core (lost_part (parts i.core)) parts (λ j q. (parts j).want ≡ Asked → q.want ≡ Asked) (λ e. e) (λ j n e. e) r k.kind.asked;
          apart = k.kind.apart;
          low = k.kind.low;
        }) k,
      )

back_served : (t grant line : ℕ) (d : Delays) (id : Id) (h : HeldLine) (x : Line) → (x.parts id.core).held ≡ Some h → may_write h.held ≡ true
    → Invariant t x → IsServed t d grant (WriteBack id line h.words) (with_part id.core (lost_part (x.parts id.core)) x)
unfolding serve
back_served t grant line d id h x held may k =
    let r = back_row t id line grant x.entry.settled x.entry.words x.parts d h held may x.entry.kind (owns id.core x.entry.kind) (nat_lt grant x.entry.settled) refl k in
    record { fresh = r.0; kept = r.1 }

pub writes_back : WritesBack
writes_back t c grant line d id h x held modified core k =
    subst (λ j. IsServed t d grant (WriteBack id line h.words) (with_part j (lost_part (x.parts j)) x)) core
    (back_served t grant line d id h x (subst (λ j. (x.parts j).held ≡ Some h) (sym core) held) (ap may_write modified) k)

no_fill_shares : (m : Words) (cores k : ℕ) (w : Want) → NoReply w → IsShareReply m cores k w
no_fill_shares m cores k Nothing n = tt
no_fill_shares m cores k Asked n = tt
no_fill_shares m cores k (Filling due x words) n = absurd n
no_fill_shares m cores k (Retrying due) n = tt

-- a part with nothing in it shares whatever is shared
clear_sharer : (m : Words) (cores k : ℕ) (p : Part) → IsClear p → IsSharer m cores k p
clear_sharer m cores k p s = record { held = subst (IsShareHeld m cores k) (sym s.held) tt; reply = no_fill_shares m cores k p.want s.reply; invalidate = s.invalidate }

-- the words of a held line, and what it is once it is shared
abbrev pub words_in : Option HeldLine → Option Words
words_in o = option_map (λ h. h.words) o

module _ (t : ℕ) (i : Id) (l g settled o r : ℕ) (m : Words) (parts : ℕ → Part) (d : Delays) (soon : t ≤ g) (low : i.core < MOST_CORES) (low' : r < MOST_CORES)
    (same : i.core ≡ o) (apart : r ≢ o) (asked : (parts r).want ≡ Asked)
    (punctual : (k : ℕ) → IsPunctualPart t (parts k)) (below : (k : ℕ) → IsSettled settled (parts k).want)
    (there : IsThere m i.core parts) (only_one : (k : ℕ) → k ≢ o → (parts k).snoop ≡ None) where
  module _ (p : Part) (want : p.want ≡ (parts i.core).want) (invalidate : p.invalidate ≡ (parts i.core).invalidate) (snoop : p.snoop ≡ None) where
    abbrev flushed : ℕ → Part
    flushed = changed i.core p parts

    flushed_punctual : (k : ℕ) → IsPunctualPart t (flushed k)
    flushed_punctual = each i.core p parts (λ k q. IsPunctualPart t q)
        (record {
          reply = subst (λ w. IsDueReply t w) (sym want) (punctual i.core).reply;
          invalidate = subst (λ w. IsDueAt t w) (sym invalidate) (punctual i.core).invalidate;
          snoop = subst (λ w. IsDueSnoop t w) (sym snoop) tt;
        }) (λ k n. punctual k)

    flushed_settled : (k : ℕ) → IsSettled settled (flushed k).want
    flushed_settled = each i.core p parts (λ k q. IsSettled settled q.want) (subst (IsSettled settled) (sym want) (below i.core)) (λ k n. below k)

    flushed_snoops : NoSnoops flushed
    flushed_snoops = each i.core p parts (λ k q. q.snoop ≡ None) snoop (λ k n. only_one k (λ e. n (e ∙ sym same)))

    flushed_asked : (flushed r).want ≡ Asked
    flushed_asked = off i.core p parts (λ q. q.want ≡ Asked) r (λ e. apart (e ∙ same)) asked

    flushed_invalidate : p.invalidate ≡ None
    flushed_invalidate = invalidate ∙ there.invalidate

    flushed_fill : NoReply p.want
    flushed_fill = subst NoReply (sym want) there.reply

    -- the owner gave it up
    all_clear : p.held ≡ None → (k : ℕ) → IsClear (flushed k)
    all_clear held = each i.core p parts (λ k q. IsClear q) (record { held = held; reply = flushed_fill; invalidate = flushed_invalidate }) (λ k n. there.others k n)

    taken_row : (w : Words) → p.held ≡ None → IsRow t i l g settled flushed (outcome (send r d.transfer (Reply true w) ∷ []) (Owned r) w)
    taken_row w held =
        let clear = all_clear held in (
          (flushed_asked, tt),
          alone_reply t r (g + d.transfer) w flushed settled (omega arith) flushed_punctual flushed_settled
              (subst (IsHeldShared w) (sym (clear r).held) tt) (clear r).invalidate (λ k n. inl (clear k)) flushed_snoops,
        )

    none_row : p.held ≡ None → IsRow t i l g settled flushed (outcome (send r d.transfer (Reply false m) ∷ []) (Shared (only r)) m)
    none_row held =
        let clear = all_clear held in (
          (flushed_asked, tt),
          shared_reply t r (g + d.transfer) m (only r) flushed settled (omega arith) flushed_punctual flushed_settled
              (λ k. clear_sharer m (only r) k (flushed k) (clear k)) (member_new 0 r low') flushed_snoops,
        )

    -- the owner keeps it, and shares it
    both_row : (w : Words) (h : HeldLine) → p.held ≡ Some h → h.held ≡ S → h.words ≡ w
        → IsRow t i l g settled flushed (outcome (send r d.transfer (Reply false w) ∷ []) (Shared (with_core (only i.core) r)) w)
    both_row w h held shared words =
        let cores = with_core (only i.core) r in (
          (flushed_asked, tt),
          shared_reply t r (g + d.transfer) w cores flushed settled (omega arith) flushed_punctual flushed_settled
              (each i.core p parts (λ k q. IsSharer w cores k q)
              (record {
                held = subst (IsShareHeld w cores i.core) (sym held) (shared, words, member_still (only i.core) r low' i.core (member_new 0 i.core low));
                reply = no_fill_shares w cores i.core p.want flushed_fill;
                invalidate = flushed_invalidate;
              })
              (λ k n. clear_sharer w cores k (parts k) (there.others k n))) (member_new (only i.core) r low') flushed_snoops,
        )

  pub flush_row : (x mine early : Bool) → owns i.core (Moving o r x) ≡ mine → (held : Option HeldLine) → (parts i.core).held ≡ held
      → IsRow t i l g settled (changed i.core (snooped_part x (parts i.core)) parts) (row d m (Flush i l (words_in held)) (Moving o r x) mine early)
  unfolding row
  flush_row x false early my held is = absurd (eqb-false o i.core my (sym same))
  flush_row true true early my held is = taken_row (snooped_part true (parts i.core)) refl refl refl (unwrap_or (words_in held) m) refl
  flush_row false true early my None is = none_row (snooped_part false (parts i.core)) refl refl refl (ap (option_map shared_held) is)
  flush_row false true early my (Some h) is = both_row (snooped_part false (parts i.core)) refl refl refl h.words (shared_held h) (ap (option_map shared_held) is) refl refl
