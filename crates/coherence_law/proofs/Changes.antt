-- One part of a line changed.
use Rattle.std.proofs.Common.{◌≡◌, ◌≢◌, ◌∙◌, ℕ, true, None, refl, sym, subst, inl, inr}
use Rattle.std.proofs.lemmas.Bool.{cases_eq, eq-eqb, ne_eqb}
use Rattle.slack_base.specs.declared.messages.Words.{Words}
use Rattle.status_map.specs.declared.views.EntryKind.{EntryKind}
use Rattle.status_map.specs.declared.views.EntryKind.TheVariants.{Idle, Shared, Owned, Moving}
use Rattle.coherence_law.specs.Lines.{Asked, Filling, Part, Line, changed}
use Rattle.coherence_law.specs.Invariant.{NoReply, IsClear, IsSharer, IsHeldAlone, IsHeldShared, IsLeaving, IsGoing, IsThere, IsComing, IsOwned, IsOfKind, IsPunctualPart, IsSettled, Invariant}
use Rattle.coherence_law.specs.Steps.{with_part}

module _ (c : ℕ) (p : Part) (parts : ℕ → Part) where
  pub changed_at : (k : ℕ) → k ≡ c → changed c p parts k ≡ p
  changed_at k e = rw (eq-eqb k c e) refl

  pub changed_off : (k : ℕ) → k ≢ c → changed c p parts k ≡ parts k
  changed_off k n = rw (ne_eqb k c n) refl

  -- what is true of the new part and of the others is true of each
  pub each : (Q : ℕ → Part → Type 0) → Q c p → ((k : ℕ) → k ≢ c → Q k (parts k)) → (k : ℕ) → Q k (changed c p parts k)
  each Q here there k = elim (cases_eq k c) [
    | inl e ↦ subst (λ j. Q j (changed c p parts j)) (sym e) (subst (Q c) (sym (changed_at c refl)) here)
    | inr n ↦ subst (Q k) (sym (changed_off k n)) (there k n)
  ]

  pub off : (Q : Part → Type 0) (k : ℕ) → k ≢ c → Q (parts k) → Q (changed c p parts k)
  off Q k n h = subst Q (sym (changed_off k n)) h

  pub at : (Q : Part → Type 0) → Q p → Q (changed c p parts c)
  at Q h = subst Q (sym (changed_at c refl)) h

not_back : (a b : ℕ) → a ≢ b → b ≢ a
not_back a b n e = n (sym e)

module _ (m : Words) (o : ℕ) (p : Part) (parts : ℕ → Part) where
  -- the owner's part changes
  pub there_at : IsHeldAlone m p.held → NoReply p.want → p.invalidate ≡ None → ((k : ℕ) → k ≢ o → IsClear (parts k)) → IsThere m o (changed o p parts)
  there_at held fill invalidate others = record {
    held = at o p parts (λ q. IsHeldAlone m q.held) held;
    reply = at o p parts (λ q. NoReply q.want) fill;
    invalidate = at o p parts (λ q. q.invalidate ≡ None) invalidate;
    others = λ k n. off o p parts IsClear k n (others k n);
  }

  pub coming_at : (due : ℕ) → p.want ≡ Filling due true m → IsHeldShared m p.held → p.invalidate ≡ None → ((k : ℕ) → k ≢ o → IsGoing m due (parts k)) → IsComing m o (changed o p parts)
  coming_at due want held invalidate others = record {
    due = due;
    reply = at o p parts (λ q. q.want ≡ Filling due true m) want;
    held = at o p parts (λ q. IsHeldShared m q.held) held;
    invalidate = at o p parts (λ q. q.invalidate ≡ None) invalidate;
    others = λ k n. off o p parts (IsGoing m due) k n (others k n);
  }

  -- another part changes
  module _ (c : ℕ) (apart : c ≢ o) where
    pub there_off : IsThere m o parts → IsClear p → IsThere m o (changed c p parts)
    there_off s clear = record {
      held = off c p parts (λ q. IsHeldAlone m q.held) o (not_back c o apart) s.held;
      reply = off c p parts (λ q. NoReply q.want) o (not_back c o apart) s.reply;
      invalidate = off c p parts (λ q. q.invalidate ≡ None) o (not_back c o apart) s.invalidate;
      others = each c p parts (λ k q. k ≢ o → IsClear q) (λ _. clear) (λ k _ n. s.others k n);
    }

    pub coming_off : (s : IsComing m o parts) → IsGoing m s.due p → IsComing m o (changed c p parts)
    coming_off s going = record {
      due = s.due;
      reply = off c p parts (λ q. q.want ≡ Filling s.due true m) o (not_back c o apart) s.reply;
      held = off c p parts (λ q. IsHeldShared m q.held) o (not_back c o apart) s.held;
      invalidate = off c p parts (λ q. q.invalidate ≡ None) o (not_back c o apart) s.invalidate;
      others = each c p parts (λ k q. k ≢ o → IsGoing m s.due q) (λ _. going) (λ k _ n. s.others k n);
    }

-- what a change of a part has to keep: what the part is where no core holds the line, where cores share it, and where
-- one owns it or is to own it
pub record IsChange (m : Words) (c : ℕ) (p : Part) (parts : ℕ → Part) : Type 0 where
  pub clear : IsClear (parts c) → IsClear p
  pub shares : (cores : ℕ) → IsSharer m cores c (parts c) → IsSharer m cores c p
  pub there : IsThere m c parts → IsThere m c (changed c p parts)
  pub coming : IsComing m c parts → IsOwned m c (changed c p parts)
  pub leaves : (reply : ℕ) → IsLeaving m reply (parts c) → IsGoing m reply p

-- the core that the line moves to waits
abbrev pub IsAwaited : EntryKind → (ℕ → Part) → Type 0
IsAwaited (Moving owner requester exclusive) parts = (parts requester).want ≡ Asked
IsAwaited _ parts = Unit {0}

-- the line doesn't move to this core
abbrev pub IsNotFor : ℕ → EntryKind → Type 0
IsNotFor c (Moving owner requester exclusive) = requester ≢ c
IsNotFor c _ = Unit {0}

module _ (m : Words) (c : ℕ) (p : Part) (parts : ℕ → Part) (is : IsChange m c p parts) where
  going : (reply : ℕ) → IsGoing m reply (parts c) → IsGoing m reply p
  going reply (inl clear) = inl (is.clear clear)
  going reply (inr leaving) = is.leaves reply leaving

  own_there : IsThere m c parts → IsOwned m c (changed c p parts)
  own_there s = inl (is.there s)

  own : IsOwned m c parts → IsOwned m c (changed c p parts)
  own (inl s) = own_there s
  own (inr s) = is.coming s

  other : (o : ℕ) → c ≢ o → IsOwned m o parts → IsOwned m o (changed c p parts)
  other o n (inl s) = inl (there_off m o p parts c n s (is.clear (s.others c n)))
  other o n (inr s) = inr (coming_off m o p parts c n s (going s.due (s.others c n)))

  pub owned_change : (o : ℕ) → IsOwned m o parts → IsOwned m o (changed c p parts)
  owned_change o s = elim (cases_eq c o) [
    | inl e ↦ subst (λ k. IsOwned m k (changed c p parts)) e (own (subst (λ k. IsOwned m k parts) (sym e) s))
    | inr n ↦ other o n s
  ]

  module _ (snoop : p.snoop ≡ (parts c).snoop) where
    same_snoops : (k : ℕ) → (changed c p parts k).snoop ≡ (parts k).snoop
    same_snoops = each c p parts (λ k q. q.snoop ≡ (parts k).snoop) snoop (λ k n. refl)

    pub kind_change : (settled : ℕ) (kind : EntryKind) → IsAwaited kind (changed c p parts) → IsOfKind m settled kind parts → IsOfKind m settled kind (changed c p parts)
    kind_change settled Idle a s = (each c p parts (λ k q. IsClear q) (is.clear (s.0 c)) (λ k n. s.0 k), λ k. same_snoops k ∙ s.1 k)
    kind_change settled (Shared cores) a s =
        (each c p parts (λ k q. IsSharer m cores k q) (is.shares cores (s.0 c)) (λ k n. s.0 k), λ k. same_snoops k ∙ s.1 k)
    kind_change settled (Owned o) a s = (owned_change o s.0, λ k. same_snoops k ∙ s.1 k)
    kind_change settled (Moving o r x) a s = record {
      owned = owned_change o s.owned;
      due = s.due;
      snoop = same_snoops o ∙ s.snoop;
      late = s.late;
      only = λ k n. same_snoops k ∙ s.only k n;
      asked = a;
      apart = s.apart;
      low = s.low;
    }

module _ (c : ℕ) (p : Part) (parts : ℕ → Part) where
  -- a core that waits goes on to
  awaited_still : (m : Words) (settled : ℕ) (kind : EntryKind) → ((parts c).want ≡ Asked → p.want ≡ Asked) → IsOfKind m settled kind parts → IsAwaited kind (changed c p parts)
  awaited_still m settled Idle h s = tt
  awaited_still m settled (Shared cores) h s = tt
  awaited_still m settled (Owned o) h s = tt
  awaited_still m settled (Moving o r x) h s =
      each c p parts (λ k q. (parts k).want ≡ Asked → q.want ≡ Asked) h (λ k n e. e) r s.asked

  awaited_off : (m : Words) (settled : ℕ) (kind : EntryKind) → IsNotFor c kind → IsOfKind m settled kind parts → IsAwaited kind (changed c p parts)
  awaited_off m settled Idle n s = tt
  awaited_off m settled (Shared cores) n s = tt
  awaited_off m settled (Owned o) n s = tt
  awaited_off m settled (Moving o r x) n s = off c p parts (λ q. q.want ≡ Asked) r n s.asked

  -- a core that doesn't wait is none that the line moves to
  pub not_for : (m : Words) (settled : ℕ) (kind : EntryKind) → ((parts c).want ≡ Asked → ⊥) → IsOfKind m settled kind parts → IsNotFor c kind
  not_for m settled Idle h s = tt
  not_for m settled (Shared cores) h s = tt
  not_for m settled (Owned o) h s = tt
  not_for m settled (Moving o r x) h s = λ e. h (subst (λ k. (parts k).want ≡ Asked) e s.asked)

module _ (t c : ℕ) (p : Part) (x : Line) (is : IsChange x.entry.words c p x.parts) (snoop : p.snoop ≡ (x.parts c).snoop) (punctual : IsPunctualPart t p) (settled : IsSettled x.entry.settled p.want) (k : Invariant t x) where
  kept_with : IsAwaited x.entry.kind (changed c p x.parts) → Invariant t (with_part c p x)
  kept_with awaited = record {
    punctual = each c p x.parts (λ j q. IsPunctualPart t q) punctual (λ j n. k.punctual j);
    settled = each c p x.parts (λ j q. IsSettled x.entry.settled q.want) settled (λ j n. k.settled j);
    kind = kind_change x.entry.words c p x.parts is snoop x.entry.settled x.entry.kind awaited k.kind;
  }

  pub kept_change : ((x.parts c).want ≡ Asked → p.want ≡ Asked) → Invariant t (with_part c p x)
  kept_change h = kept_with (awaited_still c p x.parts x.entry.words x.entry.settled x.entry.kind h k.kind)

  pub kept_answer : IsNotFor c x.entry.kind → Invariant t (with_part c p x)
  kept_answer n = kept_with (awaited_off c p x.parts x.entry.words x.entry.settled x.entry.kind n k.kind)
