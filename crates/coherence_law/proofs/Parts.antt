-- The steps that send nothing.
use Rattle.std.proofs.Common.{◌≡◌, ◌∙◌, ℕ, ◌<◌, ◌≤◌, Bool, true, false, Option, None, Some, refl, sym, ap, subst, inl, inr, cond, arith}
use Rattle.std.proofs.lemmas.Bool.{false≢true}
use Rattle.slack_base.specs.declared.messages.Words.{Words}
use Rattle.mesi_cache.specs.declared.lines.Held.TheVariants.{Shared as S, Exclusive as E}
use Rattle.mesi_cache.specs.declared.lines.HeldLine.{HeldLine}
use Rattle.mesi_cache.specs.Lines.{may_write}
use Rattle.coherence_law.specs.Lines.{Want, Nothing, Asked, Filling, Retrying, Line}
use Rattle.coherence_law.specs.Invariant.{NoReply, IsMember, IsAloneAs, IsHeldShared, IsShareReply, IsShareHeld, IsReplyBefore, IsDueReply, IsDueAt, Invariant}
use Rattle.coherence_law.specs.Steps.{with_part, filled_part, retried_part, invalidated_part, lost_part, written_part, asking_part}
use Rattle.coherence_law.specs.LineLaws.{Fills, Retries, Invalidates, Losses, Writes, Clocks}
use Rattle.coherence_law.proofs.Changes.{there_at, coming_at, kept_change}

-- what a Reply on its way says
abbrev due_of : Want → ℕ
due_of (Filling due exclusive words) = due
due_of _ = 0

abbrev exclusive_of : Want → Bool
exclusive_of (Filling due exclusive words) = exclusive
exclusive_of _ = false

abbrev words_of : Words → Want → Words
words_of w (Filling due exclusive words) = words
words_of w _ = w

pub asked≢filling : (due : ℕ) (x : Bool) (w : Words) → Filling due x w ≡ Asked → ⊥
asked≢filling due x w e = subst NoReply (sym e) tt

abbrev is_retrying : Want → Type 0
is_retrying (Retrying due) = Unit {0}
is_retrying _ = ⊥

pub asked≢retrying : (due : ℕ) → Retrying due ≡ Asked → ⊥
asked≢retrying due e = subst is_retrying e tt

abbrev is_nothing : Want → Type 0
is_nothing Nothing = Unit {0}
is_nothing _ = ⊥

pub nothing≢asked : Nothing ≡ Asked → ⊥
nothing≢asked e = subst is_nothing e tt

abbrev IsSome : {A : Type 0} → Option A → Type 0
IsSome None = ⊥
IsSome (Some a) = Unit {0}

pub some≢none : {A : Type 0} (a : A) (o : Option A) → o ≡ Some a → o ≡ None → ⊥
some≢none a o s n = subst IsSome (sym s ∙ n) tt

pub fills : Fills
fills t c due exclusive words x want now k =
    let parts = x.parts in let m = x.entry.words in let p = filled_part exclusive words (parts c) in
    let unclear : NoReply (parts c).want → ⊥ = λ h. subst NoReply want h in
    let held_shared : exclusive ≡ false → words ≡ m → IsHeldShared m p.held = λ e w. (ap (λ b. cond b E S) e, w) in
    kept_change t c p x
    (record {
      clear = λ h. absurd (unclear h.reply);
      shares = λ cores h.
          let f : (exclusive ≡ false) × (words ≡ m) × IsMember cores c = subst (IsShareReply m cores c) want h.reply in
          record { held = (ap (λ b. cond b E S) f.0, f.1, f.2); reply = tt; invalidate = h.invalidate };
      there = λ h. absurd (unclear h.reply);
      coming = λ h.
          let e : Filling due exclusive words ≡ Filling h.due true m = sym want ∙ h.reply in
          let alone : exclusive ≡ true = ap exclusive_of e in
          let same : words ≡ m = ap (words_of m) e in
          let at : due ≡ h.due = ap due_of e in
          inl (there_at m c p parts (subst (λ b. IsAloneAs m words (cond b E S)) (sym alone) same) tt h.invalidate
          (λ j n. elim (h.others j n) [
            | inl clear ↦ clear
            | inr l ↦
                let soon : t ≤ l.due = subst (IsDueAt t) l.invalidate (k.punctual j).invalidate in
                let early = l.before in
                absurd (omega arith)
          ]));
      leaves = λ reply l.
          let f : (exclusive ≡ false) × (words ≡ m) × (due < l.due) = subst (IsReplyBefore m l.due) want l.reply in
          inr (record { due = l.due; invalidate = l.invalidate; before = l.before; held = held_shared f.0 f.1; reply = tt });
    })
    refl
    (record { reply = tt; invalidate = (k.punctual c).invalidate; snoop = (k.punctual c).snoop }) tt k (λ e. absurd (asked≢filling due exclusive words (sym want ∙ e)))

pub retries : Retries
retries t c due x want k =
    let parts = x.parts in let m = x.entry.words in let p = retried_part (parts c) in
    kept_change t c p x
    (record {
      clear = λ h. record { held = h.held; reply = tt; invalidate = h.invalidate };
      shares = λ cores h. record { held = h.held; reply = tt; invalidate = h.invalidate };
      there = λ h. there_at m c p parts h.held tt h.invalidate h.others;
      coming = λ h. absurd (subst NoReply (sym want ∙ h.reply) tt);
      leaves = λ reply l. inr (record { due = l.due; invalidate = l.invalidate; before = l.before; held = l.held; reply = tt });
    })
    refl
    (record { reply = tt; invalidate = (k.punctual c).invalidate; snoop = (k.punctual c).snoop }) tt k (λ e. absurd (asked≢retrying due (sym want ∙ e)))

-- a Reply due before this isn't on its way any more
late_fill : (m : Words) (end t : ℕ) (w : Want) → end ≤ t → IsReplyBefore m end w → IsDueReply t w → NoReply w
late_fill m end t Nothing e h d = tt
late_fill m end t Asked e h d = tt
late_fill m end t (Filling due exclusive words) e h d = let low = h.2 in omega arith
late_fill m end t (Retrying due) e h d = tt

abbrev IsAtMost : ℕ → Option ℕ → Type 0
IsAtMost t None = Unit {0}
IsAtMost t (Some due) = due ≤ t

pub invalidates : Invalidates
invalidates t c due x at now k =
    let parts = x.parts in let m = x.entry.words in let p = invalidated_part (parts c) in
    kept_change t c p x
    (record {
      clear = λ h. record { held = refl; reply = h.reply; invalidate = refl };
      shares = λ cores h. record { held = tt; reply = h.reply; invalidate = refl };
      there = λ h. there_at m c p parts tt h.reply refl h.others;
      coming = λ h. inr (coming_at m c p parts h.due h.reply tt refl h.others);
      leaves = λ reply l.
          let same : l.due ≤ t = subst (IsAtMost t) (sym at ∙ l.invalidate) now in
          inl (record { held = refl; reply = late_fill m l.due t (parts c).want same l.reply (k.punctual c).reply; invalidate = refl });
    })
    refl
    (record { reply = (k.punctual c).reply; invalidate = tt; snoop = (k.punctual c).snoop }) (k.settled c) k (λ e. e)

pub losses : Losses
losses t c h x held clean k =
    let parts = x.parts in let m = x.entry.words in let p = lost_part (parts c) in
    kept_change t c p x
    (record {
      clear = λ s. record { held = refl; reply = s.reply; invalidate = s.invalidate };
      shares = λ cores s. record { held = tt; reply = s.reply; invalidate = s.invalidate };
      there = λ s. there_at m c p parts tt s.reply s.invalidate s.others;
      coming = λ s. inr (coming_at m c p parts s.due s.reply tt s.invalidate s.others);
      leaves = λ reply l. inr (record { due = l.due; invalidate = l.invalidate; before = l.before; held = tt; reply = l.reply });
    })
    refl
    (record { reply = (k.punctual c).reply; invalidate = (k.punctual c).invalidate; snoop = (k.punctual c).snoop }) (k.settled c) k (λ e. e)

-- what is held Shared isn't written
pub not_shared : (m : Words) (o : Option HeldLine) (h : HeldLine) → o ≡ Some h → may_write h.held ≡ true → IsHeldShared m o → ⊥
not_shared m o h is may s =
    let here : (h.held ≡ S) × (h.words ≡ m) = subst (IsHeldShared m) is s in
    false≢true (sym (ap may_write here.0) ∙ may)

pub writes : Writes
writes t c h words x held may k =
    let parts = x.parts in let m = x.entry.words in let p = written_part words (parts c) in
    let holds : (parts c).held ≡ None → ⊥ = some≢none h (parts c).held held in
    kept_change t c p x
    (record {
      clear = λ s. absurd (holds s.held);
      shares = λ cores s.
          let here : (h.held ≡ S) × (h.words ≡ m) × IsMember cores c = subst (IsShareHeld m cores c) held s.held in
          absurd (false≢true (sym (ap may_write here.0) ∙ may));
      there = λ s. there_at m c p parts tt s.reply s.invalidate s.others;
      coming = λ s. absurd (not_shared m (parts c).held h held may s.held);
      leaves = λ reply l. absurd (not_shared m (parts c).held h held may l.held);
    })
    refl
    (record { reply = (k.punctual c).reply; invalidate = (k.punctual c).invalidate; snoop = (k.punctual c).snoop }) (k.settled c) k (λ e. e)

-- an ask is sent
pub asks : (t c : ℕ) (x : Line) → (x.parts c).want ≡ Nothing → Invariant t x → Invariant t (with_part c (asking_part (x.parts c)) x)
asks t c x want k =
    let parts = x.parts in let m = x.entry.words in let p = asking_part (parts c) in
    kept_change t c p x
    (record {
      clear = λ s. record { held = s.held; reply = tt; invalidate = s.invalidate };
      shares = λ cores s. record { held = s.held; reply = tt; invalidate = s.invalidate };
      there = λ s. there_at m c p parts s.held tt s.invalidate s.others;
      coming = λ s. absurd (subst NoReply (sym want ∙ s.reply) tt);
      leaves = λ reply l. inr (record { due = l.due; invalidate = l.invalidate; before = l.before; held = l.held; reply = tt });
    })
    refl
    (record { reply = tt; invalidate = (k.punctual c).invalidate; snoop = (k.punctual c).snoop }) tt k (λ e. refl)

pub clocks : Clocks
clocks t s x later k = record { punctual = later; settled = k.settled; kind = k.kind }
