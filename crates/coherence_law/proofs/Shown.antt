-- A snoop, and what the invariant says of who holds the line.
use Rattle.std.proofs.Common.{◌≡◌, ◌≢◌, ◌∙◌, ℕ, ◌<◌, ◌≤◌, Bool, Option, None, Some, nat_lt, refl, sym, ap, subst, inl, inr, arith}
use Rattle.std.proofs.lemmas.Bool.{cases_eq}
use Rattle.slack_base.specs.declared.bounds.TheConstants.{MOST_CORES}
use Rattle.slack_base.specs.declared.stamps.Id.{Id}
use Rattle.slack_base.specs.declared.messages.Words.{Words}
use Rattle.slack_base.specs.declared.messages.Ask.TheVariants.{Flush}
use Rattle.mesi_cache.specs.declared.lines.Held.{Held}
use Rattle.mesi_cache.specs.declared.lines.Held.TheVariants.{Shared as S, Exclusive as E, Modified as M}
use Rattle.mesi_cache.specs.declared.lines.HeldLine.{HeldLine}
use Rattle.status_map.specs.declared.views.EntryKind.{EntryKind}
use Rattle.status_map.specs.declared.views.EntryKind.TheVariants.{Idle, Shared, Owned, Moving}
use Rattle.status_map.specs.declared.views.Delays.{Delays}
use Rattle.status_map.specs.Table.{row, owns, serve}
use Rattle.coherence_law.specs.Lines.{Part, Line, changed}
use Rattle.coherence_law.specs.Invariant.{NoReply, IsClear, IsMember, IsHeldAlone, IsAloneAs, IsHeldShared, IsShareHeld, IsGoing, IsThere, IsOwned, IsOfKind, Invariant}
use Rattle.coherence_law.specs.Steps.{with_part, snooped_part, IsServed}
use Rattle.coherence_law.specs.LineLaws.{Coherent, Snoops}
use Rattle.coherence_law.proofs.Parts.{some≢none}
use Rattle.coherence_law.proofs.Rows.{line_of, IsRow, none_on_way}
use Rattle.coherence_law.proofs.Flushes.{there_from_kind, words_in, flush_row}

abbrev due_in : ℕ × Bool → Option (ℕ × Bool) → ℕ × Bool
due_in d None = d
due_in d (Some s) = s

module _ (t : ℕ) (i : Id) (l g settled due : ℕ) (own : Bool) (m : Words) (parts : ℕ → Part) (d : Delays) (early : Bool)
    (snoop : (parts i.core).snoop ≡ Some (due, own)) (now : due ≤ t) (soon : t ≤ g) (low : i.core < MOST_CORES) where
  unsnooped : (parts i.core).snoop ≡ None → ⊥
  unsnooped n = some≢none (due, own) (parts i.core).snoop snoop n

  came : NoReply (parts i.core).want → IsOwned m i.core parts → IsThere m i.core parts
  came none (inl s) = s
  came none (inr s) = absurd (subst NoReply s.reply none)

  snoop_row : (kind : EntryKind) → Invariant t (line_of kind settled m parts)
      → IsRow t i l g settled (changed i.core (snooped_part own (parts i.core)) parts) (row d m (Flush i l (words_in (parts i.core).held)) kind (owns i.core kind) early)
  snoop_row Idle k = absurd (unsnooped (k.kind.1 i.core))
  snoop_row (Shared cores) k = absurd (unsnooped (k.kind.1 i.core))
  snoop_row (Owned o) k = absurd (unsnooped (k.kind.1 i.core))
  snoop_row (Moving o r x) k =
      let s = k.kind in
      let same : i.core ≡ o = elim (cases_eq i.core o) [ inl e ↦ e | inr n ↦ absurd (unsnooped (s.only i.core n)) ] in
      let e : ◌≡◌ {A = Option (ℕ × Bool)} (Some (s.due, x)) (Some (due, own)) = sym s.snoop ∙ ap (λ j. (parts j).snoop) (sym same) ∙ snoop in
      let at : s.due ≡ due = ap (λ q. (due_in (due, own) q).0) e in
      let kind : x ≡ own = ap (λ q. (due_in (due, own) q).1) e in
      let late : settled ≤ s.due = s.late in
      let none : NoReply (parts i.core).want = none_on_way t settled (parts i.core).want (omega arith) (k.settled i.core) (k.punctual i.core).reply in
      let there = came none (subst (λ j. IsOwned m j parts) (sym same) s.owned) in
      subst (λ b. IsRow t i l g settled (changed i.core (snooped_part b (parts i.core)) parts) (row d m (Flush i l (words_in (parts i.core).held)) (Moving o r x) (owns i.core (Moving o r x)) early)) kind
      (flush_row t i l g settled o r m parts d soon low s.low same s.apart s.asked k.punctual k.settled there s.only x (owns i.core (Moving o r x)) early refl (parts i.core).held refl)

snoop_served : (t grant line due : ℕ) (own : Bool) (d : Delays) (id : Id) (x : Line) → (x.parts id.core).snoop ≡ Some (due, own) → due ≤ t → t ≤ grant → id.core < MOST_CORES
    → Invariant t x → IsServed t d grant (Flush id line (words_in (x.parts id.core).held)) (with_part id.core (snooped_part own (x.parts id.core)) x)
unfolding serve
snoop_served t grant line due own d id x snoop now soon low k =
    let r = snoop_row t id line grant x.entry.settled due own x.entry.words x.parts d (nat_lt grant x.entry.settled) snoop now soon low x.entry.kind k in
    record { fresh = r.0; kept = r.1 }

pub snoops : Snoops
snoops t c due grant line own d id x snoop now soon core low k =
    subst (λ j. IsServed t d grant (Flush id line (words_in (x.parts j).held)) (with_part j (snooped_part own (x.parts j)) x)) core
    (snoop_served t grant line due own d id x (subst (λ j. (x.parts j).snoop ≡ Some (due, own)) (sym core) snoop) now soon (subst (λ j. j < MOST_CORES) (sym core) low) k)

module _ (m : Words) (c : ℕ) (parts : ℕ → Part) (h : HeldLine) (held : (parts c).held ≡ Some h) (clean : h.held ≢ M) where
  own_same : (s : Held) → s ≢ M → IsAloneAs m h.words s → h.words ≡ m
  own_same S n e = absurd e
  own_same E n e = e
  own_same M n e = absurd (n refl)

  same_alone : IsHeldAlone m (parts c).held → h.words ≡ m
  same_alone s = own_same h.held clean (subst (IsHeldAlone m) held s)

  same_shared : IsHeldShared m (parts c).held → h.words ≡ m
  same_shared s = let here : (h.held ≡ S) × (h.words ≡ m) = subst (IsHeldShared m) held s in here.1

  same_clear : IsClear (parts c) → h.words ≡ m
  same_clear s = absurd (some≢none h (parts c).held held s.held)

  same_going : (reply : ℕ) → IsGoing m reply (parts c) → h.words ≡ m
  same_going reply (inl s) = same_clear s
  same_going reply (inr s) = same_shared s.held

  same_own : IsOwned m c parts → h.words ≡ m
  same_own (inl s) = same_alone s.held
  same_own (inr s) = same_shared s.held

  same_other : (o : ℕ) → c ≢ o → IsOwned m o parts → h.words ≡ m
  same_other o n (inl s) = same_clear (s.others c n)
  same_other o n (inr s) = same_going s.due (s.others c n)

  same_owned : (o : ℕ) → IsOwned m o parts → h.words ≡ m
  same_owned o s = elim (cases_eq c o) [
    | inl e ↦ same_own (subst (λ j. IsOwned m j parts) (sym e) s)
    | inr n ↦ same_other o n s
  ]

  same_words : (settled : ℕ) (kind : EntryKind) → IsOfKind m settled kind parts → h.words ≡ m
  same_words settled Idle s = same_clear (s.0 c)
  same_words settled (Shared cores) s =
      let here : (h.held ≡ S) × (h.words ≡ m) × IsMember cores c = subst (IsShareHeld m cores c) held (s.0 c).held in here.1
  same_words settled (Owned o) s = same_owned o s.0
  same_words settled (Moving o r x) s = same_owned o s.owned

pub coherent : Coherent
coherent t x k = record {
  alone = λ c j h held may n. ((there_from_kind x.entry.words c x.parts h held may x.entry.settled x.entry.kind k.kind).others j n).held;
  same = λ c h held clean. same_words x.entry.words c x.parts h held clean x.entry.settled x.entry.kind k.kind;
}
