-- A post is applied: what this does to each line.
use Rattle.std.proofs.Common.{◌≡◌, ◌≢◌, ◌∙◌, ℕ, ◌<◌, ◌≤◌, Bool, true, false, Option, None, Some, List, ◌∷◌, ◌++◌, refl, sym, ap, subst, inl, inr, ◌==◌, ◌&&◌}
use Rattle.std.specs.Option.{option_map}
use Rattle.std.proofs.lemmas.Bool.{cases_eq, cases_Bool, ne_eqb, eqb-true, and_parts, false≢true}
use Rattle.slack_base.specs.declared.bounds.TheConstants.{MOST_CORES}
use Rattle.slack_base.specs.declared.messages.Ask.{Ask}
use Rattle.slack_base.specs.declared.messages.Ask.TheVariants.{WriteBack, Flush}
use Rattle.slack_base.specs.declared.messages.Post.{Post}
use Rattle.slack_base.specs.declared.messages.PostKind.{PostKind}
use Rattle.slack_base.specs.declared.messages.PostKind.TheVariants.{Reply, Retry, SnoopShare, SnoopOwn, Invalidate}
use Rattle.slack_base.specs.declared.messages.Words.{Words}
use Rattle.slack_base.specs.declared.stamps.Id.{Id}
use Rattle.slack_base.specs.Messages.{line_of}
use Rattle.mesi_cache.specs.declared.lines.Held.{Held}
use Rattle.mesi_cache.specs.declared.lines.Held.TheVariants.{Shared as S, Exclusive as E, Modified as M}
use Rattle.mesi_cache.specs.declared.lines.CacheLine.{CacheLine}
use Rattle.mesi_cache.specs.declared.lines.HeldLine.{HeldLine}
use Rattle.mesi_cache.specs.Lines.{held_line, filled, shared}
use Rattle.mesi_cache.specs.Caches.{IsCache, line_in, fill_line, victim_of, snoop_line}
use Rattle.status_map.specs.declared.views.EntryView.{EntryView}
use Rattle.status_map.specs.declared.views.Delays.{Delays}
use Rattle.timed_core.specs.Accesses.{held_in}
use Rattle.timed_core.specs.Cores.{HartValue}
use Rattle.timed_core.specs.Posts.{applied, replied, evicted, is_modified, retried, snooped, given_up, without_reservation, flush_of}
use Rattle.timed_core.specs.Touches.{touched_at}
use Rattle.timed_core.specs.Laws.{HoldsBelow}
use Rattle.coherence_law.specs.Lines.{Want, Nothing, Filling, Retrying, Part, changed}
use Rattle.coherence_law.specs.Invariant.{Invariant}
use Rattle.coherence_law.specs.Steps.{with_part, filled_part, retried_part, invalidated_part, lost_part, snooped_part, shared_held, IsServed}
use Rattle.coherence_law.proofs.Changes.{changed_at, changed_off}
use Rattle.coherence_law.proofs.Parts.{fills, retries, invalidates, losses}
use Rattle.coherence_law.proofs.Flushes.{writes_back}
use Rattle.coherence_law.proofs.Shown.{snoops}
use Rattle.timed_core.proofs.Held.{snoop_other, snoop_taken, snoop_shared, IsFill, fill_held, held_below}
use Rattle.coherence_law.proofs.Pending.{HasPosts, skip, take_answer, take_invalidate, take_snoop}
use Rattle.coherence_law.proofs.World.{upd, upd_at, upd_off, to_core, pending, is_wanting, IsPartOf, AreParts, IsLineOf, IsBefore}

-- one core changes: what it has of the line is the new part
module _ (l c : ℕ) (asked asked' : ℕ → ℕ) (inner : ℕ → HartValue) (base : ℕ → List Post) (sent : List Post) (core : HartValue) (rest : List Post) (same : (k : ℕ) → k ≢ c → asked' k ≡ asked k) where
  pub step_parts : (parts parts' : ℕ → Part) → ((k : ℕ) → k ≢ c → parts' k ≡ parts k) → AreParts l asked inner base sent parts
      → IsPartOf l (asked' c) core (rest ++ to_core c sent) (parts' c) → AreParts l asked' (upd c core inner) (upd c rest base) sent parts'
  step_parts parts parts' off are here k = elim (cases_eq k c) [
    | inl e ↦ subst (λ j. IsPartOf l (asked' j) (upd c core inner j) (pending (upd c rest base) sent j) (parts' j)) (sym e)
        (subst (λ i. IsPartOf l (asked' c) i (pending (upd c rest base) sent c) (parts' c)) (sym (upd_at c core inner))
        (subst (λ b. IsPartOf l (asked' c) core (b ++ to_core c sent) (parts' c)) (sym (upd_at c rest base)) here))
    | inr n ↦
        subst (λ i. IsPartOf l (asked' k) i (pending (upd c rest base) sent k) (parts' k)) (sym (upd_off c core inner k n))
        (subst (λ b. IsPartOf l (asked' k) (inner k) (b ++ to_core k sent) (parts' k)) (sym (upd_off c rest base k n))
        (subst (λ q. IsPartOf l (asked' k) (inner k) (pending base sent k) q) (sym (off k n))
        (subst (λ a. IsPartOf l a (inner k) (pending base sent k) (parts k)) (sym (same k n)) (are k))))
  ]

  pub step_changed : (parts : ℕ → Part) (q : Part) → AreParts l asked inner base sent parts
      → IsPartOf l (asked' c) core (rest ++ to_core c sent) q → AreParts l asked' (upd c core inner) (upd c rest base) sent (changed c q parts)
  step_changed parts q are here =
      step_parts parts (changed c q parts) (changed_off c q parts) are
      (subst (λ r. IsPartOf l (asked' c) core (rest ++ to_core c sent) r) (sym (changed_at c q parts c refl)) here)

-- what a step of a core leaves of the lines: each is as it has to be, or an ask is on its way
module _ (lines t : ℕ) (asked : ℕ → ℕ) (inner : ℕ → HartValue) (base : ℕ → List Post) (sent : List Post) (entry : ℕ → EntryView) where
  abbrev pub AreLines : Type 0
  AreLines = (l : ℕ) → l < lines → IsLineOf t l asked inner base sent (entry l)

  abbrev pub AreBefore : Ask → ℕ → Type 0
  AreBefore ask la = (d : Delays) (grant : ℕ) → t ≤ grant → d.snoop < d.memory → (l : ℕ) → l < lines → IsBefore t d grant ask la l asked inner base sent (entry l)

  abbrev pub AreAsked : Ask → Option ℕ → Type 0
  AreAsked ask None = AreLines
  AreAsked ask (Some la) = (la < lines) × AreBefore ask la

  abbrev pub AreStepped : Option Ask → Type 0
  AreStepped None = AreLines
  AreStepped (Some ask) = AreAsked ask (line_of ask)

words_of_held : (o : Option CacheLine) → option_map (λ (h : HeldLine). h.words) (option_map held_line o) ≡ option_map (λ (x : CacheLine). x.words) o
words_of_held None = refl
words_of_held (Some x) = refl

shared_of_held : (o : Option CacheLine) → option_map shared_held (option_map held_line o) ≡ option_map held_line (option_map shared o)
shared_of_held None = refl
shared_of_held (Some x) = refl

is_M : (h : Held) → is_modified h ≡ true → h ≡ M
is_M S e = absurd (false≢true e)
is_M E e = absurd (false≢true e)
is_M M e = refl

not_M : (h : Held) → is_modified h ≡ false → h ≢ M
not_M h e f = false≢true (sym e ∙ ap is_modified f)

module _ (lines t : ℕ) (asked : ℕ → ℕ) (inner : ℕ → HartValue) (base : ℕ → List Post) (sent : List Post) (entry : ℕ → EntryView)
    (c : ℕ) (p : Post) (rest : List Post) (at_base : base c ≡ p ∷ rest) (now : p.due ≤ t) (own : p.line < lines) (world : AreLines lines t asked inner base sent entry)
    (cache : IsCache (inner c).cache) (holds : HoldsBelow lines (inner c).cache) (id : Id) (mine : id.core ≡ c) (low : c < MOST_CORES) where
  abbrev core : HartValue
  core = inner c

  abbrev left : List Post
  left = rest ++ to_core c sent

  -- what waits for the core begins with the post
  waits : (l : ℕ) (within : l < lines) → HasPosts l (p ∷ left) ((world l within).line.parts c)
  waits l within = subst (λ b. HasPosts l (b ++ to_core c sent) ((world l within).line.parts c)) at_base ((world l within).parts c).posts

  -- the line changes, in the core
  changed_line : (l : ℕ) (within : l < lines) (after : HartValue) (q : Part) → Invariant t (with_part c q (world l within).line) → IsPartOf l (asked c) after left q
      → IsLineOf t l asked (upd c after inner) (upd c rest base) sent (entry l)
  changed_line l within after q kept is = record {
    line = with_part c q (world l within).line;
    entry = (world l within).entry;
    parts = step_changed l c asked asked inner base sent after rest (λ k n. refl) (world l within).line.parts q (world l within).parts is;
    kept = kept;
  }

  -- the core has the same of the line as before
  same_part : (l : ℕ) (within : l < lines) (after : HartValue) → p.line ≢ l → held_in after.cache l ≡ held_in core.cache l → (after.waiting && (asked c == l)) ≡ (core.waiting && (asked c == l))
      → AreParts l asked (upd c after inner) (upd c rest base) sent (world l within).line.parts
  same_part l within after other held waiting =
      let x = world l within in
      step_parts l c asked asked inner base sent after rest (λ k n. refl) x.line.parts x.line.parts (λ k n. refl) x.parts
      (record { held = (x.parts c).held ∙ sym held; wants = (x.parts c).wants ∙ sym waiting; posts = skip l p left (x.line.parts c) other (waits l within) })

  same_line : (l : ℕ) (within : l < lines) (after : HartValue) → p.line ≢ l → held_in after.cache l ≡ held_in core.cache l → (after.waiting && (asked c == l)) ≡ (core.waiting && (asked c == l))
      → IsLineOf t l asked (upd c after inner) (upd c rest base) sent (entry l)
  same_line l within after other held waiting =
      let x = world l within in
      record { line = x.line; entry = x.entry; parts = same_part l within after other held waiting; kept = x.kept }

  -- an Invalidate
  invalidated_lines : (code_base : ℕ) → p.kind ≡ Invalidate → AreLines lines t asked (upd c (given_up code_base p.line core) inner) (upd c rest base) sent entry
  invalidated_lines code_base kind l within = elim (cases_eq p.line l) [
    | inl e ↦
        let x = world l within in
        let took = take_invalidate l p left (x.line.parts c) e p.due (rw kind refl) (rw kind refl) (rw kind refl) (waits l within) in
        let after = given_up code_base p.line core in
        changed_line l within after (invalidated_part (x.line.parts c)) (invalidates t c p.due x.line took.0 now x.kept)
        (record {
          held = sym (subst (λ j. held_in (snoop_line core.cache p.line true) j ≡ None) e (snoop_taken core.cache cache p.line));
          wants = (x.parts c).wants;
          posts = record { answer = took.1.answer; invalidate = took.1.invalidate; snoop = took.1.snoop };
        })
    | inr n ↦ same_line l within (given_up code_base p.line core) n (snoop_other core.cache cache p.line true l (λ e. n (sym e))) refl
  ]

  -- a snoop, which is answered with a Flush
  snooped_held : (l : ℕ) (own_it : Bool) (x : Part) → p.line ≡ l → x.held ≡ held_in core.cache l → (snooped_part own_it x).held ≡ held_in (snoop_line core.cache p.line own_it) l
  snooped_held l true x e is = sym (subst (λ j. held_in (snoop_line core.cache p.line true) j ≡ None) e (snoop_taken core.cache cache p.line))
  snooped_held l false x e is =
      ap (option_map shared_held) is
      ∙ shared_of_held (line_in core.cache l)
      ∙ sym (subst (λ j. held_in (snoop_line core.cache p.line false) j ≡ option_map held_line (option_map shared (line_in core.cache j))) e (snoop_shared core.cache cache p.line))

  snooped_lines : (own_it : Bool) (after : HartValue) → after.cache ≡ snoop_line core.cache p.line own_it → after.waiting ≡ core.waiting
      → ((l : ℕ) (within : l < lines) → p.line ≡ l → ((world l within).line.parts c).snoop ≡ Some (p.due, own_it))
      → ((l : ℕ) (within : l < lines) → p.line ≡ l → HasPosts l left (record ((world l within).line.parts c) { snoop = None }))
      → AreStepped lines t asked (upd c after inner) (upd c rest base) sent entry (Some (flush_of id p.line core.cache))
  snooped_lines own_it after its_cache its_waiting says has = (
    own,
    λ d grant soon short l within. elim (cases_eq p.line l) [
      | inl e ↦
          let x = world l within in
          let q = snooped_part own_it (x.line.parts c) in
          let words : option_map (λ (h : HeldLine). h.words) (x.line.parts c).held ≡ option_map (λ (y : CacheLine). y.words) (line_in core.cache p.line)
          = ap (option_map (λ (h : HeldLine). h.words)) ((x.parts c).held ∙ ap (held_in core.cache) (sym e)) ∙ words_of_held (line_in core.cache p.line) in
          record {
            line = with_part c q x.line;
            entry = x.entry;
            parts = step_changed l c asked asked inner base sent after rest (λ k n. refl) x.line.parts q x.parts
                (record {
                  held = snooped_held l own_it (x.line.parts c) e (x.parts c).held ∙ ap (λ k. held_in k l) (sym its_cache);
                  wants = (x.parts c).wants ∙ ap (λ b. b && (asked c == l)) (sym its_waiting);
                  posts = let h = has l within e in record { answer = h.answer; invalidate = h.invalidate; snoop = h.snoop };
                });
            kept = λ n. absurd (n (sym e));
            served = λ _. subst (λ o. IsServed t d grant (Flush id p.line o) (with_part c q x.line)) words
                (snoops t c p.due grant p.line own_it d id x.line (says l within e) now soon mine low x.kept);
          }
      | inr n ↦
          let x = world l within in
          record {
            line = x.line;
            entry = x.entry;
            parts = same_part l within after n (ap (λ k. held_in k l) its_cache ∙ snoop_other core.cache cache p.line own_it l (λ e. n (sym e))) (ap (λ b. b && (asked c == l)) its_waiting);
            kept = λ _. x.kept;
            served = λ e. absurd (n (sym e));
          }
    ],
  )

  -- an answer: the core waited for this line
  module _ (v : Want) (wanting : is_wanting v ≡ true) (want : ((world p.line own).line.parts c).want ≡ v) where
    asked_own : asked c ≡ p.line
    asked_own =
        let both : (core.waiting && (asked c == p.line)) ≡ true = sym ((world p.line own).parts c).wants ∙ ap is_wanting want ∙ wanting in
        eqb-true (asked c) p.line (and_parts core.waiting (asked c == p.line) both).1

    waits_not : (l : ℕ) → p.line ≢ l → (false && (asked c == l)) ≡ (core.waiting && (asked c == l))
    waits_not l n = elim core.waiting as (λ b. (false && (asked c == l)) ≡ (b && (asked c == l))) [ true ↦ sym (ne_eqb (asked c) l (λ e. n (sym asked_own ∙ e))) | false ↦ refl ]

  -- a Retry
  retried_lines : p.kind ≡ Retry → AreLines lines t asked (upd c (retried core) inner) (upd c rest base) sent entry
  retried_lines kind l within = elim (cases_eq p.line l) [
    | inl e ↦
        let x = world l within in
        let took = take_answer l p left (x.line.parts c) e (Retrying p.due) (rw kind refl) (rw kind refl) (rw kind refl) (waits l within) in
        changed_line l within (retried core) (retried_part (x.line.parts c)) (retries t c p.due x.line took.0 x.kept)
        (record {
          held = (x.parts c).held;
          wants = refl;
          posts = record { answer = took.1.answer; invalidate = took.1.invalidate; snoop = took.1.snoop };
        })
    | inr n ↦
        let took = take_answer p.line p left ((world p.line own).line.parts c) refl (Retrying p.due) (rw kind refl) (rw kind refl) (rw kind refl) (waits p.line own) in
        same_line l within (retried core) n refl (waits_not (Retrying p.due) refl took.0 l n)
  ]

  -- a Reply
  module _ (exclusive : Bool) (words : Words) (kind : p.kind ≡ Reply exclusive words) where
    abbrev new : CacheLine
    new = filled p.line exclusive words

    fill : IsFill core.cache new
    fill = fill_held core.cache cache new

    module _ (after : HartValue) (its_cache : after.cache ≡ fill_line core.cache new) (its_waiting : after.waiting ≡ false) where
      taken : (l : ℕ) (within : l < lines) → p.line ≡ l → (((world l within).line.parts c).want ≡ Filling p.due exclusive words) × HasPosts l left (record ((world l within).line.parts c) { want = Nothing })
      taken l within e = take_answer l p left ((world l within).line.parts c) e (Filling p.due exclusive words) (rw kind refl) (rw kind refl) (rw kind refl) (waits l within)

      -- the line that is filled
      filled_line : (l : ℕ) (within : l < lines) → p.line ≡ l → IsLineOf t l asked (upd c after inner) (upd c rest base) sent (entry l)
      filled_line l within e =
          let x = world l within in
          let took = taken l within e in
          changed_line l within after (filled_part exclusive words (x.line.parts c)) (fills t c p.due exclusive words x.line took.0 now x.kept)
          (record {
            held = sym (ap (λ k. held_in k l) its_cache ∙ subst (λ j. held_in (fill_line core.cache new) j ≡ Some (held_line new)) e fill.self);
            wants = sym (ap (λ b. b && (asked c == l)) its_waiting);
            posts = record { answer = took.1.answer; invalidate = took.1.invalidate; snoop = took.1.snoop };
          })

      waiting_not : (l : ℕ) → p.line ≢ l → (after.waiting && (asked c == l)) ≡ (core.waiting && (asked c == l))
      waiting_not l n = ap (λ b. b && (asked c == l)) its_waiting ∙ waits_not (Filling p.due exclusive words) refl (taken p.line own refl).0 l n

      -- a line that is neither filled nor falls out
      stays : (l : ℕ) (within : l < lines) → p.line ≢ l → held_in (fill_line core.cache new) l ≡ held_in core.cache l → IsLineOf t l asked (upd c after inner) (upd c rest base) sent (entry l)
      stays l within n same = same_line l within after n (ap (λ k. held_in k l) its_cache ∙ same) (waiting_not l n)

      none_fell : victim_of core.cache new ≡ None → AreLines lines t asked (upd c after inner) (upd c rest base) sent entry
      none_fell none l within = elim (cases_eq p.line l) [
        | inl e ↦ filled_line l within e
        | inr n ↦ stays l within n (fill.kept none l (λ e. n (sym e)))
      ]

      module _ (v : CacheLine) (fell : victim_of core.cache new ≡ Some v) where
        -- the part of the line that falls out
        lost_is : (l : ℕ) (within : l < lines) → l ≡ v.line → IsPartOf l (asked c) after left (lost_part ((world l within).line.parts c))
        lost_is l within e =
            let x = world l within in
            let n : p.line ≢ l = λ f. fill.apart v fell (sym (f ∙ e)) in
            let h = skip l p left (x.line.parts c) n (waits l within) in
            record {
              held = sym (ap (λ k. held_in k l) its_cache ∙ subst (λ j. held_in (fill_line core.cache new) j ≡ None) (sym e) (fill.gone v fell));
              wants = (x.parts c).wants ∙ sym (waiting_not l n);
              posts = record { answer = h.answer; invalidate = h.invalidate; snoop = h.snoop };
            }

        was_held : (l : ℕ) (within : l < lines) → l ≡ v.line → ((world l within).line.parts c).held ≡ Some (held_line v)
        was_held l within e = ((world l within).parts c).held ∙ subst (λ j. held_in core.cache j ≡ Some (held_line v)) (sym e) (fill.was v fell)

        clean_fell : is_modified v.held ≡ false → AreLines lines t asked (upd c after inner) (upd c rest base) sent entry
        clean_fell clean l within = elim (cases_eq p.line l) [
          | inl e ↦ filled_line l within e
          | inr n ↦ elim (cases_eq l v.line) [
            | inl e ↦ changed_line l within after (lost_part ((world l within).line.parts c)) (losses t c (held_line v) (world l within).line (was_held l within e) (not_M v.held clean) (world l within).kept) (lost_is l within e)
            | inr m ↦ stays l within n (fill.others v fell l (λ e. n (sym e)) m)
          ]
        ]

        as_before : (d : Delays) (grant l : ℕ) → l ≢ v.line → IsLineOf t l asked (upd c after inner) (upd c rest base) sent (entry l)
            → IsBefore t d grant (WriteBack id v.line v.words) v.line l asked (upd c after inner) (upd c rest base) sent (entry l)
        as_before d grant l n x = record { line = x.line; entry = x.entry; parts = x.parts; kept = λ _. x.kept; served = λ e. absurd (n e) }

        back_before : (d : Delays) (grant l : ℕ) (within : l < lines) → is_modified v.held ≡ true → l ≡ v.line
            → IsBefore t d grant (WriteBack id v.line v.words) v.line l asked (upd c after inner) (upd c rest base) sent (entry l)
        back_before d grant l within modified e =
            let x = world l within in
            record {
              line = with_part c (lost_part (x.line.parts c)) x.line;
              entry = x.entry;
              parts = step_changed l c asked asked inner base sent after rest (λ k n. refl) x.line.parts (lost_part (x.line.parts c)) x.parts (lost_is l within e);
              kept = λ n. absurd (n e);
              served = λ _. writes_back t c grant v.line d id (held_line v) x.line (was_held l within e) (is_M v.held modified) mine x.kept;
            }

        modified_fell : is_modified v.held ≡ true → AreStepped lines t asked (upd c after inner) (upd c rest base) sent entry (Some (WriteBack id v.line v.words))
        modified_fell modified = (
          held_below lines core.cache holds v.line (held_line v) (fill.was v fell),
          λ d grant soon short l within. elim (cases_eq l v.line) [
            | inl e ↦ back_before d grant l within modified e
            | inr m ↦ as_before d grant l m (elim (cases_eq p.line l) [
              | inl e ↦ filled_line l within e
              | inr n ↦ stays l within n (fill.others v fell l (λ e. n (sym e)) m)
            ])
          ],
        )

    abbrev after_fill : HartValue
    after_fill = record (touched_at id.cycle p.line core) { cache = fill_line core.cache new; waiting = false }

    evicted_lines : (code_base : ℕ) (victim : Option CacheLine) → victim_of core.cache new ≡ victim
        → AreStepped lines t asked (upd c (evicted code_base victim id after_fill).0 inner) (upd c rest base) sent entry (evicted code_base victim id after_fill).1
    unfolding evicted
    evicted_lines code_base None fell = none_fell after_fill refl refl fell
    evicted_lines code_base (Some v) fell = elim (cases_Bool (is_modified v.held)) [
      | inl modified ↦ rw modified (modified_fell _ refl refl v fell modified)
      | inr clean ↦ rw clean (clean_fell (without_reservation code_base v.line after_fill) refl refl v fell clean)
    ]

    abbrev replied_core : ℕ → HartValue × Option Ask
    replied_core code_base = replied code_base p.line exclusive words id (touched_at id.cycle p.line core)

    replied_lines : (code_base : ℕ) → AreStepped lines t asked (upd c (replied_core code_base).0 inner) (upd c rest base) sent entry (replied_core code_base).1
    unfolding replied
    replied_lines code_base = evicted_lines code_base (victim_of core.cache new) refl

  applied_as : (code_base : ℕ) (kind : PostKind) → p.kind ≡ kind → AreStepped lines t asked (upd c (applied kind code_base p.line id core).0 inner) (upd c rest base) sent entry (applied kind code_base p.line id core).1
  unfolding applied
  applied_as code_base (Reply exclusive words) is = replied_lines exclusive words is code_base
  applied_as code_base Retry is = retried_lines is
  applied_as code_base SnoopShare is =
      snooped_lines false (snooped p.line false (touched_at id.cycle p.line core)) refl refl
      (λ l within e. (take_snoop l p left ((world l within).line.parts c) e (p.due, false) (rw is refl) (rw is refl) (rw is refl) (waits l within)).0)
      (λ l within e. (take_snoop l p left ((world l within).line.parts c) e (p.due, false) (rw is refl) (rw is refl) (rw is refl) (waits l within)).1)
  applied_as code_base SnoopOwn is =
      snooped_lines true (given_up code_base p.line (touched_at id.cycle p.line core)) refl refl
      (λ l within e. (take_snoop l p left ((world l within).line.parts c) e (p.due, true) (rw is refl) (rw is refl) (rw is refl) (waits l within)).0)
      (λ l within e. (take_snoop l p left ((world l within).line.parts c) e (p.due, true) (rw is refl) (rw is refl) (rw is refl) (waits l within)).1)
  applied_as code_base Invalidate is = invalidated_lines code_base is

  pub applied_lines : (code_base : ℕ) → AreStepped lines t asked (upd c (applied p.kind code_base p.line id core).0 inner) (upd c rest base) sent entry (applied p.kind code_base p.line id core).1
  applied_lines code_base = applied_as code_base p.kind refl
