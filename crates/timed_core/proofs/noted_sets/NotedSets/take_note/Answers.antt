use Rattle.std.proofs.Common.{◌≡◌, ◌∙◌, ◌++◌, ◌∷◌, [], List, length, sym, ap, subst}
use Rattle.timed_core.specs.declared.noted_sets.SetNote.{SetNote}
use Rattle.timed_core.specs.Journals.{SetsValue, IsFlagged, IsNoteOf, restored, restored_touches}
use Rattle.timed_core.proofs.Flagging.{flagged-pop, last-proper}
use Rattle.timed_core.proofs.Restoring.{restored-push, touches-push}
use Rattle.timed_core.proofs.noted_sets.NotedSets.take_note.Goals as goal

popped : (c : goal.After-self-1) → c.self.inside.journal.items ≡ c.pop.new.self.items ++ c.in_ok-note.note ∷ []
popped c = c.in_ok-note.ensures.items

flagged : (c : goal.After-self-1) → IsFlagged c.self.inside.flags.items (length c.self.inside.cache.sets) c.self.inside.cache.ways (c.pop.new.self.items ++ c.in_ok-note.note ∷ [])
flagged c =
    let inside = c.self.inside in
    subst (λ (js : List SetNote). IsFlagged inside.flags.items (length inside.cache.sets) inside.cache.ways js) (popped c) c.self.invariant.0

proper : (c : goal.After-self-1) → IsNoteOf (length c.self.inside.cache.sets) c.self.inside.cache.ways c.in_ok-note.note
proper c =
    let inside = c.self.inside in
    last-proper inside.flags.items (length inside.cache.sets) inside.cache.ways c.pop.new.self.items c.in_ok-note.note (flagged c)

pub invariant_of-self-2 : goal.invariant_of-self-2
invariant_of-self-2 c =
    let inside = c.self.inside in
    (flagged-pop inside.flags.items (length inside.cache.sets) inside.cache.ways c.pop.new.self.items c.in_ok-note.note (flagged c), c.self.invariant.1)

pub returns-clause-taken : goal.returns-clause-taken
returns-clause-taken c =
    let inside = c.self.inside in
    sym (ap (λ (v : SetsValue). restored v.cache.sets v.journal) c.self.view_is)
    ∙ ap (λ (js : List SetNote). restored inside.cache.sets js) (popped c)
    ∙ restored-push inside.cache.sets c.pop.new.self.items c.in_ok-note.note

pub returns-clause-inside : goal.returns-clause-inside
returns-clause-inside c = (proper c).0

pub returns-clause-fits : goal.returns-clause-fits
returns-clause-fits c = (proper c).1

pub returns-clause-taken_touch : goal.returns-clause-taken_touch
returns-clause-taken_touch c =
    let inside = c.self.inside in
    sym (ap (λ (v : SetsValue). restored_touches v.touches v.journal) c.self.view_is)
    ∙ ap (λ (js : List SetNote). restored_touches inside.touches.items js) (popped c)
    ∙ touches-push inside.touches.items c.pop.new.self.items c.in_ok-note.note
