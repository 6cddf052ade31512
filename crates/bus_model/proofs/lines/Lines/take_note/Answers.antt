use Rattle.std.proofs.Common.{◌≡◌, ◌∙◌, ◌++◌, ◌∷◌, [], List, sym, ap, subst}
use Rattle.bus_model.specs.declared.lines.Note.{Note}
use Rattle.bus_model.specs.Journals.{LinesValue, IsFlagged, restored}
use Rattle.bus_model.proofs.Flagging.{flagged-pop}
use Rattle.bus_model.proofs.Restoring.{restored-push}
use Rattle.bus_model.proofs.lines.Lines.take_note.Goals as goal

popped : (c : goal.After-self-1) → c.self.inside.journal.items ≡ c.pop.new.self.items ++ c.in_ok-note.note ∷ []
popped c = c.in_ok-note.ensures.items

pub invariant_of-self-2 : goal.invariant_of-self-2
invariant_of-self-2 c =
    let inside = c.self.inside in
    flagged-pop inside.flags.items inside.entries.items c.pop.new.self.items c.in_ok-note.note
    (subst (λ (js : List Note). IsFlagged inside.flags.items inside.entries.items js) (popped c) c.self.invariant)

pub returns-clause-taken : goal.returns-clause-taken
returns-clause-taken c =
    let inside = c.self.inside in
    sym (ap (λ (v : LinesValue). restored v.entries v.journal) c.self.view_is)
    ∙ ap (λ (js : List Note). restored inside.entries.items js) (popped c)
    ∙ restored-push inside.entries.items c.pop.new.self.items c.in_ok-note.note
