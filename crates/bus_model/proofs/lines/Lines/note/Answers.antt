use Rattle.std.proofs.Common.{◌≡◌, ◌∙◌, ◌<◌, ◌++◌, ◌∷◌, [], List, true, false, length, get_or, refl, sym, ap, subst, arith}
use Rattle.std.specs.Prelude.{slice_set}
use Rattle.std.proofs.lemmas.List.{get_or_read}
use Rattle.bus_model.specs.declared.lines.Note.{Note}
use Rattle.bus_model.specs.Journals.{LinesValue, IsFlagged, restored, is_noted}
use Rattle.bus_model.proofs.Flagging.{flagged-push, noted-last}
use Rattle.bus_model.proofs.Restoring.{restored-noting}
use Rattle.bus_model.proofs.lines.Lines.note.Goals as goal

-- the line as it is now stands last in the journal
abbrev noted_now : goal.After-self-1 → Note
noted_now c = record { place = c.args.place; entry = c.index-entry.result.now }

pushed : (c : goal.After-self-1) → c.push.new.self.items ≡ c.self.inside.journal.items ++ noted_now c ∷ []
pushed c = c.in_ok-push.ensures.items

pub invariant_of-self-2 : goal.invariant_of-self-2
invariant_of-self-2 c =
    let inside = c.self.inside in
    let within : c.args.place < length inside.entries.items = subst (λ (v : LinesValue). c.args.place < length v.entries) (sym c.self.view_is) c.requires in
    let flagged : c.args.place < length inside.flags.items = omega (arith, c.self.invariant.each) in
    let low : get_or inside.flags.items c.args.place false ≡ false =
    sym (get_or_read inside.flags.items c.args.place c.index.result.now flagged c.index.ensures false) ∙ c.if-index.false in
    subst (λ (js : List Note). IsFlagged (slice_set inside.flags.items c.args.place true) inside.entries.items js) (sym (pushed c))
    (flagged-push inside.flags.items inside.entries.items inside.journal.items (noted_now c) c.args.place c.self.invariant refl within low)

pub returns-clause-kept : goal.returns-clause-kept
returns-clause-kept c =
    let inside = c.self.inside in
    ap (λ (js : List Note). restored inside.entries.items js) (pushed c)
    ∙ restored-noting inside.entries.items inside.journal.items c.args.place c.index-entry.result.now c.index-entry.ensures
    ∙ ap (λ (v : LinesValue). restored v.entries v.journal) c.self.view_is

pub returns-clause-noted : goal.returns-clause-noted
returns-clause-noted c =
    ap (λ (js : List Note). is_noted c.args.place js) (pushed c) ∙ noted-last c.args.place c.self.inside.journal.items (noted_now c) refl
