use Rattle.std.proofs.Common.{◌≡◌, ◌∙◌, ap, sym, subst, refl, max, take, drop, length, ◌++◌, List, arith}
use Rattle.slot_calendar.specs.declared.entries.Entry.{Entry}
use Rattle.slot_calendar.specs.Entries.{slots_of, latest_of, AreKept}
use Rattle.slot_calendar.proofs.Changes.{climbing_pushed, longer, longer_left, kept-longer, slots-longer}
use Rattle.slot_calendar.proofs.inserting.append.Goals as goal

pub lower-requires-clause-climbing : goal.lower-requires-clause-climbing
lower-requires-clause-climbing c =
    let e : Entry = record { slot = c.args.slot; latest = c.max.result; earliest = c.args.slot.grant } in
    climbing_pushed c.args.entries.now.items e c.requires.place c.deref_mut.result.now c.len-place.result (omega (arith, c.len-place.ensures)) (c.deref_mut.ensures.value ∙ c.in_ok-push.ensures.ok) c.requires.kept.coming

-- the entry behind the others
abbrev entry_of : goal.After-entries-1 → Entry
entry_of c = record { slot = c.args.slot; latest = c.max.result; earliest = c.args.slot.grant }

-- what is left in the end
longer_is : (c : goal.After-entries-1) (rest : List Entry)
    → take c.push.new.entries.len (c.lower.new.entries ++ drop (length c.lower.new.entries) rest) ≡ longer c.args.entries.now.items (entry_of c) c.requires.place
longer_is c rest =
    longer_left c.args.entries.now.items (entry_of c) c.requires.place c.deref_mut.result.now c.lower.new.entries rest c.push.new.entries.len c.len-place.result
    (omega (arith, c.len-place.ensures)) (c.deref_mut.ensures.value ∙ c.in_ok-push.ensures.ok) c.lower.ensures (sym (c.lower.auto.entries ∙ c.deref_mut.ensures.len))

pub returns-clause-kept : goal.returns-clause-kept
returns-clause-kept c =
    subst AreKept (sym (longer_is c _))
    (kept-longer c.args.entries.now.items (entry_of c) c.requires.place c.requires.kept
    (c.max.ensures ∙ ap (λ n. max n c.args.slot.grant) (c.latest_of.ensures ∙ ap (latest_of 0) c.deref.ensures.value)) refl)

pub returns-clause-slots : goal.returns-clause-slots
returns-clause-slots c = ap slots_of (longer_is c _) ∙ slots-longer c.args.entries.now.items (entry_of c) c.requires.place
