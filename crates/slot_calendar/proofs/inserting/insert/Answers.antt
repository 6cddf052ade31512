use Rattle.std.proofs.Common.{◌≡◌, ◌∙◌, ◌+◌, ap, sym, subst, max, take, drop, length, ◌++◌, List}
use Rattle.std.proofs.lemmas.List.{take_rest}
use Rattle.slot_calendar.specs.declared.entries.Entry.{Entry}
use Rattle.slot_calendar.specs.Entries.{slots_of, latest_of, earliest_of, AreKept, AreClimbing}
use Rattle.slot_calendar.proofs.Changes.{half_left, grown_left, climbing_earlier, climbing_later, half, grown, slots-grown, kept-grown}
use Rattle.slot_calendar.proofs.inserting.insert.Goals as goal

pub lower-requires-clause-climbing : goal.lower-requires-clause-climbing
lower-requires-clause-climbing c =
    let e : Entry = record { slot = c.args.slot; latest = c.max.result; earliest = c.earliest_of.result } in
    subst (λ l. AreClimbing (λ e. e.earliest) (take c.args.place l)) (sym (c.deref_mut.ensures.value ∙ c.in_ok-put.ensures.ok))
    (climbing_earlier c.args.place c.args.entries.now.items e c.requires.place c.requires.kept.coming)

pub raise-requires-clause-climbing : goal.raise-requires-clause-climbing
raise-requires-clause-climbing c =
    let e : Entry = record { slot = c.args.slot; latest = c.max.result; earliest = c.earliest_of.result } in
    let is : c.deref_mut-2.result.now ≡ half c.args.place c.args.entries.now.items e c.requires.place =
    c.deref_mut-2.ensures.value
    ∙ half_left c.args.place c.args.entries.now.items e c.requires.place c.deref_mut.result.now c.lower.new.entries c.put.new.entries.items c.put.new.entries.len
    (c.deref_mut.ensures.value ∙ c.in_ok-put.ensures.ok) c.lower.ensures (sym (c.lower.auto.entries ∙ c.deref_mut.ensures.len)) in
    subst (λ l. AreClimbing (λ e. e.latest) (drop (c.args.place + 1) l)) (sym is) (climbing_later c.args.place c.args.entries.now.items e c.requires.place c.requires.kept.running)

-- the entry that is put in
abbrev entry_of : goal.After-entries-2-1 → Entry
entry_of c = record { slot = c.args.slot; latest = c.max.result; earliest = c.earliest_of.result }

-- what is left in the end
grown_is : (c : goal.After-entries-2-1) (rest : List Entry)
    → take c.put.new.entries.len (c.raise.new.entries ++ drop (length c.raise.new.entries) rest) ≡ grown c.args.place c.args.entries.now.items (entry_of c) c.requires.place
grown_is c rest =
    let old = c.args.entries.now.items in
    let is : c.deref_mut-2.result.now ≡ half c.args.place old (entry_of c) c.requires.place =
    c.deref_mut-2.ensures.value
    ∙ half_left c.args.place old (entry_of c) c.requires.place c.deref_mut.result.now c.lower.new.entries c.put.new.entries.items c.put.new.entries.len
    (c.deref_mut.ensures.value ∙ c.in_ok-put.ensures.ok) c.lower.ensures (sym (c.lower.auto.entries ∙ c.deref_mut.ensures.len)) in
    grown_left c.args.place old (entry_of c) c.requires.place c.deref_mut-2.result.now c.raise.new.entries rest c.put.new.entries.len is c.raise.ensures (sym (c.raise.auto.entries ∙ c.deref_mut-2.ensures.len))

pub returns-clause-kept : goal.returns-clause-kept
returns-clause-kept c =
    let old = c.args.entries.now.items in
    subst AreKept (sym (grown_is c _))
    (kept-grown c.args.place old (entry_of c) c.requires.place c.requires.kept
    (c.max.ensures ∙ ap (λ n. max n c.args.slot.grant) (c.latest_of.ensures ∙ ap (λ l. latest_of 0 (take c.args.place l)) c.deref.ensures.value))
    (c.earliest_of.ensures ∙ ap (earliest_of c.args.slot.grant) (take_rest c.deref-2.result.now c.args.place ∙ ap (drop c.args.place) c.deref-2.ensures.value)))

pub returns-clause-slots : goal.returns-clause-slots
returns-clause-slots c = ap slots_of (grown_is c _) ∙ slots-grown c.args.place c.args.entries.now.items (entry_of c) c.requires.place
