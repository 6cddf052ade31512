use Rattle.std.proofs.Common.{◌≡◌, ◌∙◌, ◌+◌, ◌<◌, ◌≤◌, [], List, true, false, length, get_or, refl, sym, ap, subst, arith}
use Rattle.std.specs.Prelude.{slice_set, vec_capacity}
use Rattle.std.proofs.lemmas.List.{get_or_read, get_or_default, length_push}
use Rattle.mesi_cache.specs.Caches.{set_number}
use Rattle.timed_core.specs.declared.noted_sets.SetNote.{SetNote}
use Rattle.timed_core.specs.Journals.{SetsValue, IsFlagged, restored, restored_touches, is_noted}
use Rattle.timed_core.proofs.Flagging.{flagged-push, noted-last, one-down}
use Rattle.timed_core.proofs.Restoring.{restored-noting, touches-noting}
use Rattle.timed_core.proofs.noted_sets.NotedSets.note.Goals as goal

-- the set as it is now stands last in the journal
abbrev noted_now : goal.After-self-1 → SetNote
noted_now c = record { set = c.set_of-set.result; copy = c.set_copy-copy.result; touch = c.index-touch.result.now }

within : (c : goal.After-self-1) → c.set_of-set.result < length c.self.inside.flags.items
within c = omega (arith, c.set_of-set.ensures.within, c.self.invariant.0.each)

low : (c : goal.After-self-1) → get_or c.self.inside.flags.items c.set_of-set.result false ≡ false
low c =
    sym (get_or_read c.self.inside.flags.items c.set_of-set.result c.index.result.now (within c) c.index.ensures false) ∙ c.if-index.false

pub push_reserved-requires : goal.push_reserved-requires
push_reserved-requires c =
    let flags = c.self.inside.flags.items in
    let set = c.set_of-set.result in
    let room : length c.self.inside.cache.sets ≤ vec_capacity c.self.inside.journal = subst (λ (v : SetsValue). length v.cache.sets ≤ v.room) (sym c.self.view_is) c.requires in
    let inside : set < length flags = omega (arith, c.set_of-set.ensures.within, c.self.invariant.0.each) in
    let down : get_or flags set false ≡ false = sym (get_or_read flags set c.index.result.now inside c.index.ensures false) ∙ c.if-index.false in
    omega (arith, room, c.self.invariant.0.few, c.self.invariant.0.each, one-down flags set inside down, c.self.inside.journal.ok.0)

pub invariant_of-self : goal.invariant_of-self
invariant_of-self c =
    let inside = c.self.inside in (
      subst (λ (js : List SetNote). IsFlagged (slice_set inside.flags.items c.set_of-set.result true) (length inside.cache.sets) inside.cache.ways js)
          (sym c.push_reserved.ensures.items)
          (flagged-push inside.flags.items (length inside.cache.sets) inside.cache.ways inside.journal.items (noted_now c) c.set_of-set.result c.self.invariant.0 refl
          c.set_of-set.ensures.within (c.set_of-set.ensures.within, c.set_copy-copy.ensures.fits inside.cache (record { number_of_sets = refl; number_of_ways = refl })) (low c)),
      c.self.invariant.1,
    )

pub returns-clause-kept : goal.returns-clause-kept
returns-clause-kept c =
    let inside = c.self.inside in
    let set = c.set_of-set.result in
    let copy = c.set_copy-copy.result in
    let same : copy ≡ get_or inside.cache.sets set copy =
    c.set_copy-copy.ensures.lines ∙ get_or_default inside.cache.sets set [] copy c.set_of-set.ensures.within in
    ap (λ (js : List SetNote). restored inside.cache.sets js) c.push_reserved.ensures.items
    ∙ restored-noting inside.cache.sets inside.journal.items (noted_now c) same
    ∙ ap (λ (v : SetsValue). restored v.cache.sets v.journal) c.self.view_is

pub returns-clause-kept_touches : goal.returns-clause-kept_touches
returns-clause-kept_touches c =
    let touches = c.self.inside.touches.items in
    let set = c.set_of-set.result in
    let touch = c.index-touch.result.now in
    let inside : set < length touches = omega (arith, c.set_of-set.ensures.within, c.self.invariant.1) in
    ap (λ (js : List SetNote). restored_touches touches js) c.push_reserved.ensures.items
    ∙ touches-noting touches c.self.inside.journal.items (noted_now c) (get_or_read touches set touch inside c.index-touch.ensures touch)
    ∙ ap (λ (v : SetsValue). restored_touches v.touches v.journal) c.self.view_is

pub returns-clause-noted : goal.returns-clause-noted
returns-clause-noted c =
    let number : c.set_of-set.result ≡ set_number c.args.self.now.cache c.args.line =
    c.set_of-set.ensures.number ∙ ap (λ (v : SetsValue). set_number v.cache c.args.line) c.self.view_is in
    ap (λ (js : List SetNote). is_noted (set_number c.args.self.now.cache c.args.line) js) c.push_reserved.ensures.items
    ∙ noted-last (set_number c.args.self.now.cache c.args.line) c.self.inside.journal.items (noted_now c) number

pub returns-clause-one : goal.returns-clause-one
returns-clause-one c =
    let pushed : length c.push_reserved.new.self.items ≡ length c.self.inside.journal.items + 1 =
    ap (λ (js : List SetNote). length js) c.push_reserved.ensures.items ∙ length_push c.self.inside.journal.items (noted_now c) in
    subst (λ (v : SetsValue). length c.push_reserved.new.self.items ≤ length v.journal + 1) c.self.view_is (omega (arith, pushed))
