use Rattle.std.proofs.Common.{sym, ◌∙◌, arith}
use Rattle.mesi_cache.specs.Sets.{is_line}
use Rattle.mesi_cache.proofs.Once.{get_found}
use Rattle.mesi_cache.proofs.SetSteps.{fill_held, fallen_held, fill_room, fallen_room, fill_full, fallen_full}
use Rattle.mesi_cache.proofs.sets.CacheSet.fill.Goals as goal

pub returns-in-Some-clause-after : goal.returns-in-Some-clause-after
returns-in-Some-clause-after c =
    let place = sym c.place_of.ensures ∙ c.in-Some.is in
    let held = get_found (is_line c.args.new.line) c.args.self.now c.in-Some.place c.args.new place in
    c.put_front.ensures
    ∙ sym (fill_held c.args.new.line c.args.self.now c.in-Some.place _ c.requires.once place held c.args.ways c.args.new c.requires.within)

pub returns-in-Some-clause-victim : goal.returns-in-Some-clause-victim
returns-in-Some-clause-victim c =
    let place = sym c.place_of.ensures ∙ c.in-Some.is in
    let held = get_found (is_line c.args.new.line) c.args.self.now c.in-Some.place c.args.new place in
    sym (fallen_held c.args.new.line c.args.self.now c.in-Some.place _ c.requires.once place held c.args.ways c.args.new c.requires.within)

pub returns-then-len-ways-clause-after : goal.returns-then-len-ways-clause-after
returns-then-len-ways-clause-after c =
    let absent = sym c.place_of.ensures ∙ c.in_default.is in
    c.push_front.ensures ∙ sym (fill_room c.args.new.line c.args.self.now absent c.args.ways c.args.new (omega arith))

pub returns-then-len-ways-clause-victim : goal.returns-then-len-ways-clause-victim
returns-then-len-ways-clause-victim c =
    let absent = sym c.place_of.ensures ∙ c.in_default.is in
    sym (fallen_room c.args.new.line c.args.self.now absent c.args.ways c.args.new (omega arith))

pub returns-clause-after : goal.returns-clause-after
returns-clause-after c =
    let absent = sym c.place_of.ensures ∙ c.in_default.is in
    c.put_front-2.ensures ∙ sym (fill_full c.args.new.line c.args.self.now absent c.args.ways c.args.new (omega arith) (omega arith))

pub returns-clause-victim : goal.returns-clause-victim
returns-clause-victim c =
    let absent = sym c.place_of.ensures ∙ c.in_default.is in
    sym (fallen_full c.args.new.line c.args.self.now absent c.args.ways c.args.new (omega arith) ∙ c.at-victim.ensures)
