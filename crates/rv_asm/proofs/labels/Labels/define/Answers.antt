use Rattle.std.proofs.Common.{sym, ◌∙◌}
use Rattle.std.proofs.lemmas.Map.Text.{btree_map_updates_str}
use Rattle.rv_asm.specs.LabelTables.{places_in}
use Rattle.rv_asm.proofs.Places.{defined_before, defined_now}
use Rattle.rv_asm.proofs.labels.Labels.define.Goals as goal

pub returns-then-contains_key-clause-before : goal.returns-then-contains_key-clause-before
unfolding places_in
returns-then-contains_key-clause-before c = sym c.if-contains_key.true ∙ c.contains_key.ensures

pub returns-then-contains_key-clause-places : goal.returns-then-contains_key-clause-places
unfolding places_in
returns-then-contains_key-clause-places c =
    defined_before c.args.place (places_in c.args.self.now) c.args.name.now (sym c.if-contains_key.true ∙ c.contains_key.ensures)

pub returns-clause-before : goal.returns-clause-before
unfolding places_in
returns-clause-before c = sym c.if-contains_key.false ∙ c.contains_key.ensures

pub returns-clause-places : goal.returns-clause-places
unfolding places_in
returns-clause-places c =
    defined_now c.args.place (places_in c.args.self.now) _ c.args.name.now (sym c.if-contains_key.false ∙ c.contains_key.ensures)
    (btree_map_updates_str c.args.name.now c.args.self.now.places c.insert.new.self _ c.in_ok-insert.ensures.updates)
