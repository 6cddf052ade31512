use Rattle.std.proofs.Common.{◌≡◌, ◌∙◌, sym, ap, subst}
use Rattle.slack_base.specs.Numbers.{numbers_of}
use Rattle.bus_model.specs.declared.counters.Counters.{Counters}
use Rattle.bus_model.specs.Channels.{IsSoundBus}
use Rattle.bus_model.specs.Journals.{LinesValue}
use Rattle.bus_model.specs.Settings.{setting_value}
use Rattle.bus_model.specs.Starting.{first_bus}
use Rattle.bus_model.specs.Views.{bus_with}
use Rattle.bus_model.proofs.FirstBus.{first-is, first-sound}
use Rattle.bus_model.proofs.buses.Bus.new.Goals as goal

value_is : (c : goal.After-new-3) → bus_with (setting_value c.of.result) c.new-2.result c.in_ok-lines.lines.entries c.new-3.result ≡ first_bus (numbers_of c.args.config.now) c.args.image.now c.args.index
value_is c =
    ap (λ (k : Counters). bus_with (setting_value c.of.result) k c.in_ok-lines.lines.entries c.new-3.result) c.new-2.ensures
    ∙ first-is (numbers_of c.args.config.now) c.args.image.now c.args.index (setting_value c.of.result) c.in_ok-lines.lines.entries c.new-3.result
    c.of.ensures (ap (λ (l : LinesValue). l.entries) c.in_ok-lines.ensures ∙ c.in_ok-entries.ensures) c.new-3.ensures

sound : (c : goal.After-new-3) → IsSoundBus (bus_with (setting_value c.of.result) c.new-2.result c.in_ok-lines.lines.entries c.new-3.result)
sound c = subst IsSoundBus (sym (value_is c)) (first-sound (numbers_of c.args.config.now) c.args.image.now c.args.index c.requires.bus)

pub returns-clause-value : goal.returns-clause-value
returns-clause-value c = value_is c

pub returns-clause-sound : goal.returns-clause-sound
returns-clause-sound c = sound c

pub invariant_of-result : goal.invariant_of-result
invariant_of-result c = record { now = sound c; saved = tt; few = tt; unmarked = ap (λ (l : LinesValue). l.journal) c.in_ok-lines.ensures }
