use Rattle.std.proofs.Common.{◌∙◌, ◌<◌, sym, ap, subst, arith}
use Rattle.slack_base.specs.Marks.{Marked}
use Rattle.bus_model.specs.Channels.{BusValue, entry_of}
use Rattle.bus_model.specs.Views.{bus_now}
use Rattle.bus_model.proofs.Places.{place-inside}
use Rattle.bus_model.proofs.buses.Bus.entry.Goals as goal

pub entry-requires : goal.entry-requires
entry-requires c =
    let b = bus_now c.self.inside in
    let line = c.args.line in
    let setting = c.self.inside.setting in
    let inside : line < b.setting.lines = subst (λ (v : Marked BusValue). line < v.value.setting.lines) (sym c.self.view_is) c.requires.inside in
    omega (arith, place-inside b.setting.lines b.setting.buses line setting.buses_in_bounds setting.lines_in_bounds inside, c.self.invariant.now.count)

pub returns : goal.returns
returns c = ap (λ (v : Marked BusValue). entry_of v.value c.args.line) (sym c.self.view_is) ∙ c.entry.ensures
