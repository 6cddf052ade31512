use Rattle.std.proofs.Common.{◌≡◌, ◌∙◌, Some, ap, sym}
use Rattle.std.proofs.lemmas.Result.{on_ok_weaker}
use Rattle.slack_base.specs.Marks.{Marked}
use Rattle.bus_model.specs.declared.channels.Kind.{Kind}
use Rattle.bus_model.specs.Channels.{BusValue, ChannelValue, bus_setting}
use Rattle.bus_model.specs.Kinds.{value_of}
use Rattle.bus_model.proofs.Keeping.{setting_kept}
use Rattle.bus_model.proofs.channels.Channel.serve.Goals as goal

pub returns-in-Bus-clause-setting : goal.returns-in-Bus-clause-setting
returns-in-Bus-clause-setting c =
    let here : Some c.in-Bus.bus.value.setting ≡ bus_setting c.args.self.now.value =
    sym (ap (λ (k : Kind). bus_setting (value_of k)) c.in-Bus.is) ∙ ap (λ (v : Marked ChannelValue). bus_setting v.value) c.self.view_is in
    on_ok_weaker c.serve.result
    (λ h. ap (λ (b : BusValue). Some b.setting) h ∙ ap Some (setting_kept c.in-Bus.bus.value c.args.ask.now) ∙ here)
    c.serve.ensures.bus
