use Rattle.std.proofs.Common.{◌≡◌, ◌∙◌, ℕ, ◌++◌, ◌∷◌, [], None, length, refl, sym, ap, subst, arith}
use Rattle.std.specs.List.{All}
use Rattle.std.proofs.lemmas.List.FromFn.{map-range_with_len_more, length-map-range_with_len}
use Rattle.slack_base.specs.Numbers.{numbers_of}
use Rattle.bus_model.specs.Channels.{ChannelValue, AsBus, IsSound}
use Rattle.bus_model.specs.Starting.{first_bus}
use Rattle.target_law.specs.Numbered.{AllNumbered}
use Rattle.lockstep_model.specs.Start.{IsFirstChannel}
use Rattle.lockstep_model.specs.Views.{values_of}
use Rattle.lockstep_model.proofs.FirstState.{is_bus, numbered_more, values_more, unmarked_more}
use Rattle.lockstep_model.proofs.starting.first_buses.Goals as goal

pub loop-number-preserved : goal.loop-number-preserved
loop-number-preserved c =
    let config = numbers_of c.args.config.now in
    let image = c.args.image.now in
    let n = c.loop-number.number in
    let f : ℕ → ChannelValue = λ number. AsBus (first_bus config image number) in
    let before = c.loop-number.chans in
    let value = c.in_ok-bus.ensures.value in
    let bus : IsFirstChannel config n (f n) = is_bus config image n (subst IsSound value c.in_ok-bus.ensures.sound) in
    let count : length (values_of before) ≡ n = ap length c.loop-number.invariant.chans ∙ length-map-range_with_len f 0 n in
    let grown = ap values_of c.in_ok-push.ensures.ok ∙ values_more before c.in_ok-bus.field-0 (values_of before) (f n) refl value in
    record {
      chans = grown ∙ ap (λ chans. chans ++ f n ∷ []) c.loop-number.invariant.chans ∙ sym (map-range_with_len_more f 0 n n (omega arith));
      each = subst (AllNumbered (IsFirstChannel config) 0) (sym grown) (numbered_more (IsFirstChannel config) 0 n (values_of before) (f n) (omega arith) c.loop-number.invariant.each bus);
      unmarked =
          subst (All (λ chan. chan.saved ≡ None)) (sym c.in_ok-push.ensures.ok)
          (unmarked_more before c.in_ok-bus.field-0 c.loop-number.invariant.unmarked c.in_ok-bus.ensures.saved);
    }
