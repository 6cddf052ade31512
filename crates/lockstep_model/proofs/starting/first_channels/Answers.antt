use Rattle.std.proofs.Common.{◌≡◌, ◌∙◌, ℕ, ◌+◌, ◌∷◌, [], None, map, refl, sym, ap, length, subst, arith}
use Rattle.std.specs.List.{All, range_with_len}
use Rattle.std.proofs.lemmas.List.{length-append}
use Rattle.std.proofs.lemmas.List.FromFn.{length-map-range_with_len}
use Rattle.slack_base.specs.Numbers.{numbers_of}
use Rattle.bus_model.specs.Channels.{ChannelValue, AsBus}
use Rattle.bus_model.specs.Starting.{first_bus}
use Rattle.target_law.specs.Numbered.{AllNumbered}
use Rattle.lockstep_model.specs.Start.{first_console, IsFirstChannel}
use Rattle.lockstep_model.specs.Views.{values_of}
use Rattle.lockstep_model.proofs.FirstState.{is_console, numbered_more, values_more, unmarked_more}
use Rattle.lockstep_model.proofs.starting.first_channels.Goals as goal

pub returns-clause-chans : goal.returns-clause-chans
returns-clause-chans c =
    ap values_of c.in_ok-push.ensures.ok
    ∙ values_more c.in_ok-chans.chans c.console.result _ first_console c.in_ok-chans.ensures.chans (ap (λ chan. chan.value) c.console.ensures)

pub returns-clause-count : goal.returns-clause-count
returns-clause-count c =
    let config = numbers_of c.args.config.now in
    let f : ℕ → ChannelValue = λ number. AsBus (first_bus config c.args.image.now number) in
    ap length (returns-clause-chans c) ∙ length-append (map f (range_with_len 0 config.buses)) (first_console ∷ [])
    ∙ ap (λ n. n + 1) (length-map-range_with_len f 0 config.buses)

pub returns-clause-each : goal.returns-clause-each
returns-clause-each c =
    let config = numbers_of c.args.config.now in
    let buses = c.in_ok-chans.ensures in
    let count : length (values_of c.in_ok-chans.chans) ≡ config.buses =
    ap length buses.chans ∙ length-map-range_with_len (λ number. AsBus (first_bus config c.args.image.now number)) 0 config.buses in
    let grown = ap values_of c.in_ok-push.ensures.ok
    ∙ values_more c.in_ok-chans.chans c.console.result (values_of c.in_ok-chans.chans) first_console refl (ap (λ chan. chan.value) c.console.ensures) in
    subst (AllNumbered (IsFirstChannel config) 0) (sym grown)
    (numbered_more (IsFirstChannel config) 0 config.buses (values_of c.in_ok-chans.chans) first_console (omega arith) buses.each (is_console config config.buses refl))

pub returns-clause-unmarked : goal.returns-clause-unmarked
returns-clause-unmarked c =
    subst (All (λ chan. chan.saved ≡ None)) (sym c.in_ok-push.ensures.ok)
    (unmarked_more c.in_ok-chans.chans c.console.result c.in_ok-chans.ensures.unmarked (ap (λ chan. chan.saved) c.console.ensures))
