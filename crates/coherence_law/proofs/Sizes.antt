-- The lines of a machine are no more than its memory has.
use Rattle.std.proofs.Common.{◌≡◌, ◌∙◌, ℕ, ◌+◌, ◌-◌, ◌*◌, ◌/◌, ◌<◌, ◌≤◌, List, [], ◌∷◌, length, ap, subst, arith}
use Rattle.std.proofs.Math.Nat.{mul-div-le, mul-le-mul_right}
use Rattle.std.proofs.lemmas.List.Sums.{sum_by-cons}
use Rattle.slack_base.specs.declared.configs.RawConfig.{RawConfig}
use Rattle.slack_base.specs.Numbers.{lines_of}
use Rattle.bus_model.specs.Channels.{ChannelValue, AsBus, AsConsole, count_of}
use Rattle.bus_model.specs.Settings.{SettingValue, setting_of}
use Rattle.timed_core.specs.Code.{CodeValue}
use Rattle.target_law.specs.Numbered.{AllNumbered}
use Rattle.target_law.specs.Proper.{IsChanOf}
use Rattle.lockstep_model.specs.Rules.{rules_of, owns_of}
use Rattle.coherence_law.specs.Breaks.{lines_in}

-- so many lines each of the buses has
abbrev share : RawConfig → ℕ
share config = lines_of config / config.buses

one_more : (per n buses rest : ℕ) → n < buses → rest ≤ (buses - (n + 1)) * per → per + rest ≤ (buses - n) * per
one_more per n buses rest low h =
    let left : buses - n ≡ (buses - (n + 1)) + 1 = omega arith in
    rw left let more : ((buses - (n + 1)) + 1) * per ≡ (buses - (n + 1)) * per + per = omega arith in omega arith

no_more : (per n buses rest : ℕ) → rest ≤ (buses - (n + 1)) * per → rest ≤ (buses - n) * per
no_more per n buses rest h =
    let less : buses - (n + 1) ≤ buses - n = omega arith in
    omega (arith, h, mul-le-mul_right per less)

module _ (config : RawConfig) (code : CodeValue) where
  lines_from : (n : ℕ) (chans : List ChannelValue) → AllNumbered (IsChanOf (rules_of config code) (owns_of config)) n chans → lines_in chans ≤ (config.buses - n) * share config
  lines_from n [] all = omega arith
  lines_from n (AsConsole c ∷ chans) all =
      let whole : lines_in (AsConsole c ∷ chans) ≡ 0 + lines_in chans = sum_by-cons count_of (AsConsole c) chans in
      omega (arith, whole, no_more (share config) n config.buses (lines_in chans) (lines_from (n + 1) chans all.1))
  lines_from n (AsBus b ∷ chans) all =
      let set : b.setting ≡ setting_of config b.setting.number = all.0.own.setting in
      let count : length b.entries ≡ share config = all.0.own.sound.count ∙ ap (λ (s : SettingValue). s.lines / s.buses) set in
      let buses : b.setting.buses ≡ config.buses = ap (λ (s : SettingValue). s.buses) set in
      let number : b.setting.number < b.setting.buses = all.0.own.sound.number in
      let place : b.setting.number ≡ n = all.0.number in
      let low : n < config.buses = omega arith in
      let rest = one_more (share config) n config.buses (lines_in chans) low (lines_from (n + 1) chans all.1) in
      let whole : lines_in (AsBus b ∷ chans) ≡ length b.entries + lines_in chans = sum_by-cons count_of (AsBus b) chans in
      omega (arith, whole, count, rest)

  pub lines_within : (chans : List ChannelValue) → AllNumbered (IsChanOf (rules_of config code) (owns_of config)) 0 chans → lines_in chans ≤ lines_of config
  lines_within chans all =
      let few : lines_in chans ≤ (config.buses - 0) * share config = lines_from 0 chans all in
      let all_buses : config.buses - 0 ≡ config.buses = omega arith in
      let some : lines_in chans ≤ config.buses * share config = subst (λ n. lines_in chans ≤ n * share config) all_buses few in
      omega (arith, some, mul-div-le (lines_of config) config.buses)
