use Rattle.std.proofs.Common.{◌∙◌, length, sym, ap, subst, arith}
use Rattle.std.proofs.lemmas.List.FromFn.{length-map-range_with_len}
use Rattle.slack_base.specs.Numbers.{numbers_of}
use Rattle.target_law.specs.Numbered.{AllNumbered}
use Rattle.target_law.specs.Proper.{IsCoreOf}
use Rattle.lockstep_model.specs.Rules.{rules_of, owns_of}
use Rattle.lockstep_model.specs.Start.{first_core_value}
use Rattle.lockstep_model.proofs.FirstState.{first_cores_are, first_channels_are, first_closed}
use Rattle.lockstep_model.proofs.starting.start.Goals as goal

pub returns-clause-proper : goal.returns-clause-proper
returns-clause-proper c =
    let config = numbers_of c.args.target.now.config in
    let code = c.args.target.now.code in
    let entry = c.args.image.now.entry in
    let cores = c.in_ok-first_cores.ensures in
    let chans = c.in_ok-first_channels.ensures in
    record {
      clock = omega arith;
      core_count = ap length cores.cores ∙ length-map-range_with_len (first_core_value config entry) 0 config.cores;
      cores = subst (AllNumbered (IsCoreOf (rules_of config code) (owns_of config)) 0) (sym cores.cores) (first_cores_are config code entry 0 config.cores (omega arith));
      chan_count = chans.count;
      chans = first_channels_are config code 0 _ chans.each;
      closed = first_closed config 0 _ chans.each;
    }

pub returns-clause-unmarked : goal.returns-clause-unmarked
returns-clause-unmarked c = record { cores = c.in_ok-first_cores.ensures.unmarked; chans = c.in_ok-first_channels.ensures.unmarked }
