use Rattle.std.proofs.Common.{◌≡◌, ◌∙◌, None, sym, ap, subst, arith}
use Rattle.std.specs.List.{All}
use Rattle.std.proofs.lemmas.List.FromFn.{map-range_with_len_more}
use Rattle.slack_base.specs.Numbers.{numbers_of}
use Rattle.lockstep_model.specs.Start.{first_core_value}
use Rattle.lockstep_model.specs.Views.{cores_of}
use Rattle.lockstep_model.proofs.FirstState.{cores_more, cores_unmarked_more}
use Rattle.lockstep_model.proofs.starting.first_cores.Goals as goal

pub loop-number-preserved : goal.loop-number-preserved
loop-number-preserved c =
    let f = first_core_value (numbers_of c.args.config.now) c.args.entry in
    let n = c.loop-number.number in
    let core = c.in_ok-new.field-0 in
    let is_new = c.in_ok-new.ensures in
    record {
      cores =
          ap cores_of c.in_ok-push.ensures.ok ∙ cores_more c.loop-number.cores core _ (f n) c.loop-number.invariant.cores (ap (λ core. core.value) is_new)
          ∙ sym (map-range_with_len_more f 0 n n (omega arith));
      unmarked =
          subst (All (λ core. core.saved ≡ None)) (sym c.in_ok-push.ensures.ok)
          (cores_unmarked_more c.loop-number.cores core c.loop-number.invariant.unmarked (ap (λ core. core.saved) is_new));
    }
