use Rattle.std.proofs.Common.{◌≡◌, List, [], ◌∷◌, None, refl, ap, map, length, subst, sym, arith}
use Rattle.std.proofs.lemmas.Result.{IfOk-weaker}
use Rattle.slack_base.specs.Marks.{Marked}
use Rattle.target_law.specs.Numbered.{AllNumbered}
use Rattle.target_law.specs.Proper.{IsChanOf}
use Rattle.target_law.specs.Trio.{TrioChannel, trio_rules, trio_owns, trio_values, first_chan}
use Rattle.manager.specs.Managers.{IsReadyManager}
use Rattle.manager.specs.Openings.{IsOpening}
use Rattle.manager.proofs.Opened.{all_ready_openings}
use Rattle.trio_tests.proofs.managers.managed.Goals as goal

abbrev unmarked : Marked TrioChannel
unmarked = record { value = first_chan 0; saved = None }

own : AllNumbered (IsChanOf trio_rules trio_owns) 0 (map trio_values.chan (unmarked ∷ []))
own = (record { own = omega arith; number = refl }, tt)

pub returns : goal.returns
returns c =
    let only : c.in_ok-chans.chans ≡ unmarked ∷ [] = c.in_ok-chans.ensures in
    IfOk-weaker c.new.result (IsOpening c.in_ok-chans.chans c.args.asks c.args.posts c.args.overseer) (IsReadyManager trio_rules trio_owns trio_values)
    (λ m is. (all_ready_openings trio_rules trio_owns trio_values c.in_ok-chans.chans c.args.asks c.args.posts c.args.overseer m is c.requires.unused (record {
      chan_count = ap length only;
      own_chans = subst (λ (chans : List (Marked TrioChannel)). AllNumbered (IsChanOf trio_rules trio_owns) 0 (map trio_values.chan chans)) (sym only) own;
      rings = c.requires.count.0;
      clocks = c.requires.clocks;
    })).ready)
    c.new.ensures
