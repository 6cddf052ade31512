use Rattle.std.proofs.Common.{◌≡◌, refl, arith}
use Rattle.std.proofs.lemmas.List.Elements.{All-nil}
use Rattle.core_gate.specs.declared.pacers.Pacer.{Pacer}
use Rattle.target_law.specs.Proper.{IsPostTo, IsCoreOf}
use Rattle.target_law.specs.Trio.{trio_rules, trio_owns, trio_values, first_core}
use Rattle.core_actor.proofs.Goes.{all_begin}
use Rattle.trio_tests.proofs.actors.begun.Goals as goal

core_0 : IsCoreOf trio_rules trio_owns 0 (first_core 0)
core_0 = record { own = omega arith; number = refl; inbox = All-nil (IsPostTo trio_rules 0) }

pub returns : goal.returns
returns c =
    let pacer : Pacer = c.only-pacer.result in
    let opening = c.in_ok-pacers.ensures.first pacer c.only-pacer.ensures in
    let clock : pacer.clock ≡ 0 = opening.1 in
    (all_begin trio_rules trio_owns trio_values 8 c.new-core.result c.in_ok-sender.sender c.in_ok-receiver.receiver pacer c.new.result (record {
      begun = c.new.ensures;
      own = rw (opening.0, c.new-core.ensures) core_0;
      sent = c.in_ok-sender.ensures.sender.0;
      received = c.in_ok-receiver.ensures.receiver.0;
      below = omega arith;
      top = omega arith;
    })).0
