use Rattle.std.proofs.Common.{rules, ◌≡◌, ◌∙◌, Err, IsOkAnd, sym, ap, subst}
use Rattle.io_edge.specs.Holds.{Holds}
use Rattle.sim_words.specs.OrderValues.{order_value}
use Rattle.simulate_call.specs.declared.answers.Answer.TheVariants.{BadWords}
use Rattle.simulate_call.specs.Coherence.{IsExactRun, IsUnbroken}
use Rattle.simulate_call.specs.Headline.{Delivers, IsSpeculation}
use Rattle.simulate_call.specs.RunValues.{run_in}
use Rattle.simulate_call.specs.Writing.{Wrote}
use Rattle.coherence_law.proofs.Starting.{no_breaks_of}
use Rattle.simulate_call.proofs.Exact.{unbroken}
use Rattle.simulate_call.proofs.Speculations.{delivers}
use Rattle.simulate_call.proofs.simulation.simulate.Goals as goal

pub returns-in-Err-Fault-clause-bad_words : goal.returns-in-Err-Fault-clause-bad_words
returns-in-Err-Fault-clause-bad_words g c = λ fault is.
    let told = (c.in-Err-Fault.ensures.fault c.in-Err-Fault.fault).0 (ap Err c.in-Err-Fault.field-0-is) in
    let answers = sym c.refused.ensures.answer ∙ is in
    let same : c.in-Err-Fault.fault ≡ fault = cc in
    told ∙ ap Err same

pub returns-in-Err-Fault-clause-refuses_words : goal.returns-in-Err-Fault-clause-refuses_words
returns-in-Err-Fault-clause-refuses_words g c = λ fault is.
    let told = (c.in-Err-Fault.ensures.fault c.in-Err-Fault.fault).0 (ap Err c.in-Err-Fault.field-0-is) in
    let both = sym told ∙ is in
    let same : c.in-Err-Fault.fault ≡ fault = cc in
    c.refused.ensures.answer ∙ ap BadWords same

pub returns-in-Err-Fault-clause-accepts : goal.returns-in-Err-Fault-clause-accepts
returns-in-Err-Fault-clause-accepts g c =
    let told = (c.in-Err-Fault.ensures.fault c.in-Err-Fault.fault).0 (ap Err c.in-Err-Fault.field-0-is) in
    search rules

pub returns-in-Err-Fault-clause-refuses : goal.returns-in-Err-Fault-clause-refuses
returns-in-Err-Fault-clause-refuses g c =
    let told = (c.in-Err-Fault.ensures.fault c.in-Err-Fault.fault).0 (ap Err c.in-Err-Fault.field-0-is) in
    search rules

pub returns-in-Err-OutOfMemory-clause-refuses_words : goal.returns-in-Err-OutOfMemory-clause-refuses_words
returns-in-Err-OutOfMemory-clause-refuses_words g c = λ fault is.
    let refused = (c.in-Err-OutOfMemory.ensures.fault fault).1 is in
    let none = c.in-Err-OutOfMemory.field-0-is in
    cc

pub returns-in-Ok-output_of-clause-headline : goal.returns-in-Ok-output_of-clause-headline
returns-in-Ok-output_of-clause-headline g c = λ has.
    let told = c.in-Ok.ensures.order in
    let holds : Holds = record { may = g.G.Gate.may_hold c.args.gate.now; must = g.G.Gate.must_hold c.args.gate.now } in
    let wrote : Wrote holds (order_value c.in-Ok.order) c.write_output.result.answer (run_in c.write_output.result)
    (g.S.Source.left c.args.source.now) (g.S.Source.left c.read_input.new.source) (g.W.Sink.written c.args.sink.now) (g.W.Sink.written c.write_output.new.sink) = search rules in
    subst (λ r. IsOkAnd r (λ order. IsSpeculation order → Delivers holds order c.write_output.result.answer (run_in c.write_output.result)
    (g.S.Source.left c.args.source.now) (g.S.Source.left c.read_input.new.source) (g.W.Sink.written c.args.sink.now) (g.W.Sink.written c.write_output.new.sink))) (sym told)
    (λ is. delivers holds (order_value c.in-Ok.order) _ _ _ _ _ _ wrote is)

pub returns-in-Ok-output_of-clause-coherent : goal.returns-in-Ok-output_of-clause-coherent
returns-in-Ok-output_of-clause-coherent g c = λ has.
    let told = c.in-Ok.ensures.order in
    let holds : Holds = record { may = g.G.Gate.may_hold c.args.gate.now; must = g.G.Gate.must_hold c.args.gate.now } in
    let wrote : Wrote holds (order_value c.in-Ok.order) c.write_output.result.answer (run_in c.write_output.result)
    (g.S.Source.left c.args.source.now) (g.S.Source.left c.read_input.new.source) (g.W.Sink.written c.args.sink.now) (g.W.Sink.written c.write_output.new.sink) = search rules in
    subst (λ r. IsOkAnd r (λ order. IsExactRun order → IsUnbroken order (run_in c.write_output.result))) (sym told)
    (λ is. unbroken holds (order_value c.in-Ok.order) (no_breaks_of c.in-Ok.order.config) _ _ _ _ _ _ wrote is)
