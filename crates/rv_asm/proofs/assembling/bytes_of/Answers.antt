use Rattle.std.proofs.Common.{◌≡◌, ℕ, ◌<◌, ◌+◌, List, length, Ok, Err, Vec, Global, ◌∙◌, sym, ap, arith, subst}
use Rattle.std.specs.Str.Lines.{lines}
use Rattle.std.proofs.lemmas.Bool.Decides.{nat_tests}
use Rattle.rv_asm.specs.Labels.{no_places, with_labels}
use Rattle.rv_asm.specs.LabelTables.{places_in}
use Rattle.rv_asm.specs.Lines.{names, GivesLine}
use Rattle.rv_asm.specs.Programs.{codes_from, GivesBytes}
use Rattle.rv_asm.specs.declared.assembling.AsmError.{AsmError}
use Rattle.rv_asm.proofs.SoFar.{IsSoFar, line_is, line_fault, push_fault, passed_on, so_far_step, so_far_end}
use Rattle.rv_asm.proofs.Steps.{rest_shorter}
use Rattle.rv_asm.proofs.assembling.bytes_of.Goals as goal

pub returns-in-Err-clause-bytes : goal.returns-in-Err-clause-bytes
returns-in-Err-clause-bytes c =
    let rest = c.loop-rest.rest.now in
    let some : 0 < length rest = grind (arith, nat_tests) in
    let said = line_is (places_in c.args.labels.now) (places_in c.loop-rest.before) c.loop-rest.place rest c.first_line.result.0.now c.in_ok-labelled.labelled.statement.now c.in_ok-labelled.labelled.redefines c.first_line.ensures.line c.in_ok-labelled.ensures.redefines c.in_ok-labelled.ensures.statement in
    let fault = line_fault c.loop-rest.invariant c.in-Err.kind some (sym said ∙ c.in-Err.ensures) in
    subst (λ (e : AsmError). GivesBytes {V = Vec ℕ Global} (λ v. v.items) (Err e) (codes_from (places_in c.args.labels.now) no_places 1 0 (lines c.args.text.now))) (sym c.fault_at.ensures) fault

pub returns-in_err-place-clause-bytes : goal.returns-in_err-place-clause-bytes
returns-in_err-place-clause-bytes c =
    let rest = c.loop-rest.rest.now in
    let some : 0 < length rest = grind (arith, nat_tests) in
    let said = line_is (places_in c.args.labels.now) (places_in c.loop-rest.before) c.loop-rest.place rest c.first_line.result.0.now c.in_ok-labelled.labelled.statement.now c.in_ok-labelled.labelled.redefines c.first_line.ensures.line c.in_ok-labelled.ensures.redefines c.in_ok-labelled.ensures.statement in
    let read = subst (GivesLine (Ok c.in-Ok.word)) said c.in-Ok.ensures in
    let pushed = push_fault {V = Vec ℕ Global} (λ v. v.items) c.loop-rest.invariant c.in-Ok.word c.in_err-place.field-0.0 some read (λ fault same. c.in_err-place.ensures.fault fault (ap Err same)) in
    passed_on (λ v. v.items) c.from_residual-in_err-place.result c.in_err-place.field-0.0 _ c.from_residual-in_err-place.ensures.1 pushed

pub loop-rest-smaller : goal.loop-rest-smaller
loop-rest-smaller c =
    let some : 0 < length c.loop-rest.rest.now = grind (arith, nat_tests) in
    omega (arith, rest_shorter c.loop-rest.rest.now some, ap length c.first_line.ensures.after)

pub loop-rest-preserved : goal.loop-rest-preserved
loop-rest-preserved c =
    let rest = c.loop-rest.rest.now in
    let some : 0 < length rest = grind (arith, nat_tests) in
    let said = line_is (places_in c.args.labels.now) (places_in c.loop-rest.before) c.loop-rest.place rest c.first_line.result.0.now c.in_ok-labelled.labelled.statement.now c.in_ok-labelled.labelled.redefines c.first_line.ensures.line c.in_ok-labelled.ensures.redefines c.in_ok-labelled.ensures.statement in
    let read = subst (GivesLine (Ok c.in-Ok.word)) said c.in-Ok.ensures in
    let defined = c.in_ok-labelled.ensures.places ∙ ap (λ line. with_labels c.loop-rest.place (places_in c.loop-rest.before) (names line)) c.first_line.ensures.line in
    let step = so_far_step c.loop-rest.invariant (places_in c.define_line.new.labels) c.in_ok-place.place c.push_word.new.bytes.items c.in-Ok.word some defined read c.in_ok-place.ensures.ok in
    subst (λ (r : List ℕ). IsSoFar (places_in c.args.labels.now) c.args.text.now (places_in c.define_line.new.labels) (c.loop-rest.number + 1) c.in_ok-place.place r c.push_word.new.bytes.items) (sym c.first_line.ensures.after) step

pub returns-clause-bytes : goal.returns-clause-bytes
returns-clause-bytes c =
    let none : length c.loop-rest.rest.now ≡ 0 = grind (arith, nat_tests) in
    (c.loop-rest.invariant.codes, so_far_end c.loop-rest.invariant none, c.loop-rest.invariant.words)
