-- No line breaks in the machine that is handed back of a run that ended as lockstep does.
use Rattle.std.proofs.Common.{◌≡◌, ◌∙◌, ℕ, Bool, true, List, [], Option, IsTrue, inl, inr, codes, ap, subst}
use Rattle.std.specs.Fmt.{digits}
use Rattle.slack_base.specs.declared.images.Image.{Image}
use Rattle.slack_base.specs.declared.notes.Interval.{Interval}
use Rattle.io_edge.specs.Holds.{Holds}
use Rattle.bus_model.specs.Channels.{ChannelValue}
use Rattle.timed_core.specs.Cores.{HartValue}
use Rattle.target_law.specs.Cycles.{StateValue}
use Rattle.coherence_law.specs.Breaks.{breaks_of}
use Rattle.coherence_law.specs.Texts.{text_of}
use Rattle.plain_text.specs.Pieces.{field}
use Rattle.coherence_law.specs.Unbroken.{machine_after}
use Rattle.sim_words.specs.OrderValues.{OrderValue}
use Rattle.sim_words.specs.declared.commands.Command.TheVariants as command
use Rattle.image_run.specs.Modes.{is_exact}
use Rattle.simulate_call.specs.Coherence.{IsExactRun, IsUnbroken}
use Rattle.simulate_call.specs.Inputs.{image_told}
use Rattle.simulate_call.specs.Outputs.{IsRun, IsRunOutput, IsGenOutput, IsOutputBy}
use Rattle.simulate_call.specs.RunValues.{RunValue, run_of}
use Rattle.simulate_call.specs.Texts.{coherence_in}
use Rattle.simulate_call.specs.Writing.{Wrote}
use Rattle.simulate_call.specs.declared.answers.Answer.{Answer}
use Rattle.simulate_call.proofs.Found.{found}

-- the text about no line
says_none : (check : Bool) (m : StateValue HartValue ChannelValue) → breaks_of m ≡ [] → check ≡ true → coherence_in check m ≡ codes "coherence 0\n"
unfolding text_of field digits
says_none check m none on = ap (λ b. coherence_in b m) on ∙ ap text_of none

module _ (holds : Holds) (order : OrderValue) (exact : IsTrue (is_exact order.mode order.numbers)) (law : (image : Image) (k : ℕ) → breaks_of (machine_after order.numbers image k) ≡ []) where
  ended : (image : Image) (notes : List Interval) (m : StateValue HartValue ChannelValue) (run : RunValue)
      → IsRun holds order image notes m → run ≡ run_of order.numbers.cores notes m → IsUnbroken order run
  ended image notes m run is run_is =
      let none : breaks_of m ≡ [] = ap breaks_of (is.exact exact).state ∙ law image m.clock in
      record { machine = m; end = ap (λ (r : RunValue). r.end) run_is; unbroken = none; says = says_none order.check m none }

  module _ (answer : Answer) (run : RunValue) (left left_after written written_after : Option (List ℕ)) (wrote : Wrote holds order answer run left left_after written written_after) where
    of_run : order.command ≡ command.Run → IsUnbroken order run
    of_run e =
        let out : IsRunOutput holds order wrote.input run wrote.text = subst (λ k. IsOutputBy k holds order wrote.input run wrote.text) e wrote.output in
        let told = found (image_told order.numbers wrote.input) (λ image. IsRun holds order image out.notes out.machine) out.ran in
        ended told.0 out.notes out.machine run told.2 out.hands_back

    of_gen : order.command ≡ command.Gen → IsUnbroken order run
    of_gen e =
        let out : IsGenOutput holds order run wrote.text = subst (λ k. IsOutputBy k holds order wrote.input run wrote.text) e wrote.output in
        ended out.image out.notes out.machine run out.ran out.hands_back

pub unbroken : (holds : Holds) (order : OrderValue) (law : (image : Image) (k : ℕ) → breaks_of (machine_after order.numbers image k) ≡ [])
    (answer : Answer) (run : RunValue) (left left_after written written_after : Option (List ℕ))
    → Wrote holds order answer run left left_after written written_after → IsExactRun order → IsUnbroken order run
unbroken holds order law answer run left left_after written written_after wrote is =
    elim is.runs as (λ _. IsUnbroken order run) [
      | inl e ↦ of_run holds order is.exact law answer run left left_after written written_after wrote e
      | inr e ↦ of_gen holds order is.exact law answer run left left_after written written_after wrote e
    ]
