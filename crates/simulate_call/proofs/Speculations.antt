-- What was written and handed back of a run in speculative mode is what cycle-by-cycle simulation gives.
use Rattle.std.proofs.Common.{◌≡◌, ◌∙◌, ◌*◌, ℕ, List, Option, IsTrue, inl, inr, sum_by, refl, sym, ap, subst}
use Rattle.slack_base.specs.declared.images.Image.{Image}
use Rattle.slack_base.specs.declared.notes.Interval.{Interval}
use Rattle.io_edge.specs.Holds.{Holds}
use Rattle.bus_model.specs.Channels.{ChannelValue}
use Rattle.timed_core.specs.Cores.{HartValue}
use Rattle.target_law.specs.Cycles.{StateValue}
use Rattle.target_law.specs.Runs.{Ends}
use Rattle.target_law.specs.Ticks.{replayed_of}
use Rattle.lockstep_model.specs.Start.{start_of}
use Rattle.spec_run.specs.Speculative.{IsSpeculativeRun}
use Rattle.sim_words.specs.OrderValues.{OrderValue}
use Rattle.sim_words.specs.declared.commands.Command.TheVariants as command
use Rattle.sim_words.specs.declared.values.Mode.TheVariants.{Speculative}
use Rattle.image_run.specs.Ends.{rules_for}
use Rattle.image_run.specs.Modes.{is_exact, is_noted, limit_in, step_in}
use Rattle.simulate_call.specs.Headline.{IsSpeculation, IsSpeculated, IsImageOf, Delivers, text_by}
use Rattle.simulate_call.specs.Inputs.{IsInput, image_told}
use Rattle.simulate_call.specs.Outputs.{IsRun, IsRunOutput, IsGenOutput, IsOutputBy}
use Rattle.simulate_call.specs.RunValues.{RunValue, run_of}
use Rattle.simulate_call.specs.Writing.{Wrote, IsWritten}
use Rattle.simulate_call.specs.declared.answers.Answer.{Answer}
use Rattle.simulate_call.proofs.Found.{found}

module _ (holds : Holds) (order : OrderValue) (mode_is : order.mode ≡ Speculative) where
  speculated : (image : Image) (notes : List Interval) (m : StateValue HartValue ChannelValue) (run : RunValue)
      → IsRun holds order image notes m → run ≡ run_of order.numbers.cores notes m → IsSpeculated holds order.numbers image run m
  speculated image notes m run is run_is =
      let config = order.numbers in
      let rules = rules_for config image in
      let start = start_of config image in
      let exact = is.exact (subst (λ mode. IsTrue (is_exact mode config)) (sym mode_is) refl) in
      let counted = is.counted (subst (λ mode. IsTrue (is_noted mode)) (sym mode_is) refl) in
      let same_notes : run.notes ≡ notes = ap (λ (r : RunValue). r.notes) run_is in
      let ends : IsSpeculativeRun rules holds config.slack config.interval config.limit start notes m =
      subst (λ mode. Ends rules config.interval (limit_in mode config) (step_in rules holds mode config order.steps) start notes m) mode_is is.ends in
      record {
        stop = m.clock;
        stops = exact.stops;
        machine = exact.state;
        end = ap (λ (r : RunValue). r.end) run_is;
        notes = subst (λ ns. IsSpeculativeRun rules holds config.slack config.interval config.limit start ns m) (sym same_notes) ends;
        drift_ticks = ap (λ (r : RunValue). r.drift_ticks) run_is ∙ ap (λ n. config.cores * n) counted;
        replay_ticks = ap (λ (r : RunValue). r.replay_ticks) run_is ∙ ap (λ ns. config.cores * sum_by replayed_of ns) (sym same_notes);
      }

  module _ (answer : Answer) (run : RunValue) (left left_after written written_after : Option (List ℕ)) (wrote : Wrote holds order answer run left left_after written written_after) where
    of_run : order.command ≡ command.Run → Delivers holds order answer run left left_after written written_after
    of_run e =
        let read : IsInput command.Run left left_after wrote.input = subst (λ k. IsInput k left left_after wrote.input) e wrote.read in
        let out : IsRunOutput holds order wrote.input run wrote.text = subst (λ k. IsOutputBy k holds order wrote.input run wrote.text) e wrote.output in
        let told = found (image_told order.numbers wrote.input) (λ image. IsRun holds order image out.notes out.machine) out.ran in
        record {
          image = told.0;
          read = subst (λ k. IsImageOf k order left left_after told.0) (sym e) (wrote.input, read, told.1);
          machine = out.machine;
          speculated = speculated told.0 out.notes out.machine run told.2 out.hands_back;
          is_written = subst (IsWritten answer written written_after) (out.whole ∙ ap (λ k. text_by k order out.machine run) (sym e)) wrote.is_written;
        }

    of_gen : order.command ≡ command.Gen → Delivers holds order answer run left left_after written written_after
    of_gen e =
        let read : IsInput command.Gen left left_after wrote.input = subst (λ k. IsInput k left left_after wrote.input) e wrote.read in
        let out : IsGenOutput holds order run wrote.text = subst (λ k. IsOutputBy k holds order wrote.input run wrote.text) e wrote.output in
        record {
          image = out.image;
          read = subst (λ k. IsImageOf k order left left_after out.image) (sym e) (read, out.program);
          machine = out.machine;
          speculated = speculated out.image out.notes out.machine run out.ran out.hands_back;
          is_written = subst (IsWritten answer written written_after) (out.whole ∙ ap (λ k. text_by k order out.machine run) (sym e)) wrote.is_written;
        }

pub delivers : (holds : Holds) (order : OrderValue) (answer : Answer) (run : RunValue) (left left_after written written_after : Option (List ℕ))
    → Wrote holds order answer run left left_after written written_after → IsSpeculation order → Delivers holds order answer run left left_after written written_after
delivers holds order answer run left left_after written written_after wrote is =
    elim is.runs as (λ _. Delivers holds order answer run left left_after written written_after) [
      | inl e ↦ of_run holds order is.mode answer run left left_after written written_after wrote e
      | inr e ↦ of_gen holds order is.mode answer run left left_after written written_after wrote e
    ]
