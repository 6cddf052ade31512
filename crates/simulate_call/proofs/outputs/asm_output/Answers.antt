use Rattle.std.proofs.Common.{◌∙◌, ap, refl, length}
use Rattle.slack_base.specs.declared.images.Image.{Image}
use Rattle.image_load.specs.Flat.{flat_file}
use Rattle.simulate_call.specs.RunValues.{run_value}
use Rattle.simulate_call.proofs.outputs.asm_output.Goals as goal

pub returns-clause-output : goal.returns-clause-output
returns-clause-output c =
    let a = c.in_ok-image.ensures.image in
    let base = c.args.order.now.config.base in
    record {
      bytes = a.bytes;
      hands_back = ap run_value c.written.ensures.run;
      assembly = record { codes = a.codes; bytes = a.bytes; program = a.program; words = a.words; whole = refl };
      whole =
          c.written.ensures.text
          ∙ c.in_ok-text.ensures.file (record { address = base; bytes = a.bytes; size = length a.bytes }) (ap (λ (i : Image). i.segments) a.whole)
          ∙ ap (λ (i : Image). flat_file base i.entry a.bytes) a.whole;
    }
