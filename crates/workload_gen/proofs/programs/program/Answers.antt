use Rattle.std.proofs.Common.{sym, subst, ◌∙◌, arith}
use Rattle.std.proofs.lemmas.Result.{IfOk-weaker}
use Rattle.slack_base.specs.Images.{Fits}
use Rattle.workload_gen.specs.Programs.{AreBytesOf}
use Rattle.workload_gen.proofs.Size.{program_size, image_fits}
use Rattle.workload_gen.proofs.programs.program.Goals as goal

pub one_piece-requires : goal.one_piece-requires
one_piece-requires c =
    let coded = subst (λ instrs. AreBytesOf instrs c.in_ok-bytes.bytes.items) (c.as_slice.ensures.value ∙ c.in_ok-instructions.ensures.value) c.in_ok-bytes.ensures in
    omega (arith, program_size c.args.seed c.args.config.now.base c.in_ok-bytes.bytes.items coded)

pub returns-clause-fits : goal.returns-clause-fits
returns-clause-fits c =
    let base = c.args.config.now.base in
    let memory = c.args.config.now.memory in
    let bytes = c.in_ok-bytes.bytes.items in
    let coded = subst (λ instrs. AreBytesOf instrs bytes) (c.as_slice.ensures.value ∙ c.in_ok-instructions.ensures.value) c.in_ok-bytes.ensures in
    let fits = image_fits base memory bytes (program_size c.args.seed base bytes coded) c.args.config.now.base_in_bounds c.requires in
    IfOk-weaker c.one_piece.result _ (Fits base memory) (λ image same. subst (Fits base memory) (sym same) fits) c.one_piece.ensures
