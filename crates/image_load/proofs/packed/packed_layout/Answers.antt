use Rattle.std.proofs.Common.{sym}
use Rattle.std.proofs.lemmas.Result.{err_from_is_err_and}
use Rattle.image_load.proofs.PackedSteps.{header_fault, piece_fault, entry_fault, no_fault}
use Rattle.image_load.proofs.packed.packed_layout.Goals as goal

pub returns-in_err-header : goal.returns-in_err-header
returns-in_err-header c =
    let whole = header_fault c.args.config.now.base c.args.config.now.memory c.args.bytes.now c.in_err-header.field-0.0 (sym c.in_err-header.ensures.header) in
    let exit = err_from_is_err_and c.from_residual.result c.from_residual.ensures.1 in
    rw (exit.1, exit.2) (sym whole)

pub returns-in_err-loads : goal.returns-in_err-loads
returns-in_err-loads c =
    let whole = piece_fault c.args.config.now.base c.args.config.now.memory c.args.bytes.now c.in_ok-header.header (sym c.in_ok-header.ensures.header) c.in_err-loads.field-0.0 (sym c.in_err-loads.ensures) in
    let exit = err_from_is_err_and c.from_residual-in_err-loads.result c.from_residual-in_err-loads.ensures.1 in
    rw (exit.1, exit.2) (sym whole)

pub returns-then-not-is_word_of : goal.returns-then-not-is_word_of
returns-then-not-is_word_of c =
    sym (entry_fault c.args.config.now.base c.args.config.now.memory c.args.bytes.now c.in_ok-header.header (sym c.in_ok-header.ensures.header) c.in_ok-loads.loads (sym c.in_ok-loads.ensures) (sym c.if-not-is_word_of.ensures))

pub returns : goal.returns
returns c =
    sym (no_fault c.args.config.now.base c.args.config.now.memory c.args.bytes.now c.in_ok-header.header (sym c.in_ok-header.ensures.header) c.in_ok-loads.loads (sym c.in_ok-loads.ensures) (sym c.if-not-is_word_of.ensures))
