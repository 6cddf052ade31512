use Rattle.std.proofs.Common.{◌≡◌, Ok, ap, sym, ◌∙◌, filter, arith}
use Rattle.slack_base.specs.Checks.{unless_fault}
use Rattle.image_load.specs.declared.layouts.Load.{Load}
use Rattle.image_load.specs.Packed.{packed_piece, pieces_under, takes_memory}
use Rattle.image_load.proofs.PieceSteps.{at_end, one_on, at_fault}
use Rattle.image_load.proofs.packed.checked_pieces.Goals as goal

pub piece_fault-requires : goal.piece_fault-requires
unfolding packed_piece
piece_fault-requires c =
    let offset : c.piece_at-piece.result.offset ≡ c.loop-index.offset = ap (λ (p : Load). p.offset) c.piece_at-piece.ensures.piece in
    omega (arith, c.loop-index.invariant.near, offset)

pub keep-requires : goal.keep-requires
keep-requires c = omega (arith, c.loop-index.invariant.few)

pub returns-in-Some : goal.returns-in-Some
returns-in-Some c =
    let config = c.args.config.now in
    let bytes = c.args.bytes.now in
    let header = c.args.header.now in
    let piece = c.piece_at-piece in
    let fault = sym (rw c.as_slice.ensures.items at c.in-Some.ensures) in
    let some = at_fault config.base config.memory bytes header c.loop-index.loads c.loop-index.index c.loop-index.offset c.loop-index-test.true piece.result piece.ensures.piece c.loop-index.invariant c.in-Some.fault fault in
    sym (ap (λ o. unless_fault o (filter takes_memory (pieces_under bytes header))) some)

pub loop-index-preserved : goal.loop-index-preserved
loop-index-preserved c =
    let config = c.args.config.now in
    let bytes = c.args.bytes.now in
    let header = c.args.header.now in
    let piece = c.piece_at-piece in
    let none = sym (rw c.as_slice.ensures.items at c.in-None.ensures) in
    rw (c.keep.ensures, c.from-offset.ensures) (one_on config.base config.memory bytes header c.loop-index.loads c.loop-index.index c.loop-index.offset c.loop-index-test.true piece.result piece.ensures.piece c.loop-index.invariant piece.ensures.length none)

pub returns : goal.returns
returns c =
    let config = c.args.config.now in
    let bytes = c.args.bytes.now in
    let header = c.args.header.now in
    let end = at_end config.base config.memory bytes header c.loop-index.loads c.loop-index.index c.loop-index.offset c.loop-index-test.false c.loop-index.invariant in
    sym (ap (λ o. unless_fault o (filter takes_memory (pieces_under bytes header))) end.1 ∙ ap Ok end.0)
