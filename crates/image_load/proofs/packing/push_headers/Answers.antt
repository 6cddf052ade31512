use Rattle.std.proofs.Common.{sym, subst}
use Rattle.std.proofs.lemmas.List.Elements.{All-more}
use Rattle.image_load.specs.Packed.{segment_header}
use Rattle.image_load.specs.Writing.{HasWords}
use Rattle.image_load.proofs.Written.{one_more}
use Rattle.image_load.proofs.packing.push_headers.Goals as goal

pub loop-segment-preserved : goal.loop-segment-preserved
loop-segment-preserved c =
    let segments = c.args.segments.now in
    let i = c.loop-segment.segment-index in
    let segment = c.segment-item in
    let pushed = c.in_ok-push_header.ensures in (
      one_more segment_header c.args.file.now.items c.loop-segment.file.items c.push_header.new.file.items segments i segment.result c.loop-segment-test.true (sym segment.is) c.loop-segment.invariant.0 pushed.header,
      All-more HasWords segments i segment.result c.loop-segment-test.true c.loop-segment.invariant.1 (subst HasWords segment.is pushed.words),
    )
