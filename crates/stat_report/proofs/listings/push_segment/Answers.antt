use Rattle.std.proofs.Common.{◌≡◌, ◌∙◌, ◌+◌, ◌≤◌, ◌++◌, length, drop, sym, ap, append_assoc, append-nil, arith}
use Rattle.std.proofs.lemmas.List.{take_rest}
use Rattle.byteorder.specs.Endian.{little_number}
use Rattle.stat_report.specs.Listing.{line}
use Rattle.stat_report.proofs.ListedLines.{lines_from, lines_start, lines_more, lines_end}
use Rattle.stat_report.proofs.listings.push_segment.Goals as goal

pub loop-place-init : goal.loop-place-init
loop-place-init c =
    let start = lines_start c.args.segment.now c.first_place-place.result c.first_place-place.ensures.aligned c.first_place-place.ensures.near in
    record {
      so_far = ap (λ xs. c.args.text.now ++ xs) (sym start);
      aligned = c.first_place-place.ensures.aligned;
      near = omega (arith, c.first_place-place.ensures.near);
    }

pub loop-place-preserved : goal.loop-place-preserved
loop-place-preserved c =
    let s = c.args.segment.now in
    let place = c.loop-place.place in
    let bytes : length c.as_slice-bytes.result.now ≡ length s.bytes = ap length c.as_slice-bytes.ensures in
    let room : place + 4 ≤ length s.bytes = omega (arith, c.loop-place-test.true, bytes) in
    let word : c.read_u32-word.result ≡ little_number 4 (drop place s.bytes) =
    c.read_u32-word.ensures ∙ ap (little_number 4) (take_rest c.as_slice-bytes.result.now place) ∙ ap (λ xs. little_number 4 (drop place xs)) c.as_slice-bytes.ensures in
    record {
      so_far =
          ap (λ xs. xs ++ lines_from s (place + 4)) c.in_ok-push_line.ensures
          ∙ append_assoc c.loop-place.text _ (lines_from s (place + 4))
          ∙ ap (λ w. c.loop-place.text ++ (line (s.address + place) w ++ lines_from s (place + 4))) word
          ∙ ap (λ xs. c.loop-place.text ++ xs) (sym (lines_more s place c.loop-place.invariant.aligned room))
          ∙ c.loop-place.invariant.so_far;
      aligned = omega (arith, c.loop-place.invariant.aligned);
      near = omega (arith, room);
    }

pub returns : goal.returns
returns c =
    let s = c.args.segment.now in
    let bytes : length c.as_slice-bytes.result.now ≡ length s.bytes = ap length c.as_slice-bytes.ensures in
    let past = lines_end s c.loop-place.place (omega (arith, c.loop-place-test.false, bytes)) in
    sym (append-nil c.loop-place.text) ∙ ap (λ xs. c.loop-place.text ++ xs) (sym past) ∙ c.loop-place.invariant.so_far
