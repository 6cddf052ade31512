use Rattle.std.proofs.Common.{◌≡◌, ◌++◌, length, ap, ◌∙◌, append_assoc, rules}
use Rattle.byteorder.specs.Endian.{little_bytes}
use Rattle.image_load.specs.Packed.{segment_header}
use Rattle.image_load.proofs.packing.push_header.Goals as goal

pub returns-clause-header : goal.returns-clause-header
unfolding segment_header
returns-clause-header c =
    let s = c.args.segment.now in
    let old = c.args.file.now.items in
    let address = little_bytes 4 s.address in
    let given = little_bytes 4 (length s.bytes) in
    let size = little_bytes 4 s.size in
    let one : c.extend_from_slice.new.self.items ≡ old ++ address = search rules in
    let two : c.extend_from_slice-2.new.self.items ≡ c.extend_from_slice.new.self.items ++ given = search rules in
    let three : c.extend_from_slice-3.new.self.items ≡ c.extend_from_slice-2.new.self.items ++ size = search rules in
    three ∙ ap (λ xs. xs ++ size) (two ∙ ap (λ xs. xs ++ given) one ∙ append_assoc old address given) ∙ append_assoc old (address ++ given) size
