use Rattle.std.proofs.Common.{◌≡◌, Ok, arith, rules, sym, subst}
use Rattle.image_load.specs.Packed.{packed_file}
use Rattle.image_load.specs.Reading.{image_of}
use Rattle.image_load.proofs.FileFits.{read_fits}
use Rattle.image_load.proofs.PackedAgain.{packed_again}
use Rattle.image_load.proofs.packing.packed_bytes.Goals as goal

pub returns-clause-again : goal.returns-clause-again
unfolding packed_file
returns-clause-again c base memory fits =
    let image = c.args.image.now in
    let few = c.requires.few in
    let words = rw c.as_slice-segments.ensures at c.in_ok-push_headers.ensures.words in
    let file : c.of.result ≡ packed_file image = search rules in
    subst (λ f. image_of base memory f ≡ Ok image) (sym file) (packed_again image (omega arith) few words base memory fits)

pub returns-clause-accepted : goal.returns-clause-accepted
unfolding packed_file
returns-clause-accepted c base memory bytes read =
    let image = c.args.image.now in
    let few = c.requires.few in
    let words = rw c.as_slice-segments.ensures at c.in_ok-push_headers.ensures.words in
    let file : c.of.result ≡ packed_file image = search rules in
    let fits = read_fits base memory bytes image read in
    subst (λ f. image_of base memory f ≡ Ok image) (sym file) (packed_again image (omega arith) few words base memory fits)
