use Rattle.std.proofs.Common.{◌≡◌, Ok, arith, rules, sym, subst}
use Rattle.image_load.specs.Flat.{flat_file}
use Rattle.image_load.specs.Reading.{image_of}
use Rattle.slack_base.specs.Images.{one_piece}
use Rattle.image_load.proofs.ReadAgain.{read_again}
use Rattle.image_load.proofs.writing.flat_file.Goals as goal

pub returns-clause-again : goal.returns-clause-again
unfolding flat_file
returns-clause-again c base memory fits =
    let header = c.args.header.now in
    let bytes = c.args.bytes.now in
    let file : c.of.result ≡ flat_file header.address header.entry bytes = search rules in
    let again = read_again header.address header.entry bytes (omega arith) (omega arith) (omega arith) base memory fits in
    subst (λ f. image_of base memory f ≡ Ok (one_piece header.address header.entry bytes)) (sym file) again
