use Rattle.std.proofs.Common.{◌≡◌, Ok, rules}
use Rattle.image_load.specs.Reading.{image_of}
use Rattle.image_load.proofs.FileFits.{read_fits, fits_packed}
use Rattle.image_load.proofs.reading.read_image.Goals as goal

pub returns-clause-fits : goal.returns-clause-fits
unfolding image_of
returns-clause-fits c =
    let config = c.args.config.now in
    let read : image_of config.base config.memory c.args.bytes.now ≡ Ok c.in_ok-image_in.field-0 = search rules in
    read_fits config.base config.memory c.args.bytes.now c.in_ok-image_in.field-0 read

pub returns-clause-packable : goal.returns-clause-packable
unfolding image_of
returns-clause-packable c =
    let config = c.args.config.now in
    let image = c.in_ok-image_in.field-0 in
    let read : image_of config.base config.memory c.args.bytes.now ≡ Ok image = search rules in
    fits_packed config.base config.memory image c.in_ok-image_in.ensures.few (read_fits config.base config.memory c.args.bytes.now image read)
