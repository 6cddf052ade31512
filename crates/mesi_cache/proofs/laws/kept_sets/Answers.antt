use Rattle.std.proofs.Common.{refl}
use Rattle.mesi_cache.specs.Lines.{written}
use Rattle.mesi_cache.proofs.Kept.{kept_front, kept_fill, kept_snoop}
use Rattle.mesi_cache.proofs.laws.kept_sets.Goals as goal

pub returns : goal.returns
returns c = record {
  read = λ ways sets number line s is. kept_front ways sets number s is (λ l. l) line (λ l. refl);
  write = λ ways sets number line place value s is. kept_front ways sets number s is (written place value) line (λ l. refl);
  fill = λ ways sets number new s belongs is. kept_fill ways sets number s is new belongs;
  snoop = λ ways sets number line own s is. kept_snoop ways sets number s is line own;
}
