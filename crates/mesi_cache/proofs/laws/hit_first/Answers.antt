use Rattle.std.proofs.Common.{refl}
use Rattle.mesi_cache.specs.Lines.{written}
use Rattle.mesi_cache.proofs.Order.{hit_is_first, hit_keeps_others}
use Rattle.mesi_cache.proofs.laws.hit_first.Goals as goal

pub returns : goal.returns
returns c = record {
  read = λ line l s once is. hit_is_first (λ k. k) line l s once is;
  write = λ line place value l s once is. hit_is_first (written place value) line l s once is;
  others_read = λ line s. hit_keeps_others (λ k. k) (λ k. refl) line s;
  others_written = λ line place value s. hit_keeps_others (written place value) (λ k. refl) line s;
}
