-- The words that are drawn with a seed.
use Rattle.std.specs.Prelude.{ℕ, List}
use Rattle.rand_core.specs.Steps.{first_words}
use Rattle.rand_pcg.specs.Lcg.{Lcg, started, increment_of}
use Rattle.rand_pcg.specs.Pcg.{multiplier_64, pcg32}

-- PCG XSH RR 64/32, set up from the seed as its state and 54 as its stream
abbrev pub generator : ℕ → Lcg
generator seed = started 64 multiplier_64 seed (increment_of 64 54)

-- so many words: the generator's next outputs
unfoldable pub draws : ℕ → ℕ → List ℕ
draws seed count = first_words pcg32 count (generator seed)
