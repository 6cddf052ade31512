-- Sets of cores as numbers.
use Rattle.std.proofs.Common.{◌≡◌, ℕ, ◌*◌, ◌%◌, ◌^◌, ◌<◌, true, false, ◌||◌, eqb, max, refl, inl, inr, arith, mod-eq_of_lt}
use Rattle.std.specs.Int.{bit_at}
use Rattle.std.proofs.lemmas.Bool.{cases_eq, cases_lt, both_ways, eq-eqb, ne_eqb}
use Rattle.std.proofs.lemmas.Nat.{or_lt}
use Rattle.std.proofs.lemmas.Nat.Bits.{bit_at_or, bit_at-pow_same, bit_at-pow_other, bit_at-lt, bit_at_above}
use Rattle.std.proofs.Math.Pow.{pow-lt}
use Rattle.slack_base.specs.declared.bounds.TheConstants.{MOST_CORES}
use Rattle.status_map.specs.Cores.{holds, with_core}

-- the members of a set with one more core
pub holds-with_core : (cores core k : ℕ) → holds (with_core cores core) k ≡ (eqb k core || holds cores k)
holds-with_core cores core k = elim (cases_eq k core) [
  | inl same ↦
      let one : bit_at (2 ^ core) k ≡ 1 = rw same (bit_at-pow_same core) in
      let top : max (bit_at cores k) 1 ≡ 1 = omega (arith, bit_at-lt cores k) in
      rw (bit_at_or cores (2 ^ core) k, one, top, eq-eqb k core same) refl
  | inr other ↦
      let none : bit_at (2 ^ core) k ≡ 0 = bit_at-pow_other core k other in
      let stays : max (bit_at cores k) 0 ≡ bit_at cores k = omega arith in
      rw (bit_at_or cores (2 ^ core) k, none, stays, ne_eqb k core other) refl
]

-- a set of cores below n
pub with_core-below : (n cores core : ℕ) → cores < 2 ^ n → core < n → with_core cores core < 2 ^ n
with_core-below n cores core few low = or_lt n cores (2 ^ core) few (pow-lt low)

pub below_from_holds : (n cores k : ℕ) → cores < 2 ^ n → holds cores k ≡ true → k < n
below_from_holds n cores k few member = elim (cases_lt k n) [
  | inl low ↦ low
  | inr high ↦ let e = rw (bit_at_above cores n k few high) at member in absurd (both_ways false refl e)
]

-- the number of a core as a set, as it is computed
pub shifted : (core : ℕ) → core < MOST_CORES → 1 * 2 ^ core % 65536 ≡ 2 ^ core
shifted core low =
    let small : 2 ^ core < 2 ^ 16 = pow-lt {i = core} {j = 16} (omega arith) in
    let one : 1 * 2 ^ core ≡ 2 ^ core = omega arith in
    rw one (mod-eq_of_lt (omega (arith, small)))
