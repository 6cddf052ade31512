-- What is kept, with one instruction more.
use Rattle.std.proofs.Common.{◌≡◌, ℕ, ◌+◌, ◌*◌, ◌<◌, ◌≤◌, List, [], ◌∷◌, ◌++◌, Option, Some, None, length, drop, get_or, sym, ap, subst, ◌∙◌, ⊎_elim, arith, length-append}
use Rattle.std.specs.Prelude.{IfSome}
use Rattle.std.proofs.lemmas.List.{get_or_append_left, get_or_push}
use Rattle.std.proofs.lemmas.Bool.{cases_lt}
use Rattle.byteorder.specs.Endian.{little_number}
use Rattle.slack_base.specs.declared.instructions.Instr.{Instr}
use Rattle.rv_decode.specs.Decoding.{instr_of}
use Rattle.rv_decode.specs.Encodes.{Encodes}
use Rattle.rv_decode.specs.Ranges.{IsInRange}
use Rattle.timed_core.specs.declared.kept.Kept.{Kept}
use Rattle.timed_core.specs.declared.kept.Kept.TheVariants.{Nothing}
use Rattle.timed_core.specs.Kept.{instr_in}
use Rattle.timed_core.specs.Code.{AreDecoded}

-- what a decoded instruction says of its fields
pub in_ranges : (bits : ℕ) (found : Option Instr) → IfSome found (λ i. Encodes bits i × IsInRange i) → IfSome found IsInRange
in_ranges bits None h = h
in_ranges bits (Some instr) h = h.1

module _ (bytes : List ℕ) (kept : List Kept) (new : Kept) (n : ℕ) (before : AreDecoded bytes kept) (count : length kept ≡ n)
    (room : 4 * n + 4 ≤ length bytes) (instr : instr_in new ≡ instr_of (little_number 4 (drop (4 * n) bytes)))
    (range : IfSome (instr_in new) IsInRange) where
  at_old : (k : ℕ) → k < n → get_or (kept ++ new ∷ []) k Nothing ≡ get_or kept k Nothing
  at_old k lt = get_or_append_left kept (new ∷ []) Nothing k (omega (arith, count))

  at_new : (k : ℕ) → n ≡ k → get_or (kept ++ new ∷ []) k Nothing ≡ new
  at_new k e = get_or_push kept new Nothing k (count ∙ e)

  long : length (kept ++ new ∷ []) ≡ n + 1
  long = length-append kept (new ∷ []) ∙ ap (λ k. k + 1) count

  each : (k : ℕ) → k < length (kept ++ new ∷ []) → instr_in (get_or (kept ++ new ∷ []) k Nothing) ≡ instr_of (little_number 4 (drop (4 * k) bytes))
  each k lt =
      ⊎_elim (λ less. ap instr_in (at_old k less) ∙ before.each k (omega (arith, count)))
      (λ le. let e : n ≡ k = omega (arith, long) in
      ap instr_in (at_new k e) ∙ instr ∙ ap (λ m. instr_of (little_number 4 (drop (4 * m) bytes))) e)
      (cases_lt k n)

  ranges : (k : ℕ) → k < length (kept ++ new ∷ []) → IfSome (instr_in (get_or (kept ++ new ∷ []) k Nothing)) IsInRange
  ranges k lt =
      ⊎_elim (λ less. subst (λ i. IfSome (instr_in i) IsInRange) (sym (at_old k less)) (before.ranges k (omega (arith, count))))
      (λ le. subst (λ i. IfSome (instr_in i) IsInRange) (sym (at_new k (omega (arith, long)))) range)
      (cases_lt k n)

  pub one_more : AreDecoded bytes (kept ++ new ∷ [])
  one_more = record { within = omega (arith, long); each = each; ranges = ranges }
