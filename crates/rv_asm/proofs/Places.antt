-- How a table of labels changes.
use Rattle.std.proofs.Common.{◌≡◌, ℕ, true, false, cond, List, Option, Some, None, is_some, refl, sym, ap, ◌∙◌}
use Rattle.std.specs.Option.{option_or}
use Rattle.std.specs.Str.{bytes_eq}
use Rattle.std.proofs.lemmas.Slice.Eq.{bytes_eq-Decides}
use mathlib.Core.Path.{fun_ext}
use Rattle.rv_asm.specs.Labels.{with_label}
use Rattle.rv_asm.specs.Operands.{Places}

or_none : (o : Option ℕ) → option_or o None ≡ o
or_none None = refl
or_none (Some x) = refl

-- a label that was defined keeps its place
pub defined_before : (here : ℕ) (places : Places) (name : List ℕ) → true ≡ is_some (places name) → places ≡ with_label here places name
unfolding with_label
defined_before here places name h =
    fun_ext (λ other.
    elim (bytes_eq name other) as (λ b. bytes_eq name other ≡ b → places other ≡ option_or (places other) (cond b (Some here) None)) [
      | true ↦ λ e. kept here (places other) (h ∙ ap (λ n. is_some (places n)) ((bytes_eq-Decides name other).0 e))
      | false ↦ λ e. sym (or_none (places other))
    ] refl)
  where
    kept : (here : ℕ) (o : Option ℕ) → true ≡ is_some o → o ≡ option_or o (Some here)
    kept here None h = absurd cc
    kept here (Some x) h = refl

-- a new label
pub defined_now : (here : ℕ) (places after : Places) (name : List ℕ) → false ≡ is_some (places name) → ((other : List ℕ) → after other ≡ cond (bytes_eq name other) (Some here) (places other)) → after ≡ with_label here places name
unfolding with_label
defined_now here places after name h k =
    fun_ext (λ other. k other ∙
    elim (bytes_eq name other) as (λ b. bytes_eq name other ≡ b → cond b (Some here) (places other) ≡ option_or (places other) (cond b (Some here) None)) [
      | true ↦ λ e. taken here (places other) (h ∙ ap (λ n. is_some (places n)) ((bytes_eq-Decides name other).0 e))
      | false ↦ λ e. sym (or_none (places other))
    ] refl)
  where
    taken : (here : ℕ) (o : Option ℕ) → false ≡ is_some o → Some here ≡ option_or o (Some here)
    taken here None h = refl
    taken here (Some x) h = absurd cc
