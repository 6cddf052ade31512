-- Posts delivered to cores.
use Rattle.std.proofs.Common.{◌≡◌, ◌∙◌, ℕ, List, [], ◌∷◌, length, refl, arith}
use Rattle.std.specs.List.{AllByRecursion as Each}
use Rattle.slack_base.specs.declared.messages.Post.{Post}
use Rattle.slack_base.specs.Inboxes.{CoreValue, with_put}
use Rattle.target_law.specs.Cycles.{changed_at, delivered}
use Rattle.target_law.specs.Numbered.{AllNumbered}
use Rattle.target_law.proofs.Places.{length-changed, numbered_changed}

module _ {Inner : Type 0} where
  pub length-delivered : (cores : List (CoreValue Inner)) (posts : List Post) → length (delivered cores posts) ≡ length cores
  length-delivered cores [] = refl
  length-delivered cores (p ∷ posts) = length-delivered (changed_at p.to (with_put p) cores) posts ∙ length-changed (with_put p) p.to cores

  -- what every put keeps is kept by all
  pub delivered_keeps : (P : ℕ → CoreValue Inner → Type 0) (Q : Post → Type 0)
      → ((k : ℕ) (core : CoreValue Inner) (p : Post) → k ≡ p.to → Q p → P k core → P k (with_put p core))
      → (cores : List (CoreValue Inner)) (posts : List Post) → Each Q posts → AllNumbered P 0 cores → AllNumbered P 0 (delivered cores posts)
  delivered_keeps P Q keeps cores [] all are = are
  delivered_keeps P Q keeps cores (p ∷ posts) all are =
      delivered_keeps P Q keeps (changed_at p.to (with_put p) cores) posts all.1
      (numbered_changed (with_put p) P 0 p.to cores (λ k core e is. keeps k core p (omega arith) all.0 is) are)
