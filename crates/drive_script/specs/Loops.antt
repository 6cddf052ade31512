-- What the parts of finishing promise each other.
use Rattle.std.specs.Prelude.{ℕ, ◌+◌, ◌-◌, Bool, List, [], ◌∷◌, Option, Some, None, if◌then◌else◌}
use Rattle.target_law.specs.Rules.{Rules}
use Rattle.drive_script.specs.Finishing.{Finishes}
use Rattle.drive_script.specs.Worlds.{WorldValue}

-- whatever finishing leads to from the second world, it leads to from the first
abbrev pub LeadsTo : {Inner Chan : Type 0} → Rules Inner Chan → (w later : WorldValue Inner Chan) → Type 0
LeadsTo rules w later = (e : WorldValue _ _) → Finishes rules later e → Finishes rules w e

-- a sum over lanes
abbrev pub total : {X : Type 0} → (X → ℕ) → List X → ℕ
total f [] = 0
total f (x ∷ xs) = f x + total f xs

-- how many ticks are left
abbrev pub ticks_left : {Inner Chan : Type 0} → WorldValue Inner Chan → ℕ
ticks_left w = total (λ lane. w.end - lane.clock) w.lanes

-- of two keys with their places the one that is less, the first if neither is
abbrev pub picked : {K : Type 0} → (K → K → Bool) → Option (ℕ × K) → ℕ → Option K → Option (ℕ × K)
picked is_less best place None = best
picked is_less None place (Some key) = Some (place, key)
picked is_less (Some b) place (Some key) = if is_less key b.1 then Some (place, key) else Some b
