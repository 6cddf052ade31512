-- Finishing takes one way, so an interleaving has one drift and one end.
use Rattle.std.proofs.Common.{◌≡◌, ◌∙◌, ◌⊎◌, inl, inr, ℕ, ◌<◌, Bool, List, Option, refl, sym, ap, subst, arith}
use Rattle.std.proofs.lemmas.Bool.{true≢false}
use Rattle.std.proofs.lemmas.Option.{none-some}
use Rattle.slack_base.specs.declared.stamps.Id.{Id}
use Rattle.slack_base.specs.declared.steps.Step.{Step}
use Rattle.slack_base.specs.declared.steps.Step.TheVariants.{Tick, Serve, Take}
use Rattle.target_law.specs.Rules.{Rules}
use Rattle.violation_watch.proofs.Lists.{less_or}
use Rattle.drive_script.specs.Scripts.{history, closed, AllOneScript}
use Rattle.drive_script.specs.Finishing.{IsFirstLeast, IsOldest, IsNext, is_before, oldest_id, serves, takes, ticks, IsFinished, Finishes, done, goes}
use Rattle.drive_script.specs.Worlds.{LaneValue, WorldValue, stepped}
use Rattle.drive_script.proofs.Rising.{least_of_oldest}

-- the same place, where neither is before the other
same_place : (c d : ℕ) → (c < d → ⊥) → (d < c → ⊥) → c ≡ d
same_place c d f g = less_or c d (λ l. absurd (f l)) (λ l. less_or d c (λ m. absurd (g m)) (λ m. omega arith))

one_least : (K : Type 0) (is_less : K → K → Bool) (key : ℕ → Option K) (c d : ℕ) (k l : K) → IsFirstLeast K is_less key c k → IsFirstLeast K is_less key d l → c ≡ d
one_least K is_less key c d k l h g =
    same_place c d
    (λ before. true≢false (sym (g.first c k before h.here) ∙ h.least d l g.here))
    (λ before. true≢false (sym (h.first d l before g.here) ∙ g.least c k h.here))

module _ {Inner : Type 0} (end : ℕ) (lanes : List (LaneValue Inner)) where
  oldest_least : (c : ℕ) (i : Id) → IsOldest lanes c i → IsFirstLeast Id is_before (oldest_id lanes) c i
  oldest_least c i h = record { here = h.here; least = least_of_oldest i lanes h.least; first = h.first }

  one_next : {x y : Step} → IsNext end lanes x → IsNext end lanes y → x ≡ y
  one_next (serves {c = c} i h) (serves {c = d} j g) = ap Serve (one_least Id is_before (oldest_id lanes) c d i j (oldest_least c i h) (oldest_least d j g))
  one_next (serves {c = c} i h) (takes q none g) = absurd (none-some i (sym (none c) ∙ h.here))
  one_next (serves {c = c} i h) (ticks t none free g) = absurd (none-some i (sym (none c) ∙ h.here))
  one_next (takes q none g) (serves {c = d} j h) = absurd (none-some j (sym (none d) ∙ h.here))
  one_next (takes {c = c} p none h) (takes {c = d} q also g) =
      ap Take (same_place c d (λ before. none-some p (sym (g.first c before) ∙ h.here)) (λ before. none-some q (sym (h.first d before) ∙ g.here)))
  one_next (takes {c = c} p none h) (ticks t also free g) = absurd (none-some p (sym (free c) ∙ h.here))
  one_next (ticks t none free g) (serves {c = d} j h) = absurd (none-some j (sym (none d) ∙ h.here))
  one_next (ticks t none free g) (takes {c = d} q also h) = absurd (none-some q (sym (free d) ∙ h.here))
  one_next (ticks {c = c} t none free h) (ticks {c = d} u also bare g) = ap Tick (one_least _ _ _ c d t u h g)

  no_next : {x : Step} → IsFinished end lanes → IsNext end lanes x → ⊥
  no_next fin (serves {c = c} i h) = none-some i (sym (fin.served c) ∙ h.here)
  no_next fin (takes {c = c} p none h) = none-some p (sym (fin.taken c) ∙ h.here)
  no_next fin (ticks {c = c} t none free h) = none-some t (sym (fin.ended c) ∙ h.here)

module _ {Inner Chan : Type 0} (rules : Rules Inner Chan) where
  -- finishing is done here, or it goes on
  abbrev Way : (w e : WorldValue Inner Chan) → Type 0
  Way w e = (IsFinished w.end w.lanes × (w ≡ e)) ⊎ ((x : Step) × IsNext w.end w.lanes x × Finishes rules (stepped rules x w) e)

  way : {w e : WorldValue Inner Chan} → Finishes rules w e → Way w e
  way (done fin) = inl (fin, refl)
  way (goes x next rest) = inr (x, next, rest)

  one_finish : {w e : WorldValue Inner Chan} → Finishes rules w e → (f : WorldValue Inner Chan) → Finishes rules w f → e ≡ f
  one_finish (done {w = w} fin) f other = elim (way other) [ inl h ↦ h.1 | inr h ↦ absurd (no_next w.end w.lanes fin h.1) ]
  one_finish (goes {w = w} {e = e} x next rest) f other = elim (way other) [
    | inl h ↦ absurd (no_next w.end w.lanes h.0 next)
    | inr h ↦ one_finish rest f (subst (λ y. Finishes rules (stepped rules y w) f) (one_next w.end w.lanes h.1 next) h.2)
  ]

  pub all_one_script : AllOneScript rules
  all_one_script s k steps d d2 e e2 h g =
      let same = one_finish h.finishes g.world g.finishes in
      (h.drift ∙ ap (history s.clock k) same ∙ sym g.drift, h.end ∙ ap (closed rules) same ∙ sym g.end)
