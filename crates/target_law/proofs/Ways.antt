-- A run that goes from interval to interval.
use Rattle.std.proofs.Common.{◌≡◌, ◌∙◌, ℕ, ◌<◌, ◌==◌, ◌||◌, Bool, true, false, List, [], ◌++◌, IsTrue, IsFalse, refl, ap, subst}
use Rattle.slack_base.specs.declared.notes.Interval.{Interval}
use Rattle.target_law.specs.Cycles.{StateValue, all_ended}
use Rattle.target_law.specs.Rules.{Rules}
use Rattle.target_law.specs.Runs.{Step, Goes, first, next, Ends, at_once, later, span}
use Rattle.target_law.specs.Stops.{is_over}
use Rattle.target_law.proofs.Running.{same_number, other_number}

either : (a b : Bool) → b ≡ true → (a || b) ≡ true
either true b e = refl
either false b e = e

module _ {Inner Chan : Type 0} (rules : Rules Inner Chan) (interval limit : ℕ) (step : Step rules) (s : StateValue Inner Chan) where
  -- the run begins, or has gone through some intervals and isn't over below the limit
  pub data IsOnItsWay : List Interval → StateValue Inner Chan → Type 0 where
    begins : IsOnItsWay [] s
    goes_on : {notes : List Interval} {e : StateValue Inner Chan} → Goes rules interval limit step s notes e → (e.clock < limit → IsFalse (is_over rules limit e)) → IsOnItsWay notes e

  -- one interval more
  pub goes_further : (notes added : List Interval) (k : ℕ) (m e : StateValue Inner Chan) → IsOnItsWay notes m → m.clock < limit → k ≡ span interval limit m → step notes k m added e → Goes rules interval limit step s (notes ++ added) e
  goes_further notes added k m e begins low span_is is = first low (subst (λ n. step [] n s added e) span_is is)
  goes_further notes added k m e (goes_on goes on) low span_is is = next goes (on low) (subst (λ n. step notes n m added e) span_is is)

  pub still_on : (notes : List Interval) (e : StateValue Inner Chan) → Goes rules interval limit step s notes e → IsFalse (all_ended rules e) → IsOnItsWay notes e
  still_on notes e goes off = goes_on goes (λ low. ap (λ b. b || all_ended rules e) (other_number e.clock limit low) ∙ off)

  pub ends_ended : (notes : List Interval) (e : StateValue Inner Chan) → Goes rules interval limit step s notes e → IsTrue (all_ended rules e) → Ends rules interval limit step s notes e
  ends_ended notes e goes on = later goes (either (e.clock == limit) (all_ended rules e) on)

  pub ends_limit : (notes : List Interval) (e : StateValue Inner Chan) → IsOnItsWay notes e → e.clock ≡ limit → Ends rules interval limit step s notes e
  ends_limit notes e begins at = at_once at
  ends_limit notes e (goes_on goes on) at = later goes (ap (λ b. b || all_ended rules e) (same_number e.clock limit at))
