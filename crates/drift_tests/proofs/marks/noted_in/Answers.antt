use Rattle.std.proofs.Common.{◌≡◌, ◌∙◌, ℕ, List, Option, Some, None, IsSome, map, slice_get, refl, sym, ap, subst}
use Rattle.std.specs.Option.{option_map}
use Rattle.std.proofs.lemmas.Option.{none-some, same_Some, slice_get-map}
use Rattle.slack_base.specs.Inboxes.{CoreValue}
use Rattle.slack_base.specs.Marks.{Marked}
use Rattle.bus_model.specs.Channels.{ChannelValue}
use Rattle.timed_core.specs.Cores.{HartValue}
use Rattle.timed_core.specs.Views.{MarkedCore}
use Rattle.drift_tests.proofs.marks.noted_in.Goals as goal

module _ {M X : Type 0} (saved_in : M → Option X) where
  of_some : (saved : Option X) (found : Option X) → Some saved ≡ option_map Some found → IsSome saved
  of_some saved None is = absurd (none-some saved (sym is))
  of_some saved (Some v) is =
      let some : IsSome (Some v) = refl in
      subst (λ (o : Option X). IsSome o) (sym (same_Some saved (Some v) is)) some

  -- where each one is marked, the one at a place is
  at : (xs : List M) (ys : List X) (n : ℕ) (x : M) → map saved_in xs ≡ map Some ys → Some x ≡ slice_get xs n → IsSome (saved_in x)
  at xs ys n x all found =
      of_some (saved_in x) (slice_get ys n)
      (ap (option_map saved_in) found ∙ sym (slice_get-map saved_in xs n) ∙ ap (λ (l : List (Option X)). slice_get l n) all ∙ slice_get-map Some ys n)

pub noted-requires : goal.noted-requires
noted-requires c =
    at {M = MarkedCore} {X = CoreValue HartValue} (λ m. m.saved) c.args.machine.now.cores c.requires.0.cores 0 c.in_ok-core.core.now c.requires.1.cores c.in_ok-core.ensures

pub noted-requires-2 : goal.noted-requires-2
noted-requires-2 c =
    at {M = Marked ChannelValue} {X = ChannelValue} (λ m. m.saved) c.args.machine.now.chans c.requires.0.chans 0 c.in_ok-bus.bus.now c.requires.1.chans c.in_ok-bus.ensures
