-- What an open world leaves is a proper state.
use Rattle.std.proofs.Common.{◌≡◌, ◌∙◌, ℕ, ◌+◌, List, [], ◌∷◌, map}
use Rattle.std.specs.List.{All}
use Rattle.std.proofs.lemmas.List.{length-map}
use Rattle.std.proofs.lemmas.List.Elements.{All-nil, All-cons}
use Rattle.target_law.specs.Laws.{Laws}
use Rattle.target_law.specs.Numbered.{AllNumbered}
use Rattle.target_law.specs.Proper.{IsCoreOf, IsChanOf, IsProper}
use Rattle.target_law.specs.Rules.{Rules, Owns}
use Rattle.drive_script.specs.Open.{IsLaneOf, IsOpen}
use Rattle.drive_script.specs.Scripts.{closed}
use Rattle.drive_script.specs.Worlds.{LaneValue, WorldValue}

module _ {Inner Chan : Type 0} (rules : Rules Inner Chan) (owns : Owns Inner Chan) (laws : Laws rules owns) where
  cores_are : (end n : ℕ) (lanes : List (LaneValue Inner)) → AllNumbered (IsLaneOf rules owns end) n lanes → AllNumbered (IsCoreOf rules owns) n (map (λ lane. lane.core) lanes)
  cores_are end n [] all = tt
  cores_are end n (lane ∷ lanes) all = (all.0.core, cores_are end (n + 1) lanes all.1)

  chans_are : (n : ℕ) (chans : List Chan) → AllNumbered (IsChanOf rules owns) n chans → AllNumbered (IsChanOf rules owns) n (map rules.close chans)
  chans_are n [] all = tt
  chans_are n (chan ∷ chans) all = (laws.closes n chan all.0, chans_are (n + 1) chans all.1)

  closed_are : (n : ℕ) (chans : List Chan) → AllNumbered (IsChanOf rules owns) n chans → All (λ chan. rules.close chan ≡ chan) (map rules.close chans)
  closed_are n [] all = All-nil (λ chan. rules.close chan ≡ chan)
  closed_are n (chan ∷ chans) all =
      All-cons (λ chan. rules.close chan ≡ chan) (rules.close chan) (map rules.close chans) (laws.closes_once n chan all.0) (closed_are (n + 1) chans all.1)

  pub closed_proper : (w : WorldValue Inner Chan) → IsOpen rules owns w → IsProper rules owns (closed rules w)
  closed_proper w is = record {
    clock = is.end;
    core_count = length-map w.lanes (λ lane. lane.core) ∙ is.count;
    cores = cores_are w.end 0 w.lanes is.lanes;
    chan_count = length-map w.chans rules.close ∙ is.chan_count;
    chans = chans_are 0 w.chans is.chans;
    closed = closed_are 0 w.chans is.chans;
  }
