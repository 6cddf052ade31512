-- The report has no number that is not whole.
use Rattle.std.proofs.Common.{◌≡◌, ℕ, Bool, false, ◌||◌, List, [], ◌∷◌, map, filter, refl, ap, ◌∙◌}
use Rattle.serde_json.specs.Data.{Data}
use Rattle.serde_json.specs.View.{items_of}
use Rattle.serde_json.specs.Written.{has_float, items_have_float}
use Rattle.bus_model.specs.Channels.{ChannelValue}
use Rattle.slack_base.specs.Inboxes.{CoreValue}
use Rattle.timed_core.specs.Cores.{HartValue}
use Rattle.target_law.specs.Cycles.{StateValue}
use Rattle.stat_report.specs.Json.{bus_data, buses_data, core_data, core_object, cores_data, has_number, json_of, report_object}

-- what is made of a list by a function that makes no float
module _ {X : Type 0} (f : X → Data) (whole : (x : X) → has_float (f x) ≡ false) where
  map_whole : (xs : List X) → items_have_float (items_of (map f xs)) ≡ false
  map_whole [] = refl
  map_whole (x ∷ xs) = ap (λ b. b || items_have_float (items_of (map f xs))) (whole x) ∙ map_whole xs

core_whole : (clock : ℕ) (core : CoreValue HartValue) → has_float (core_data clock core) ≡ false
unfolding core_object
core_whole clock core = refl

bus_whole : (chan : ChannelValue) → has_float (bus_data chan) ≡ false
unfolding bus_data
bus_whole chan = refl

cores_whole : (clock : ℕ) (cores : List (CoreValue HartValue)) → items_have_float (items_of (cores_data clock cores)) ≡ false
unfolding cores_data
cores_whole clock cores = map_whole (core_data clock) (core_whole clock) cores

buses_whole : (chans : List ChannelValue) → items_have_float (items_of (buses_data chans)) ≡ false
unfolding buses_data
buses_whole chans = map_whole bus_data bus_whole (filter has_number chans)

both_whole : (a b : Bool) → a ≡ false → b ≡ false → (a || (false || (b || (false || false)))) ≡ false
both_whole a b x y = ap (λ (c : Bool). c || (false || (b || (false || false)))) x ∙ ap (λ (c : Bool). c || (false || false)) y

pub report_whole : (m : StateValue HartValue ChannelValue) → has_float (json_of m) ≡ false
unfolding json_of report_object
report_whole m = both_whole (items_have_float (items_of (buses_data m.chans))) (items_have_float (items_of (cores_data m.clock m.cores))) (buses_whole m.chans) (cores_whole m.clock m.cores)
