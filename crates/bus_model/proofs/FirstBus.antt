-- A bus before the first cycle.
use Rattle.std.proofs.Common.{◌≡◌, ℕ, ◌+◌, ◌*◌, ◌/◌, ◌<◌, ◌≤◌, List, [], get_or, refl, ap, arith}
use Rattle.std.specs.List.{range_with_len}
use Rattle.std.proofs.Math.Nat.{mul-le-mul_left}
use Rattle.std.proofs.lemmas.List.FromFn.{length-map-range_with_len}
use Rattle.std.proofs.lemmas.List.Elements.{All-map}
use Rattle.slack_base.specs.declared.configs.RawConfig.{RawConfig}
use Rattle.slack_base.specs.declared.images.Image.{Image}
use Rattle.slack_base.specs.LittleEndian.{words_at}
use Rattle.first_memory.specs.Memory.{bytes_from, with_zeros}
use Rattle.status_map.specs.declared.views.EntryView.{EntryView}
use Rattle.status_map.specs.Entries.{NamesBelow}
use Rattle.slot_calendar.specs.declared.slots.Slot.{Slot}
use Rattle.bus_model.specs.Channels.{IsSoundBus}
use Rattle.slack_base.specs.Numbers.{lines_of}
use Rattle.bus_model.specs.Settings.{SettingValue, setting_of}
use Rattle.bus_model.specs.Starting.{idle, first_entry, first_entries, first_bus}
use Rattle.bus_model.proofs.Words.{words-at}

-- the line of a place is in memory
pub line-inside : (memory buses index place : ℕ) → index < buses → place < memory / 16 / buses → 16 * (index + buses * place) + 16 ≤ memory
line-inside memory buses index place low within =
    let h : place + 1 ≤ memory / 16 / buses = omega arith in
    let m = mul-le-mul_left buses h in
    omega (arith, m)

pub entry-is : (config : RawConfig) (image : Image) (bytes : List ℕ) (line : ℕ) → with_zeros bytes config.memory ≡ bytes_from image.segments config.base config.memory → 16 * line + 16 ≤ config.memory
    → idle (words_at (λ j. get_or bytes j 0) (16 * line)) ≡ first_entry config image line
unfolding first_entry
entry-is config image bytes line held within = ap idle (words-at image.segments config.base config.memory bytes held (16 * line) (config.base + 16 * line) within refl)

pub first-sound : (config : RawConfig) (image : Image) (number : ℕ) → number < config.buses → IsSoundBus (first_bus config image number)
unfolding first_bus first_entry
first-sound config image number low = record {
  number = low;
  count = length-map-range_with_len (λ place. first_entry config image (number + config.buses * place)) 0 (lines_of config / config.buses);
  free = omega arith;
  asks = omega arith;
  retries = omega arith;
  named = All-map (λ (e : EntryView). NamesBelow config.cores e.kind) (λ place. first_entry config image (number + config.buses * place)) (range_with_len 0 (lines_of config / config.buses)) (λ k d h. tt);
}

pub first-is : (config : RawConfig) (image : Image) (number : ℕ) (setting : SettingValue) (entries : List EntryView) (slots : List Slot)
    → setting ≡ setting_of config number → entries ≡ first_entries config image number → slots ≡ []
    → record { setting = setting; free = 0; asks = 0; retries = 0; entries = entries; slots = slots } ≡ first_bus config image number
unfolding first_bus
first-is config image number setting entries slots h_setting h_entries h_slots = rw (h_setting, h_entries, h_slots) refl
