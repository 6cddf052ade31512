-- A bus before the first cycle.
use Rattle.std.specs.Prelude.{ℕ, ◌+◌, ◌*◌, ◌/◌, List, [], map}
use Rattle.std.specs.List.{range_with_len}
use Rattle.slack_base.specs.declared.configs.RawConfig.{RawConfig}
use Rattle.slack_base.specs.declared.images.Image.{Image}
use Rattle.slack_base.specs.declared.messages.Words.{Words}
use Rattle.slack_base.specs.LittleEndian.{words_at}
use Rattle.first_memory.specs.Memory.{byte_at}
use Rattle.status_map.specs.declared.views.EntryKind.TheVariants.{Idle}
use Rattle.status_map.specs.declared.views.EntryView.{EntryView}
use Rattle.slack_base.specs.Numbers.{lines_of}
use Rattle.bus_model.specs.Settings.{setting_of}
use Rattle.bus_model.specs.Channels.{BusValue}

-- the entry of a line that no core holds
abbrev pub idle : Words → EntryView
idle words = record { kind = Idle; settled = 0; words = words }

-- the entry of a line: no core holds it, and memory has the image's bytes
unfoldable pub first_entry : RawConfig → Image → ℕ → EntryView
first_entry config image line = idle (words_at (byte_at image.segments) (config.base + 16 * line))

-- the bus of a number has the line of that number and each one that is so many buses further
abbrev pub first_entries : RawConfig → Image → ℕ → List EntryView
first_entries config image number =
    map (λ place. first_entry config image (number + config.buses * place)) (range_with_len 0 (lines_of config / config.buses))

-- the bus of a number: it is free, was asked nothing and is closed
unfoldable pub first_bus : RawConfig → Image → ℕ → BusValue
first_bus config image number = record {
  setting = setting_of config number;
  free = 0;
  asks = 0;
  retries = 0;
  entries = first_entries config image number;
  slots = [];
}
