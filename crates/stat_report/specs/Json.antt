-- The report of a machine in JSON.
use Rattle.std.specs.Prelude.{ℕ, ◌/◌, ◌%◌, Bool, List, [], ◌∷◌, ◌++◌, codes, filter, flat_map, is_some, map}
use Rattle.serde_json.specs.Data.{Data, number, unsigned, string, array, object, member, no_members}
use Rattle.serde_json.specs.View.{items_of}
use Rattle.serde_json.specs.Written.{compact_text}
use Rattle.slack_base.specs.declared.cores.Counts.{Counts}
use Rattle.slack_base.specs.declared.cores.CoreEnd.{CoreEnd}
use Rattle.slack_base.specs.declared.cores.CoreEnd.TheVariants.{Running, Exit, Trapped}
use Rattle.bus_model.specs.Channels.{ChannelValue, asks_of, free_of, number_of, retries_of}
use Rattle.slack_base.specs.Inboxes.{CoreValue}
use Rattle.timed_core.specs.Cores.{HartValue}
use Rattle.target_law.specs.Cycles.{StateValue}
use Rattle.plain_text.specs.Pieces.{hex_digit}
use Rattle.stat_report.specs.Lines.{end_cycle, trap_name, trap_value}
use Rattle.stat_report.specs.Report.{console_of, cycles_of}

-- a number without a sign
abbrev pub count : ℕ → Data
count n = number (unsigned n)

-- how a core ended: `exit`, the name of its trap, or `running`
abbrev pub end_name : CoreEnd → List ℕ
end_name Running = codes "running"
end_name (Exit at code) = codes "exit"
end_name (Trapped at trap) = trap_name trap

-- the code of the exit, the value of the trap, or 0
abbrev pub end_value : CoreEnd → ℕ
end_value Running = 0
end_value (Exit at code) = code
end_value (Trapped at trap) = trap_value trap

-- a core, at the machine's clock
unfoldable pub core_object : ℕ → CoreEnd → Counts → Data
core_object clock ended counts =
    object (member (codes "accesses") (count counts.accesses) (member (codes "at") (count (end_cycle clock ended))
    (member (codes "end") (string (end_name ended)) (member (codes "misses") (count counts.misses)
    (member (codes "retired") (count counts.retired) (member (codes "retries") (count counts.retries)
    (member (codes "snoops") (count counts.snoops) (member (codes "value") (count (end_value ended))
    (member (codes "waits") (count counts.waits) (member (codes "writebacks") (count counts.writebacks) no_members))))))))))

abbrev pub core_data : ℕ → CoreValue HartValue → Data
core_data clock core = core_object clock core.inner.ended core.inner.counts

unfoldable pub cores_data : ℕ → List (CoreValue HartValue) → List Data
cores_data clock cores = map (core_data clock) cores

-- a bus
unfoldable pub bus_data : ChannelValue → Data
bus_data chan = object (member (codes "asks") (count (asks_of chan)) (member (codes "free") (count (free_of chan)) (member (codes "retries") (count (retries_of chan)) no_members)))

-- a bus has a number, and the console has none
abbrev pub has_number : ChannelValue → Bool
has_number chan = is_some (number_of chan)

unfoldable pub buses_data : List ChannelValue → List Data
buses_data chans = map bus_data (filter has_number chans)

-- the two digits of a byte, the higher first
abbrev pub hex_byte : ℕ → List ℕ
hex_byte byte = hex_digit (byte / 16) ∷ hex_digit (byte % 16) ∷ []

unfoldable pub hex_bytes : List ℕ → List ℕ
hex_bytes bytes = flat_map hex_byte bytes

-- the object of a report, the members in the order of their names
unfoldable pub report_object : (buses : List Data) (console : List ℕ) (cores : List Data) (cycles : ℕ) → Data
report_object buses console cores cycles =
    object (member (codes "buses") (array (items_of buses)) (member (codes "console") (string console)
    (member (codes "cores") (array (items_of cores)) (member (codes "cycles") (count cycles) no_members))))

-- the report of a machine
unfoldable pub json_of : StateValue HartValue ChannelValue → Data
json_of m = report_object (buses_data m.chans) (hex_bytes (console_of m.chans)) (cores_data m.clock m.cores) (cycles_of m.clock m.cores)

-- its text
unfoldable pub json_text : StateValue HartValue ChannelValue → List ℕ
json_text m = compact_text (json_of m) ++ codes "\n"
