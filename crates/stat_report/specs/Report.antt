-- The report of a machine.
use Rattle.std.specs.Prelude.{ℕ, ◌+◌, Bool, List, [], ◌++◌, codes, length, max, not, if◌then◌else◌}
use Rattle.std.specs.List.{flat_map, fold, list_all}
use Rattle.slack_base.specs.declared.cores.CoreEnd.{CoreEnd}
use Rattle.slack_base.specs.declared.cores.CoreEnd.TheVariants.{Running, Exit, Trapped}
use Rattle.bus_model.specs.Channels.{ChannelValue, AsBus, AsConsole, bytes_of}
use Rattle.slack_base.specs.Inboxes.{CoreValue}
use Rattle.timed_core.specs.Cores.{HartValue, is_running}
use Rattle.target_law.specs.Cycles.{StateValue}
use Rattle.plain_text.specs.Pieces.{field}
use Rattle.stat_report.specs.Lines.{core_line}

-- the cycle at which a core ended: 0 where it is running
abbrev pub end_of : CoreEnd → ℕ
end_of Running = 0
end_of (Exit at code) = at
end_of (Trapped at trap) = at

-- the greatest of the cycles at which cores ended
abbrev pub last_end : List (CoreValue HartValue) → ℕ
last_end cores = fold (λ last core. max last (end_of core.inner.ended)) 0 cores

-- all cores have ended
abbrev pub all_cores_ended : List (CoreValue HartValue) → Bool
all_cores_ended cores = list_all (λ core. not (is_running core.inner.ended)) cores

-- the cycles that a run took: up to the last end, or so far
unfoldable pub cycles_of : ℕ → List (CoreValue HartValue) → ℕ
cycles_of clock cores = if all_cores_ended cores then last_end cores + 1 else clock

unfoldable pub cores_text : ℕ → List (CoreValue HartValue) → List ℕ
cores_text clock cores = flat_map (λ core. core_line clock core.inner.number core.inner.ended core.inner.counts) cores

-- the line of a bus
unfoldable pub bus_line : ChannelValue → List ℕ
bus_line (AsBus b) =
    field (codes "bus ") b.setting.number ++ field (codes " asks ") b.asks ++ field (codes " retries ") b.retries
    ++ field (codes " free ") b.free ++ codes "\n"
bus_line (AsConsole c) = []

unfoldable pub buses_text : List ChannelValue → List ℕ
buses_text chans = flat_map bus_line chans

-- the bytes of the console
unfoldable pub console_of : List ChannelValue → List ℕ
console_of chans = flat_map bytes_of chans

unfoldable pub console_text : List ℕ → List ℕ
console_text bytes = field (codes "console ") (length bytes) ++ codes "\n" ++ bytes ++ codes "\n"

-- the report of a machine
unfoldable pub report_of : StateValue HartValue ChannelValue → List ℕ
report_of m =
    field (codes "cores ") (length m.cores) ++ codes "\n" ++ field (codes "cycles ") (cycles_of m.clock m.cores) ++ codes "\n"
    ++ cores_text m.clock m.cores ++ buses_text m.chans ++ console_text (console_of m.chans)
