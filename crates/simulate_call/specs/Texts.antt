-- The text of a run.
use Rattle.std.specs.Prelude.{Bool, true, false, ℕ, List, [], ◌++◌, codes}
use Rattle.slack_base.specs.declared.configs.RawConfig.{RawConfig}
use Rattle.bus_model.specs.Channels.{ChannelValue}
use Rattle.timed_core.specs.Cores.{HartValue}
use Rattle.target_law.specs.Cycles.{StateValue}
use Rattle.sim_words.specs.OrderValues.{OrderValue}
use Rattle.sim_words.specs.declared.values.Format.{Format}
use Rattle.sim_words.specs.declared.values.Format.TheVariants.{Text, Json, Dump}
use Rattle.stat_report.specs.Dump.{dump_of}
use Rattle.stat_report.specs.Json.{json_text}
use Rattle.plain_text.specs.Pieces.{field}
use Rattle.coherence_law.specs.Breaks.{breaks_of}
use Rattle.coherence_law.specs.Texts.{text_of}
use Rattle.stat_report.specs.Notes.{notes_of}
use Rattle.stat_report.specs.Report.{report_of}
use Rattle.simulate_call.specs.RunValues.{RunValue}

-- the report in a format
abbrev pub report_in : Format → RawConfig → StateValue HartValue ChannelValue → List ℕ
report_in Text config m = report_of m
report_in Json config m = json_text m
report_in Dump config m = dump_of config.base m

-- the lines that are not coherent, where they are asked for
abbrev pub coherence_in : Bool → StateValue HartValue ChannelValue → List ℕ
coherence_in true m = text_of (breaks_of m)
coherence_in false m = []

-- the notes, where they are asked for
abbrev pub notes_in : Bool → RunValue → List ℕ
notes_in true run = notes_of run.notes run.drift_ticks run.replay_ticks
notes_in false run = []

-- the text of a run: its report, the lines that are not coherent, and the notes
unfoldable pub run_text : OrderValue → StateValue HartValue ChannelValue → RunValue → List ℕ
run_text order m run = report_in order.format order.numbers m ++ coherence_in order.check m ++ notes_in order.notes run

-- the first line of a generated run
unfoldable pub gen_line : ℕ → List ℕ
gen_line seed = field (codes "gen ") seed ++ codes " words 1005\n"
