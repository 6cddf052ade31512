use Rattle.std.proofs.Common.{◌≡◌, ◌∙◌, ◌++◌, false, codes, string_bytes, ap, rules}
use Rattle.serde_json.specs.View.{view}
use Rattle.serde_json.specs.Written.{compact_text, has_float}
use Rattle.stat_report.specs.Json.{json_of, json_text}
use Rattle.stat_report.proofs.NoFloats.{report_whole}
use Rattle.lockstep_model.specs.Views.{machine_of}
use Rattle.stat_report.proofs.json_reports.report_json.Goals as goal

pub returns : goal.returns
unfolding json_text
returns c =
    let value : view c.in_ok-machine_value.field-0 ≡ json_of (machine_of c.args.machine.now) = c.in_ok-machine_value.ensures in
    let whole : has_float (view c.in_ok-machine_value.field-0) ≡ false = ap has_float value ∙ report_whole (machine_of c.args.machine.now) in
    let written : string_bytes c.in_ok-report.report ≡ compact_text (view c.in_ok-machine_value.field-0) = c.in_ok-report.ensures.text whole in
    let text : string_bytes c.in_ok-report.report ≡ compact_text (json_of (machine_of c.args.machine.now)) = written ∙ ap compact_text value in
    let pushed : c.into_list.result ≡ string_bytes c.in_ok-report.report ++ codes "\n" = search rules in
    pushed ∙ ap (λ xs. xs ++ codes "\n") text
