use Rattle.std.proofs.Common.{◌≡◌, ◌≤◌, take}
use Rattle.slack_base.specs.declared.bounds.TheConstants.{TOP}
use Rattle.lockstep_model.specs.Views.{cores_of}
use Rattle.stat_report.specs.Report.{last_end}
use Rattle.stat_report.proofs.reports.last_end.Given as goal

-- the greatest end so far
abbrev pub invariant-loop-core : goal.invariant-loop-core
invariant-loop-core l = (l.last ≡ last_end (cores_of (take l.core-index l.cores))) × (l.last ≤ TOP)
