use Rattle.std.proofs.Common.{◌≡◌, ◌++◌, take}
use Rattle.std.specs.List.{flat_map}
use Rattle.lockstep_model.specs.Views.{cores_of}
use Rattle.stat_report.specs.Lines.{core_line}
use Rattle.stat_report.proofs.reports.push_cores.Given as goal

-- the lines so far are appended
abbrev pub invariant-loop-core : goal.invariant-loop-core
invariant-loop-core l = l.text ≡ l.fn.text ++ flat_map (λ core. core_line l.clock core.inner.number core.inner.ended core.inner.counts) (cores_of (take l.core-index l.cores))
