use Rattle.std.proofs.Common.{◌≡◌, filter, map, take}
use Rattle.slack_base.specs.declared.messages.PostKind.TheVariants.{Invalidate}
use Rattle.status_map.specs.Cores.{all_cores, is_other}
use Rattle.status_map.specs.Table.{send, post_of}
use Rattle.status_map.proofs.entries.Granted.invalidate.Given as goal

-- the cores before this one were looked at
abbrev pub invariant-loop-core : goal.invariant-loop-core
invariant-loop-core l =
    l.out ≡ map (λ k. post_of l.self.id l.self.line l.self.grant (send k l.delay Invalidate))
    (filter (is_other l.cores l.self.id.core) (take l.core all_cores))
