use Rattle.std.proofs.Common.{◌≡◌, [], subst}
use Rattle.slack_base.specs.Inboxes.{ticks_by}
use Rattle.timed_core.specs.Ticks.{tick}
use Rattle.timed_core.proofs.Quieting.{quiet_ticks}
use Rattle.timed_core.proofs.timed_cores.TimedCore.quiet.Goals as goal

pub returns-clause-silent : goal.returns-clause-silent
returns-clause-silent c =
    let code = c.args.code.now in
    subst (λ core. (ticks_by (tick code) c.args.from c.rest.result core.value).1 ≡ []) c.self.view_is
    (quiet_ticks code c.args.from c.next_due-due.result c.saturating_sub.result c.rest.result c.self.inside.hart.value c.self.inside.inbox
    c.rest.ensures.cache c.rest.ensures.registers c.next_due-due.ensures.before c.saturating_sub.ensures c.rest.ensures.count)
