use Rattle.std.proofs.Common.{◌≡◌, ◌++◌, List}
use Rattle.slack_base.specs.declared.messages.Ask.{Ask}
use Rattle.manager.specs.Leads.{Led}
use Rattle.manager.specs.Queues.{queues_of}
use Rattle.manager.proofs.Queues.{LeadsFrom, waiting}
use Rattle.manager.proofs.managers.Manager.serve_all.Given as goal

-- what serving leads to from here, it leads to from the first with the asks that were served so far
abbrev pub invariant-loop-place : goal.invariant-loop-place
invariant-loop-place g l =
    let rules = g.T.Target.rules l.target in
    record {
      led : Led rules (g.T.Target.owns l.target) g.T.Target.values l.fn.self l.self;
      order : (asks : List Ask) × (l.self.served ≡ l.fn.self.served ++ asks) × LeadsFrom rules (queues_of l.fn.self.desks.items) asks (queues_of l.self.desks.items);
      overseer : l.self.overseer ≡ l.fn.self.overseer;
    }

abbrev pub decreases-loop-place : goal.decreases-loop-place
decreases-loop-place g l = waiting (queues_of l.self.desks.items)
