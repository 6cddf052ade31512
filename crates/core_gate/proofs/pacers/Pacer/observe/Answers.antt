use Rattle.std.proofs.Common.{rules}
use Rattle.core_gate.proofs.Allowed.{observes}
use Rattle.core_gate.proofs.pacers.Pacer.observe.Goals as goal

pub load-found-requires : goal.load-found-requires
load-found-requires c = let it = c.args.self.now in (search rules, search rules, observes c.deref.result.now.shared.key _ it.seat.id it.seat.me (search rules))
