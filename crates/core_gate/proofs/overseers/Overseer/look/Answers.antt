use Rattle.std.proofs.Common.{rules}
use Rattle.core_gate.proofs.Allowed.{looks}
use Rattle.core_gate.proofs.overseers.Overseer.look.Goals as goal

pub load-found-requires : goal.load-found-requires
load-found-requires c =
    let it = c.args.self.now in (search rules, search rules, looks c.deref.result.now.shared.key _ it.seat.id c.args.core it.seat.me (search rules) (search rules))
