use Rattle.std.proofs.Common.{rules, ◌+◌}
use Rattle.core_gate.proofs.Allowed.{advances}
use Rattle.core_gate.proofs.pacers.Pacer.advance.Goals as goal

pub store-requires : goal.store-requires
store-requires c =
    let it = c.args.self.now in (
      search rules,
      search rules,
      advances c.deref.result.now.shared.key _ it.seat.id it.seat.me (it.number + 1) (it.clock + 1) (search rules) (search rules) (search rules) (search rules),
    )
