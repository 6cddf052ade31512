use Rattle.std.proofs.Common.{rules}
use Rattle.core_gate.proofs.Allowed.{raises}
use Rattle.core_gate.proofs.overseers.Overseer.raise.Goals as goal

pub store-requires : goal.store-requires
store-requires c =
    let it = c.args.self.now in (
      search rules,
      search rules,
      raises c.deref.result.now.shared.key _ it.seat.id it.seat.me c.least_of-least.result (search rules) (search rules) (search rules),
    )
