use Rattle.std.proofs.Common.{rules}
use Rattle.core_gate.proofs.Allowed.{splits}
use Rattle.core_gate.proofs.pacers.Pacer.seated.Goals as goal

pub split_seat-core-requires : goal.split_seat-core-requires
split_seat-core-requires c = (search rules, search rules, splits c.deref.result.now.shared.key c.args.seat.now.id c.args.seat.now.me.0 (search rules) (search rules))
