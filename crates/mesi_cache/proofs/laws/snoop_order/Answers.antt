use Rattle.mesi_cache.proofs.Order.{snoop_keeps_others, snoop_takes, snoop_keeps_numbers}
use Rattle.mesi_cache.proofs.laws.snoop_order.Goals as goal

pub returns : goal.returns
returns c = record { others = snoop_keeps_others; taken = snoop_takes; read = snoop_keeps_numbers }
