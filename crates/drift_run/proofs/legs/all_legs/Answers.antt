use Rattle.std.proofs.Common.{rules}
use Rattle.drift_run.proofs.legs.all_legs.Goals as goal

pub join_mut-first-requires-after_bounds : goal.join_mut-first-requires-after_bounds
join_mut-first-requires-after_bounds g c κs within =
    let b = c.type_bounds in
    let sc = b.send-C in
    let sd = b.send-D in
    ((c.requires.manager, (record { owned = search (rules, sc.owned); leaving = search (rules, sc.leaving) }, record { owned = search (rules, sd.owned); leaving = search (rules, sd.leaving) }, search rules)), (c.requires.actors, (record { owned = search (rules, sc.owned); leaving = search (rules, sc.leaving) }, record { owned = search (rules, sd.owned); leaving = search (rules, sd.leaving) }, search rules, search rules, search rules)))
