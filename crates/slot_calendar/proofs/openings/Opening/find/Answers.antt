use Rattle.std.proofs.Common.{◌≡◌, ◌∙◌, ap, sym, max, take, filter, nat_lt}
use Rattle.slot_calendar.specs.Slots.{greatest_id, in_way, below, fit, end_of, last_end}
use Rattle.slot_calendar.specs.Entries.{slots_of}
use Rattle.slot_calendar.proofs.Orders.{in_order_take, in_order_drop, below_before, in_way_behind}
use Rattle.slot_calendar.proofs.Ends.{running_take, coming_drop}
use Rattle.slot_calendar.proofs.openings.Opening.find.Goals as goal

pub count_below-below-requires : goal.count_below-below-requires
count_below-below-requires c =
    rw (c.split_at.ensures.front) (in_order_take c.place_of-place.result c.args.entries.now c.requires.order)

pub last_end-requires : goal.last_end-requires
last_end-requires c =
    rw (c.split_at.ensures.front) (running_take 0 c.count_below-below.result (take c.place_of-place.result c.args.entries.now) (running_take 0 c.place_of-place.result c.args.entries.now c.requires.running))

pub last_before-clash-requires-clause-order : goal.last_before-clash-requires-clause-order
last_before-clash-requires-clause-order c = rw (c.split_at.ensures.back) (in_order_drop c.place_of-place.result c.args.entries.now c.requires.order)

-- the slots below are those before the count
below_is : (c : goal.After-last_before-clash) → slots_of (take c.count_below-below.result c.split_at.result.0.now) ≡ below c.args.id (slots_of c.args.entries.now)
below_is c =
    sym c.count_below-below.ensures.below
    ∙ ap (λ entries. below c.args.id (slots_of entries)) c.split_at.ensures.front
    ∙ sym (below_before c.args.id c.place_of-place.result c.args.entries.now c.place_of-place.ensures)

-- when the ask would get the bus
fit_is : (c : goal.After-last_before-clash) → c.max-fit.result ≡ fit c.args.occupancy c.args.free c.args.stamp c.args.id (slots_of c.args.entries.now)
fit_is c =
    c.max-fit.ensures
    ∙ ap (max c.args.stamp) (c.last_end.ensures ∙ ap (last_end c.args.occupancy c.args.free) (below_is c))

pub returns-clause-fit : goal.returns-clause-fit
returns-clause-fit c = fit_is c

pub returns-clause-clash : goal.returns-clause-clash
returns-clause-clash c =
    c.last_before-clash.ensures
    ∙ ap (λ entries. greatest_id (filter (λ s. nat_lt s.grant c.end_of.result) (slots_of entries))) c.split_at.ensures.back
    ∙ ap greatest_id (sym (in_way_behind c.args.id c.place_of-place.result c.args.entries.now c.place_of-place.ensures c.end_of.result))
    ∙ ap (λ limit. greatest_id (in_way limit c.args.id (slots_of c.args.entries.now))) (c.end_of.ensures ∙ ap (end_of c.args.occupancy) (fit_is c))

pub last_before-clash-requires-clause-coming : goal.last_before-clash-requires-clause-coming
last_before-clash-requires-clause-coming c = rw (c.split_at.ensures.back) (coming_drop c.place_of-place.result c.args.entries.now c.requires.coming)
