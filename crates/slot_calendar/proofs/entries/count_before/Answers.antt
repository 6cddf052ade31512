use Rattle.std.proofs.Common.{◌≡◌, ℕ, ◌<◌, ◌≤◌, nat_lt, true, false, rules, arith}
use Rattle.std.specs.List.Sorted.{IsPartitionPoint}
use Rattle.std.proofs.lemmas.Bool.Decides.{nat_tests}
use Rattle.std.proofs.lemmas.List.Sorted.{IsPartitionPoint-from_clause}
use Rattle.slot_calendar.specs.declared.entries.Entry.{Entry}
use Rattle.slot_calendar.proofs.Lists.{each_weaker}
use Rattle.slot_calendar.proofs.Points.{each_front, each_back, parted_by, coming_climbs}
use Rattle.slot_calendar.proofs.entries.count_before.Goals as goal

point_of : (c : goal.After-partition_point) → IsPartitionPoint (λ (e : Entry). nat_lt e.earliest c.args.limit ≡ true) (λ e. nat_lt e.earliest c.args.limit ≡ false) c.args.entries.now c.partition_point.result
point_of c =
    IsPartitionPoint-from_clause (λ (e : Entry). nat_lt e.earliest c.args.limit) _ _ c.partition_point.ensures.partitioned
    (parted_by (λ e. e.earliest) c.args.limit c.args.entries.now (coming_climbs c.args.entries.now c.requires)) (λ a r q k. search rules)

soon_of : (m n : ℕ) → nat_lt m n ≡ true → m < n
soon_of m n h = grind (arith, nat_tests)

late_of : (m n : ℕ) → nat_lt m n ≡ false → n ≤ m
late_of m n h = grind (arith, nat_tests)

pub returns-clause-soon : goal.returns-clause-soon
returns-clause-soon c =
    each_weaker (λ e h. soon_of e.earliest c.args.limit h) _
    (each_front (λ (e : Entry). nat_lt e.earliest c.args.limit ≡ true) c.args.entries.now c.partition_point.result (point_of c).0 c.partition_point.ensures.bound)

pub returns-clause-late : goal.returns-clause-late
returns-clause-late c =
    each_weaker (λ e h. late_of e.earliest c.args.limit h) _
    (each_back (λ (e : Entry). nat_lt e.earliest c.args.limit ≡ false) c.args.entries.now c.partition_point.result (point_of c).1)
