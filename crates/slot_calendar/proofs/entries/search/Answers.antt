use Rattle.std.proofs.Common.{◌≡◌, not, Bool, true, false, rules, refl, sym}
use Rattle.std.proofs.lemmas.List.Sorted.{IsPartitionPoint-from_clause}
use Rattle.slack_base.specs.Stamps.{is_above}
use Rattle.slot_calendar.specs.declared.entries.Entry.{Entry}
use Rattle.slot_calendar.proofs.Lists.{each_weaker}
use Rattle.slot_calendar.proofs.Points.{each_front, each_back, parted_by_id}
use Rattle.slot_calendar.proofs.entries.search.Goals as goal

low_of : (b : Bool) → not b ≡ true → b ≡ false
low_of true h = sym h
low_of false h = refl

high_of : (b : Bool) → not b ≡ false → b ≡ true
high_of true h = refl
high_of false h = sym h

pub returns : goal.returns
returns c =
    let point = IsPartitionPoint-from_clause (λ (e : Entry). not (is_above e.slot.id c.args.id)) _ _ c.partition_point.ensures.partitioned (parted_by_id c.args.id c.args.entries.now c.requires) (λ a r q k. search rules) in
    record {
      within = c.partition_point.ensures.bound;
      low =
          each_weaker (λ e h. low_of (is_above e.slot.id c.args.id) h) _
          (each_front (λ (e : Entry). not (is_above e.slot.id c.args.id) ≡ true) c.args.entries.now c.partition_point.result point.0 c.partition_point.ensures.bound);
      high =
          each_weaker (λ e h. high_of (is_above e.slot.id c.args.id) h) _
          (each_back (λ (e : Entry). not (is_above e.slot.id c.args.id) ≡ false) c.args.entries.now c.partition_point.result point.1);
    }
