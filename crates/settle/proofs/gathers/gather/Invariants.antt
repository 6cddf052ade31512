use Rattle.std.proofs.Common.{◌≡◌, ◌≤◌, length, drop}
use Rattle.settle.proofs.Gathering.{AreGatheredSoFar}
use Rattle.settle.proofs.gathers.gather.Given as goal

-- the lanes so far are those of the first cores, and the other desks and parts are left
abbrev pub invariant-loop-desk : goal.invariant-loop-desk
invariant-loop-desk g l = record {
  desks : l.desk-iterator.a.rest.items ≡ drop (length l.lanes.items) l.fn.desks.items;
  parts : l.desk-iterator.b.rest.items ≡ drop (length l.lanes.items) l.fn.parts.items;
  few : length l.lanes.items ≤ length l.fn.parts.items;
  at : AreGatheredSoFar l.fn.desks.items l.fn.parts.items l.lanes.items;
}
