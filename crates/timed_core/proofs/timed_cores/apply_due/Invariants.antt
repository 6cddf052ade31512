use Rattle.std.proofs.Common.{◌≡◌, ◌+◌, ◌≤◌, length}
use Rattle.timed_core.proofs.Due.{due_by, through_due, later_than}
use Rattle.timed_core.proofs.timed_cores.apply_due.Given as goal

abbrev pub invariant-loop-post : goal.invariant-loop-post
invariant-loop-post l = record {
  sent : l.before ≤ length l.out;
  posts : through_due l.base l.cycle l.before l.hart.value l.inbox l.out ≡ through_due l.base l.cycle l.before l.initial.hart.value l.initial.inbox l.initial.out;
  saved : l.hart.saved ≡ l.initial.hart.saved;
  noted : length l.hart.noted + length (due_by l.cycle l.inbox) ≤ length l.initial.hart.noted + length (due_by l.cycle l.initial.inbox);
  later : later_than l.cycle l.inbox ≡ later_than l.cycle l.initial.inbox;
}

abbrev pub decreases-loop-post : goal.decreases-loop-post
decreases-loop-post l = length l.inbox
