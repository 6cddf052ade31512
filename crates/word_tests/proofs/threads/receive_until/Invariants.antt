use Rattle.std.proofs.Common.{◌≤◌}
use Rattle.stamp_queue.specs.Rings.{SameReceiver, HandsOver}
use Rattle.word_tests.proofs.threads.receive_until.Given as goal

abbrev pub invariant-loop : goal.invariant-loop
invariant-loop l = HandsOver l.fn.receiver l.receiver l.fn.out l.out × SameReceiver l.fn.receiver l.receiver × (l.idle ≤ 100000)
