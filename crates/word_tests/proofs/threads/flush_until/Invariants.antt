use Rattle.std.proofs.Common.{◌≡◌}
use Rattle.stamp_queue.specs.Rings.{all_sent, SameSender}
use Rattle.word_tests.proofs.threads.flush_until.Given as goal

abbrev pub invariant-loop : goal.invariant-loop
invariant-loop l = (all_sent l.sender ≡ all_sent l.fn.sender) × SameSender l.fn.sender l.sender
