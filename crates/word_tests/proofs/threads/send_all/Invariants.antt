use Rattle.std.proofs.Common.{◌≡◌, ◌++◌, take}
use Rattle.stamp_queue.specs.Rings.{all_sent, SameSender}
use Rattle.word_tests.proofs.threads.send_all.Given as goal

abbrev pub invariant-loop-post : goal.invariant-loop-post
invariant-loop-post l = (all_sent l.sender ≡ all_sent l.fn.sender ++ take l.post-index l.posts) × SameSender l.fn.sender l.sender
