use Rattle.std.proofs.Common.{◌≡◌, ◌++◌, take}
use Rattle.settle.proofs.gathers.queue_all.Given as goal

-- the items so far wait behind the others
abbrev pub invariant-loop-item : goal.invariant-loop-item
invariant-loop-item g l = l.queue.items ≡ l.fn.queue.items ++ take l.item-index l.items
