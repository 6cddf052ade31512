use Rattle.std.proofs.Common.{◌≡◌, ◌++◌, take}
use Rattle.drive_script.proofs.lanes.queue_all.Given as goal

-- the asks so far wait behind the others
abbrev pub invariant-loop-ask : goal.invariant-loop-ask
invariant-loop-ask l = l.queue.items ≡ l.fn.queue.items ++ take l.ask-index l.asks
