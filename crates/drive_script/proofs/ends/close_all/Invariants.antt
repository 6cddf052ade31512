use Rattle.std.proofs.Common.{◌≡◌, ◌++◌, map, take, drop}
use Rattle.drive_script.proofs.ends.close_all.Given as goal

-- the channels so far are closed
abbrev pub invariant-loop-chan : goal.invariant-loop-chan
invariant-loop-chan g l =
    let before = map g.T.Target.values.chan l.fn.chans.items in
    map g.T.Target.values.chan l.chan-items ≡ map (g.T.Target.rules l.target).close (take l.chan-index before) ++ drop l.chan-index before
