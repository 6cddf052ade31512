use Rattle.std.proofs.Common.{◌≡◌, length}
use Rattle.timed_core.specs.Code.{AreDecoded}
use Rattle.timed_core.proofs.code.decoded.decoded.Given as goal

abbrev pub invariant-loop-n : goal.invariant-loop-n
invariant-loop-n l = record {
  count : length l.kept.items ≡ l.n;
  instrs : AreDecoded l.bytes l.kept.items;
}
