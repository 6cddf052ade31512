use Rattle.rv_exec.proofs.Division.{signed-exact, signed-smaller, unsigned-exact, unsigned-smaller}
use Rattle.rv_exec.proofs.laws.division.Goals as goal

pub returns : goal.returns
returns c = record { signed = signed-exact; signed_smaller = signed-smaller; unsigned = unsigned-exact; unsigned_smaller = unsigned-smaller }
