-- The condition under which a branch is taken.
use Rattle.std.specs.Prelude.{ℕ, Bool, not, ◌==◌, nat_lt, nat_le, int_lt, int_le}
use Rattle.slack_base.specs.declared.instructions.BranchOp.{BranchOp}
use Rattle.slack_base.specs.declared.instructions.BranchOp.TheVariants.{Beq, Bne, Blt, Bge, Bltu, Bgeu}
use Rattle.rv_exec.specs.Words.{signed_of}

unfoldable pub is_taken : BranchOp → ℕ → ℕ → Bool
is_taken Beq a b = a == b
is_taken Bne a b = not (a == b)
is_taken Blt a b = int_lt (signed_of a) (signed_of b)
is_taken Bge a b = int_le (signed_of b) (signed_of a)
is_taken Bltu a b = nat_lt a b
is_taken Bgeu a b = nat_le b a
