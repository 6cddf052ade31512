use Rattle.std.proofs.Common.{List, ℕ, map, refl}
use Rattle.std.specs.Fmt.{digits}
use Rattle.rv_asm.specs.declared.registers.TheConstants.{REGISTERS}
use Rattle.rv_asm.specs.Registers.{registers}
use Rattle.rv_asm.proofs.SameTables.{same_entries}
use Rattle.rv_asm.proofs.registers.registers.Goals as goal

pub returns-clause-rows : goal.returns-clause-rows
unfolding registers digits
returns-clause-rows c = same_entries (map {B = List ℕ × ℕ} (λ row. (row.0.now, row.1)) REGISTERS) registers refl refl
