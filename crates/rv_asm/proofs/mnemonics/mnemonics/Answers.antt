use Rattle.std.proofs.Common.{List, ℕ, map, refl}
use Rattle.rv_asm.specs.declared.mnemonics.TheConstants.{MNEMONICS}
use Rattle.rv_asm.specs.declared.operations.Operation.{Operation}
use Rattle.rv_asm.specs.Mnemonics.{mnemonics}
use Rattle.rv_asm.proofs.SameTables.{same_entries}
use Rattle.rv_asm.proofs.mnemonics.mnemonics.Goals as goal

pub returns-clause-rows : goal.returns-clause-rows
unfolding mnemonics
returns-clause-rows c = same_entries (map {B = List ℕ × Operation} (λ row. (row.0.now, row.1)) MNEMONICS) mnemonics refl refl
