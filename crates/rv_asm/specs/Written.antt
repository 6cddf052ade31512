-- The instructions whose texts say all of them.
use Rattle.std.specs.Prelude.{◌≡◌}
use Rattle.slack_base.specs.declared.instructions.Instr.{Instr}
use Rattle.slack_base.specs.declared.instructions.Instr.TheVariants.{Lui, Auipc, Jal, Jalr, Branch, Load, Store, Imm, Shift, Reg, Lr, Sc, Amo, Fence, Ecall, Ebreak}

-- the text of a FENCE doesn't say what it orders: of these it is the one that orders all before all after
abbrev pub SaysAll : Instr → Type 0
SaysAll (Fence word) = word ≡ 0x0FF0000F
SaysAll (Lui rd upper) = Unit {0}
SaysAll (Auipc rd upper) = Unit {0}
SaysAll (Jal rd offset) = Unit {0}
SaysAll (Jalr rd rs1 offset) = Unit {0}
SaysAll (Branch op rs1 rs2 offset) = Unit {0}
SaysAll (Load op rd rs1 offset) = Unit {0}
SaysAll (Store op rs1 rs2 offset) = Unit {0}
SaysAll (Imm op rd rs1 value) = Unit {0}
SaysAll (Shift op rd rs1 amount) = Unit {0}
SaysAll (Reg op rd rs1 rs2) = Unit {0}
SaysAll (Lr rd rs1 aq rl) = Unit {0}
SaysAll (Sc rd rs1 rs2 aq rl) = Unit {0}
SaysAll (Amo op rd rs1 rs2 aq rl) = Unit {0}
SaysAll Ecall = Unit {0}
SaysAll Ebreak = Unit {0}
