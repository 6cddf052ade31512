-- The lines of the report.
use Rattle.std.specs.Prelude.{ℕ, List, ◌++◌, codes}
use Rattle.slack_base.specs.declared.cores.Counts.{Counts}
use Rattle.slack_base.specs.declared.cores.CoreEnd.{CoreEnd}
use Rattle.slack_base.specs.declared.cores.CoreEnd.TheVariants.{Running, Exit, Trapped}
use Rattle.slack_base.specs.declared.cores.Trap.{Trap}
use Rattle.slack_base.specs.declared.cores.Trap.TheVariants.{Illegal, Fetch, Target, Misaligned, Outside, Break, Call}
use Rattle.plain_text.specs.Pieces.{field, hex_word}

abbrev pub trap_name : Trap → List ℕ
trap_name (Illegal bits) = codes "illegal"
trap_name (Fetch pc) = codes "fetch"
trap_name (Target target) = codes "target"
trap_name (Misaligned address) = codes "misaligned"
trap_name (Outside address) = codes "outside"
trap_name (Break pc) = codes "break"
trap_name (Call number) = codes "call"

abbrev pub trap_value : Trap → ℕ
trap_value (Illegal bits) = bits
trap_value (Fetch pc) = pc
trap_value (Target target) = target
trap_value (Misaligned address) = address
trap_value (Outside address) = address
trap_value (Break pc) = pc
trap_value (Call number) = number

-- how a core ended
unfoldable pub end_text : CoreEnd → List ℕ
end_text Running = codes "running"
end_text (Exit at code) = field (codes "exit ") code
end_text (Trapped at trap) = codes "trap " ++ trap_name trap ++ codes " " ++ hex_word (trap_value trap)

-- the cycle at which it ended, or the machine's clock
abbrev pub end_cycle : ℕ → CoreEnd → ℕ
end_cycle clock Running = clock
end_cycle clock (Exit at code) = at
end_cycle clock (Trapped at trap) = at

unfoldable pub counts_text : Counts → List ℕ
counts_text counts =
    field (codes " retired ") counts.retired ++ field (codes " accesses ") counts.accesses
    ++ field (codes " misses ") counts.misses ++ field (codes " retries ") counts.retries
    ++ field (codes " waits ") counts.waits ++ field (codes " snoops ") counts.snoops
    ++ field (codes " writebacks ") counts.writebacks

-- the line of a core
abbrev pub core_line : (clock number : ℕ) → CoreEnd → Counts → List ℕ
core_line clock number ended counts =
    field (codes "core ") number ++ codes " " ++ end_text ended ++ field (codes " at ") (end_cycle clock ended)
    ++ counts_text counts ++ codes "\n"
