-- What the instruction at pc says of the tick that fetches it.
use Rattle.std.proofs.Common.{◌≡◌, ℕ, false, Option, Some, None, sym, ap}
use Rattle.std.specs.Prelude.{option_and_then}
use Rattle.std.specs.Option.{is_none}
use Rattle.std.proofs.lemmas.Bool.{true≢false}
use Rattle.std.proofs.lemmas.Option.{none-some}
use Rattle.slack_base.specs.declared.stamps.Id.{Id}
use Rattle.slack_base.specs.declared.instructions.Instr.{Instr}
use Rattle.rv_decode.specs.Decoding.{instr_of}
use Rattle.timed_core.specs.Code.{CodeValue, word_at, instr_at}
use Rattle.timed_core.specs.Cores.{HartValue}
use Rattle.timed_core.specs.Outcomes.{executed}
use Rattle.timed_core.specs.Ticks.{fetched, decoded}

at_word : (code : CodeValue) (id : Id) (core : HartValue) (word : Option ℕ) (instr : Option Instr)
    → instr ≡ option_and_then instr_of word → is_none instr ≡ false → executed code instr id core ≡ fetched code word id core
unfolding fetched decoded executed
at_word code id core word None h some = absurd (true≢false some)
at_word code id core None (Some instr) h some = absurd (none-some instr (sym h))
at_word code id core (Some bits) (Some instr) h some = ap (λ o. decoded code o bits id core) h

-- an instruction at pc is executed
pub executed_of : (code : CodeValue) (id : Id) (core : HartValue) (instr : Option Instr)
    → instr ≡ instr_at code core.pc → is_none instr ≡ false → executed code instr id core ≡ fetched code (word_at code core.pc) id core
executed_of code id core instr = at_word code id core (word_at code core.pc) instr
