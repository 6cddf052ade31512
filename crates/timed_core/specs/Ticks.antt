-- A tick of a core.
use Rattle.std.specs.Prelude.{ℕ, ◌+◌, ◌-◌, ◌%◌, ◌==◌, List, [], ◌∷◌, ◌++◌, Option, Some, None, length, slice_index, if◌then◌else◌}
use Rattle.slack_base.specs.declared.stamps.Id.{Id}
use Rattle.slack_base.specs.declared.messages.Ask.{Ask}
use Rattle.slack_base.specs.declared.messages.Ask.TheVariants.{Put}
use Rattle.slack_base.specs.declared.messages.Post.{Post}
use Rattle.slack_base.specs.declared.cores.CoreEnd.TheVariants.{Exit}
use Rattle.slack_base.specs.declared.cores.Trap.TheVariants.{Fetch, Illegal, Call as CallTrap}
use Rattle.slack_base.specs.declared.instructions.Instr.{Instr}
use Rattle.rv_decode.specs.Decoding.{instr_of}
use Rattle.slack_base.specs.Growing.{raised}
use Rattle.timed_core.specs.Accesses.{accessed}
use Rattle.timed_core.specs.Code.{CodeValue, word_at}
use Rattle.timed_core.specs.Cores.{HartValue, is_running, with_register, next_of, completed, gives, goes_on, trapped}
use Rattle.timed_core.specs.Effects.{effect_of, cost_of}
use Rattle.timed_core.specs.Posts.{applied}
use Rattle.timed_core.specs.declared.effects.Effect.{Effect}
use Rattle.timed_core.specs.declared.effects.Effect.TheVariants.{Write, Jump, Branch, Pass, Memory, Stop, Call}

-- ECALL: the service 1 puts the low byte of x10 on the console, 93 ends the core with the code x10, and no other
-- service is there
unfoldable pub called : ℕ → Id → HartValue → HartValue × Option Ask
called cost id core =
    let service = slice_index core.registers 17 in
    let argument = slice_index core.registers 10 in
    if service == 1 then (goes_on cost core, Some (Put id (argument % 256)))
    else (if service == 93 then (record (goes_on cost core) { ended = Exit id.cycle argument }, None)
    else (trapped core id.cycle (CallTrap service), None))

-- the core after an instruction of this effect and cost, and what it asks for with this id
unfoldable pub performed : CodeValue → Effect → (cost : ℕ) → Id → HartValue → HartValue × Option Ask
performed code (Write rd value) cost id core = (gives rd value cost core, None)
performed code (Jump rd target) cost id core = (completed core (with_register core.registers rd (next_of core.pc)) target cost, None)
performed code (Branch target) cost id core = (completed core core.registers target cost, None)
performed code Pass cost id core = (goes_on cost core, None)
performed code (Memory address access) cost id core = accessed code access address cost id core
performed code (Stop trap) cost id core = (trapped core id.cycle trap, None)
performed code Call cost id core = called cost id core

-- the instruction that a word stands for is executed, if it stands for one
unfoldable pub decoded : CodeValue → Option Instr → (bits : ℕ) → Id → HartValue → HartValue × Option Ask
decoded code None bits id core = (trapped core id.cycle (Illegal bits), None)
decoded code (Some instr) bits id core = performed code (effect_of instr core.registers core.pc) (cost_of instr) id core

-- the word at pc is executed, if pc is in memory
unfoldable pub fetched : CodeValue → Option ℕ → Id → HartValue → HartValue × Option Ask
fetched code None id core = (trapped core id.cycle (Fetch core.pc), None)
fetched code (Some bits) id core = decoded code (instr_of bits) bits id core

-- after its posts: nothing once the core has ended, one cycle less to go while it is busy, one cycle more of waiting
-- while it waits for a line, and else one instruction
unfoldable pub stepped : CodeValue → Id → HartValue → HartValue × Option Ask
stepped code id core =
    if is_running core.ended
    then (if core.busy == 0
    then (if core.waiting
    then (record core { counts = record core.counts { waits = raised core.counts.waits } }, None)
    else fetched code (word_at code core.pc) id core)
    else (record core { busy = core.busy - 1 }, None))
    else (core, None)

-- the ask, if there is one
abbrev pub asks_of : Option Ask → List Ask
asks_of None = []
asks_of (Some ask) = ask ∷ []

-- asks are numbered from 0 in the order in which a tick sends them
abbrev pub id_at : ℕ → HartValue → ℕ → Id
id_at t core number = record { cycle = t; core = core.number; number = number }

-- posts are applied one after another; so many asks were sent before
abbrev pub applied_all : (base t number : ℕ) → HartValue → List Post → HartValue × List Ask
applied_all base t number core [] = (core, [])
applied_all base t number core (p ∷ due) =
    let one = applied p.kind base p.line (id_at t core number) core in
    let rest = applied_all base t (number + length (asks_of one.1)) one.0 due in
    (rest.0, asks_of one.1 ++ rest.1)

-- a tick at clock t with the posts that are due in their order: the core after it, and the asks that it sends in
-- their order
unfoldable pub tick : CodeValue → HartValue → ℕ → List Post → HartValue × List Ask
tick code core t due =
    let posts = applied_all code.base t 0 core due in
    let step = stepped code (id_at t posts.0 (length posts.1)) posts.0 in
    (step.0, posts.1 ++ asks_of step.1)
