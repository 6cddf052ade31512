-- The lines that posts and a step touch.
use Rattle.std.proofs.Common.{ℕ, ◌==◌, List, [], ◌∷◌, Option, None, Some, cond}
use Rattle.slack_base.specs.declared.instructions.Instr.{Instr}
use Rattle.slack_base.specs.declared.messages.Post.{Post}
use Rattle.slack_base.specs.declared.messages.PostKind.{PostKind}
use Rattle.slack_base.specs.declared.messages.PostKind.TheVariants.{Reply, Retry, SnoopShare, SnoopOwn, Invalidate}
use Rattle.rv_decode.specs.Decoding.{instr_of}
use Rattle.timed_core.specs.Accesses.{is_aligned}
use Rattle.timed_core.specs.Code.{CodeValue, is_in_memory, word_at}
use Rattle.timed_core.specs.Cores.{HartValue, is_running, line_number}
use Rattle.timed_core.specs.Effects.{effect_of}
use Rattle.timed_core.specs.Touches.{touch_line}
use Rattle.timed_core.specs.declared.effects.Effect.{Effect}
use Rattle.timed_core.specs.declared.effects.Effect.TheVariants.{Write, Jump, Branch, Pass, Memory, Stop, Call}

-- the touches, where the line, if there is one, is touched at clock t
abbrev pub touch_some : (t : ℕ) → List ℕ → Option ℕ → List ℕ
touch_some t touches None = touches
touch_some t touches (Some line) = touch_line t touches line

-- the line that a post touches: an Invalidate and a Retry touch none
abbrev pub posted : PostKind → ℕ → Option ℕ
posted (Reply exclusive words) line = Some line
posted Retry line = None
posted SnoopShare line = Some line
posted SnoopOwn line = Some line
posted Invalidate line = None

abbrev pub touch_posts : (t : ℕ) → List ℕ → List Post → List ℕ
touch_posts t touches [] = touches
touch_posts t touches (p ∷ due) = touch_posts t (touch_some t touches (posted p.kind p.line)) due

-- the line that an instruction accesses: a load, store, LR, SC or AMO that doesn't trap
abbrev pub line_of_effect : CodeValue → Effect → Option ℕ
line_of_effect code (Write rd value) = None
line_of_effect code (Jump rd target) = None
line_of_effect code (Branch target) = None
line_of_effect code Pass = None
line_of_effect code (Memory address access) = cond (is_aligned access address) (cond (is_in_memory code address) (Some (line_number code.base address)) None) None
line_of_effect code (Stop trap) = None
line_of_effect code Call = None

abbrev pub line_of_instr : CodeValue → Option Instr → List ℕ → ℕ → Option ℕ
line_of_instr code None registers pc = None
line_of_instr code (Some instr) registers pc = line_of_effect code (effect_of instr registers pc)

abbrev pub line_of_word : CodeValue → Option ℕ → List ℕ → ℕ → Option ℕ
line_of_word code None registers pc = None
line_of_word code (Some bits) registers pc = line_of_instr code (instr_of bits) registers pc

-- the line that the core accesses after its posts, if it executes an instruction and that accesses one
unfoldable pub line_of_step : CodeValue → HartValue → Option ℕ
line_of_step code core = cond (is_running core.ended) (cond (core.busy == 0) (cond core.waiting None (line_of_word code (word_at code core.pc) core.registers core.pc)) None) None
