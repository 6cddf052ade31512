-- The answers of a call, and what each says of the machine at its end.
use Rattle.std.specs.Prelude.{ℕ, ◌≡◌, ◌⊎◌, ◌==◌, Bool, true, false, List, Option, Some, None, count_by, if◌then◌else◌}
use Rattle.std.specs.List.{list_all}
use Rattle.slack_base.specs.declared.cores.CoreEnd.{CoreEnd}
use Rattle.slack_base.specs.declared.cores.CoreEnd.TheVariants.{Exit}
use Rattle.bus_model.specs.Channels.{ChannelValue}
use Rattle.target_law.specs.Cycles.{StateValue}
use Rattle.slack_base.specs.Inboxes.{CoreValue}
use Rattle.timed_core.specs.Cores.{HartValue, is_running}
use Rattle.simulate_call.specs.declared.answers.Answer.{Answer}
use Rattle.simulate_call.specs.declared.answers.Answer.TheVariants.{BadWords, ReadFault, TooLong, BadImage, BadText, WriteFault, Limit, Done, OutOfMemory}

-- the exit status
abbrev pub status_of : Answer → ℕ
status_of (Done true) = 0
status_of (Done false) = 1
status_of (BadWords fault) = 2
status_of (TooLong taken) = 3
status_of (BadImage fault) = 3
status_of (BadText fault) = 3
status_of (Limit cycle running) = 4
status_of ReadFault = 5
status_of WriteFault = 6
status_of OutOfMemory = 7

-- the core exited with 0
abbrev pub is_zero_exit : CoreEnd → Bool
is_zero_exit (Exit at code) = code == 0
is_zero_exit _ = false

abbrev pub running_of : List (CoreValue HartValue) → ℕ
running_of cores = count_by (λ core. is_running core.inner.ended) cores

abbrev pub all_zero_of : List (CoreValue HartValue) → Bool
all_zero_of cores = list_all (λ core. is_zero_exit core.inner.ended) cores

-- what is answered of a machine whose whole text is written
abbrev pub answer_of : StateValue HartValue ChannelValue → Answer
answer_of m = if running_of m.cores == 0 then Done (all_zero_of m.cores) else Limit m.clock (running_of m.cores)

-- what is answered once the whole text is written, with this machine at the end or none
abbrev pub answer_at : Option (StateValue HartValue ChannelValue) → Answer
answer_at None = Done true
answer_at (Some m) = answer_of m

-- the whole text was written
abbrev pub IsWhole : Answer → Type 0
IsWhole (Done all_zero) = Unit {0}
IsWhole (Limit cycle running) = Unit {0}
IsWhole _ = ⊥

-- the text was written, whole or in part
abbrev pub HasOutput : Answer → Type 0
HasOutput (Done all_zero) = Unit {0}
HasOutput (Limit cycle running) = Unit {0}
HasOutput WriteFault = Unit {0}
HasOutput _ = ⊥

-- the answer is the refusal, or want of memory
abbrev pub IsRefusedBy : Option Answer → Answer → Type 0
IsRefusedBy refusal answer = (answer ≡ OutOfMemory) ⊎ (refusal ≡ Some answer)
