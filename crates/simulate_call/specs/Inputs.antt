-- What a command reads, and which inputs it refuses.
use Rattle.std.specs.Prelude.{◌≡◌, ℕ, ◌+◌, ◌<◌, ◌≤◌, ◌^◌, List, [], length, Option, Some, None, Result, Ok, Err, IfSome}
use Rattle.io_edge.specs.Counting.{Rose}
use Rattle.slack_base.specs.declared.images.Image.{Image}
use Rattle.slack_base.specs.declared.faults.ImageFault.{ImageFault}
use Rattle.slack_base.specs.declared.faults.AsmFault.{AsmFault}
use Rattle.slack_base.specs.declared.configs.RawConfig.{RawConfig}
use Rattle.image_load.specs.Reading.{image_of}
use Rattle.rv_asm.specs.Instructions.{Code}
use Rattle.rv_asm.specs.Programs.{program_of}
use Rattle.sim_words.specs.OrderValues.{OrderValue}
use Rattle.sim_words.specs.declared.commands.Command.{Command}
use Rattle.sim_words.specs.declared.commands.Command.TheVariants as command
use Rattle.simulate_call.specs.declared.answers.Answer.{Answer}
use Rattle.simulate_call.specs.declared.answers.Answer.TheVariants.{ReadFault, TooLong, BadImage, BadText, OutOfMemory}

-- the most bytes that an input may have
abbrev pub most_bytes : ℕ
most_bytes = 16781312

-- the image that a file gives, for the memory of these numbers
abbrev pub image_told : RawConfig → List ℕ → Result Image ImageFault
image_told config bytes = image_of config.base config.memory bytes

-- these are all bytes that the source told, and it was read to its end; `gen` reads nothing
abbrev pub IsInput : Command → (left left_after : Option (List ℕ)) → List ℕ → Type 0
IsInput command.Gen left left_after bytes = left_after ≡ left
IsInput _ left left_after bytes = IfSome left (λ told. (bytes ≡ told) × (left_after ≡ Some []))

-- the source gives these bytes as a whole input: it tells them, they are not too many, fewer than 2^63 bytes were taken
-- from it before, and it doesn't fail
pub record Gives (left : Option (List ℕ)) (taken faults faults_after : ℕ) (bytes : List ℕ) : Type 0 where
  pub told : left ≡ Some bytes
  pub short : length bytes ≤ most_bytes
  pub counted : taken < 2 ^ 63
  pub unfailing : ¬ Rose faults faults_after

-- these bytes are the whole input of a command; `gen` reads nothing, and asks nothing of its source
abbrev pub GivesTo : Command → (left : Option (List ℕ)) → (taken faults faults_after : ℕ) → List ℕ → Type 0
GivesTo command.Gen left taken faults faults_after bytes = Unit {0}
GivesTo _ left taken faults faults_after bytes = Gives left taken faults faults_after bytes

abbrev pub image_refusal : Result Image ImageFault → Option Answer
image_refusal (Ok image) = None
image_refusal (Err fault) = Some (BadImage fault)

abbrev pub text_refusal : Result (List Code) AsmFault → Option Answer
text_refusal (Ok codes) = None
text_refusal (Err fault) = Some (BadText fault)

-- how an input is refused that has a fault: a file that gives no image, or a text that the assembler refuses
abbrev pub refusal_by : Command → RawConfig → List ℕ → Option Answer
refusal_by command.Run config bytes = image_refusal (image_told config bytes)
refusal_by command.Gen config bytes = None
refusal_by command.Asm config bytes = text_refusal (program_of bytes)
refusal_by command.List config bytes = image_refusal (image_told config bytes)
refusal_by command.Pack config bytes = image_refusal (image_told config bytes)

abbrev pub refusal_of : OrderValue → List ℕ → Option Answer
refusal_of order bytes = refusal_by order.command order.numbers bytes

-- the input was refused for a fault of its own
abbrev pub IsRefusal : Answer → Type 0
IsRefusal (BadImage fault) = Unit {0}
IsRefusal (BadText fault) = Unit {0}
IsRefusal _ = ⊥

-- the source gave no input
abbrev pub IsUnread : Answer → Type 0
IsUnread ReadFault = Unit {0}
IsUnread (TooLong taken) = taken ≡ most_bytes + 1
IsUnread OutOfMemory = Unit {0}
IsUnread _ = ⊥

-- one byte more than an input may have was taken
abbrev pub TookTooMany : (taken taken_after : ℕ) → Type 0
TookTooMany taken taken_after = taken_after ≡ taken + (most_bytes + 1)

-- the whole input was read, and its own fault is the answer
abbrev pub RefusesAll : OrderValue → (left left_after : Option (List ℕ)) → Answer → Type 0
RefusesAll order left left_after answer = IfSome left (λ told. (refusal_of order told ≡ Some answer) × (left_after ≡ Some []))
