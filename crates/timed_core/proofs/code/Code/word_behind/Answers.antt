use Rattle.std.proofs.Common.{◌≡◌, ◌∙◌, drop, sym, ap, arith, rules}
use Rattle.std.proofs.lemmas.Grind.{common_steps}
use Rattle.byteorder.specs.Endian.{little_number}
use Rattle.timed_core.specs.Code.{CodeValue}
use Rattle.timed_core.proofs.Reaching.{word_padded, word_past}
use Rattle.timed_core.proofs.code.Code.word_behind.Goals as goal

pub returns-then-offset-len : goal.returns-then-offset-len
returns-then-offset-len c =
    sym (word_past c.self.inside.bytes.items c.self.inside.memory c.args.offset (search rules))
    ∙ ap (λ (code : CodeValue). little_number 4 (drop c.args.offset code.bytes)) c.self.view_is

pub returns : goal.returns
returns c =
    let word : c.read_u32.result ≡ little_number 4 (drop c.args.offset c.self.inside.bytes.items) = grind (arith, common_steps) in
    word ∙ sym (word_padded c.self.inside.bytes.items c.self.inside.memory c.args.offset)
    ∙ ap (λ (code : CodeValue). little_number 4 (drop c.args.offset code.bytes)) c.self.view_is
