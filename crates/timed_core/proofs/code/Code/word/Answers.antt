use Rattle.std.proofs.Common.{◌≡◌, ◌-◌, ◌∙◌, Some, drop, refl, sym, ap, arith, rules}
use Rattle.byteorder.specs.Endian.{little_number}
use Rattle.timed_core.specs.Code.{CodeValue, word_at}
use Rattle.timed_core.proofs.Reaching.{word_outside, word_inside}
use Rattle.timed_core.proofs.code.Code.word.Goals as goal

pub returns-then-offset-self : goal.returns-then-offset-self
returns-then-offset-self c =
    let inside = c.self.inside in
    word_outside inside.base inside.memory inside.bytes.items inside.kept.items c.self.invariant c.args.address _ (search rules) (search rules) refl (search rules) (omega arith)
    ∙ ap (λ code. word_at code c.args.address) c.self.view_is

pub returns : goal.returns
returns c =
    let inside = c.self.inside in
    ap Some (c.word_behind.ensures ∙ sym (ap (λ (code : CodeValue). little_number 4 (drop (c.args.address - inside.base) code.bytes)) c.self.view_is))
    ∙ word_inside inside.base inside.memory inside.bytes.items inside.kept.items c.self.invariant c.args.address _ (search rules) (search rules) refl (search rules) (omega arith) (omega arith)
    ∙ ap (λ code. word_at code c.args.address) c.self.view_is
