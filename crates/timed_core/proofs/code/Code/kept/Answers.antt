use Rattle.std.proofs.Common.{◌∙◌, refl, ap, arith, rules}
use Rattle.std.proofs.lemmas.List.{get_or_default}
use Rattle.timed_core.specs.Code.{instr_at}
use Rattle.timed_core.specs.Kept.{instr_in}
use Rattle.timed_core.proofs.Reaching.{kept_at, none_off, none_past}
use Rattle.timed_core.proofs.code.Code.kept.Goals as goal
use Rattle.timed_core.proofs.code.Code.kept.Goals.{else-offset-eq0-via-then-offset-eq0+else-number-len, else-offset-eq0-via-else-offset-eq0}

pub returns-then-number-len-clause-value : goal.returns-then-number-len-clause-value
returns-then-number-len-clause-value c =
    let inside = c.self.inside in
    ap instr_in (c.index.ensures ∙ get_or_default inside.kept.items _ _ _ (search rules))
    ∙ kept_at inside.base inside.memory inside.bytes.items inside.kept.items c.self.invariant c.args.address _ (search rules) (search rules) refl (search rules) (search rules)
    ∙ ap (λ code. instr_at code c.args.address) c.self.view_is

pub returns-clause-value : goal.returns-clause-value
returns-clause-value c =
    let inside = c.self.inside in
    elim c.else-offset-eq0.branch [
      | else-offset-eq0-via-then-offset-eq0+else-number-len w ↦
          none_past inside.base inside.memory inside.bytes.items inside.kept.items c.self.invariant c.args.address _ (search rules) (search rules) refl (search rules) (search rules)
          ∙ ap (λ code. instr_at code c.args.address) c.self.view_is
      | else-offset-eq0-via-else-offset-eq0 w ↦
          none_off inside.base inside.memory inside.bytes.items inside.kept.items c.self.invariant c.args.address _ (search rules) (search rules) refl (search rules)
          ∙ ap (λ code. instr_at code c.args.address) c.self.view_is
    ]
