use Rattle.std.proofs.Common.{◌∙◌, refl, ap, rules}
use Rattle.timed_core.specs.Code.{is_in_memory}
use Rattle.timed_core.proofs.Reaching.{in_memory_is}
use Rattle.timed_core.proofs.code.Code.is_in_memory.Goals as goal

pub returns : goal.returns
returns c =
    let inside = c.self.inside in
    in_memory_is inside.base inside.memory inside.bytes.items inside.kept.items c.self.invariant c.args.address _ (search rules) (search rules) refl
    ∙ ap (λ code. is_in_memory code c.args.address) c.self.view_is
