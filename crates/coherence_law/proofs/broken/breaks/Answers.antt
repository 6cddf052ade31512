use Rattle.std.proofs.Common.{◌∙◌, ◌++◌, ◌+◌, ◌<◌, ◌∷◌, [], sym, ap, subst, append_assoc}
use Rattle.lockstep_model.specs.Views.{machine_of, values_of}
use Rattle.coherence_law.specs.Breaks.{is_coherent, lines_in}
use Rattle.coherence_law.proofs.Testing.{broken_from, broken_here, broken_later}
use Rattle.coherence_law.proofs.broken.breaks.Goals.{then-not-is_coherent+in_ok-push, else-not-is_coherent}
use Rattle.coherence_law.proofs.broken.breaks.Goals as goal

pub loop-line-preserved : goal.loop-line-preserved
loop-line-preserved c =
    let m = machine_of c.args.machine.now in
    let end = lines_in m.chans in
    let line = c.loop-line.line in
    let q = is_coherent m in
    let rest = broken_from q end (line + 1) in
    let within : line < end = subst (λ n. line < n) (c.lines_in-line-end.ensures ∙ ap (λ chans. lines_in (values_of chans)) c.as_slice.ensures) c.loop-line-test.true in
    elim c.if-not-is_coherent.branch [
      | then-not-is_coherent+in_ok-push w ↦
          let pushed = w.in_ok-push.ensures in
          ap (λ xs. xs ++ rest) (w.broken-is ∙ pushed.ok)
          ∙ append_assoc c.loop-line.broken (line ∷ []) rest
          ∙ ap (λ xs. c.loop-line.broken ++ xs) (sym (broken_here q end line within (sym c.is_coherent.ensures ∙ w.if-not-is_coherent.true)))
          ∙ c.loop-line.invariant
      | else-not-is_coherent w ↦
          ap (λ xs. xs ++ rest) w.broken-is
          ∙ ap (λ xs. c.loop-line.broken ++ xs) (sym (broken_later q end line within (sym c.is_coherent.ensures ∙ w.if-not-is_coherent.false)))
          ∙ c.loop-line.invariant
    ]
