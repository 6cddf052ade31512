use Rattle.std.proofs.Common.{◌≤◌, length, ℕ, arith}
use Rattle.std.proofs.lemmas.List.{length-take}
use Rattle.io_edge.proofs.Progress.{front_after, moved_within}
use Rattle.io_edge.proofs.whole.read_all.Goals as goal

pub returns-then-n-eq0-clause-front : goal.returns-then-n-eq0-clause-front
returns-then-n-eq0-clause-front g c = λ few.
    let kept = c.loop-n.invariant.counted few in
    front_after _ _ _ _ _ _ _ c.loop-n.invariant.told c.in-Ok.ensures.moved (omega (arith, c.in-Ok.ensures.counted))

pub returns-then-len-n-clause-front : goal.returns-then-len-n-clause-front
returns-then-len-n-clause-front g c = λ few.
    let kept = c.loop-n.invariant.counted few in
    let bound : c.in-Ok.n ≤ length c.take.new.into = moved_within _ _ _ _ c.in-Ok.ensures.moved in
    front_after _ _ _ _ _ _ _ c.loop-n.invariant.told c.in-Ok.ensures.moved (omega (arith, c.in-Ok.ensures.counted, c.take.auto.into, length-take {A = ℕ}))

pub returns-in_err-extend_from_slice-clause-front : goal.returns-in_err-extend_from_slice-clause-front
returns-in_err-extend_from_slice-clause-front g c = λ few.
    let kept = c.loop-n.invariant.counted few in
    front_after _ _ _ _ _ _ _ c.loop-n.invariant.told c.in-Ok.ensures.moved (omega (arith, c.in-Ok.ensures.counted))
