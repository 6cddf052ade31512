use Rattle.std.proofs.Common.{◌<◌, length, sym, subst, arith}
use Rattle.std.proofs.lemmas.List.{take_more}
use Rattle.slack_base.specs.declared.histories.Taken.{Taken}
use Rattle.target_law.proofs.Loops.{blank}
use Rattle.violation_watch.specs.Watching.{SawTaken, takes}
use Rattle.settle.proofs.watching.watch_taken.Goals as goal

pub loop-place-preserved : goal.loop-place-preserved
loop-place-preserved c =
    let taken = c.args.taken.now in
    let k = c.loop-place.place in
    let d : Taken = record { post = blank; clock = 0; touched = 0 } in
    let inside : k < length taken = c.loop-place-test.true in
    record {
      saw = subst (λ xs. SawTaken c.args.core c.args.end xs c.on_take.new.self) (sym (take_more taken k d inside)) (takes _ c.loop-place.invariant.saw c.in_ok-on_take.ensures.ok);
      within = omega (arith, inside);
    }
