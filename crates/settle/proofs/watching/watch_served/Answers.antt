use Rattle.std.proofs.Common.{◌<◌, ◌+◌, ◌++◌, ◌∷◌, [], None, length, take, get_or, sym, subst, arith}
use Rattle.std.proofs.lemmas.List.{take_more}
use Rattle.target_law.proofs.Loops.{blank_ask}
use Rattle.violation_watch.specs.Watching.{SawServed, serves}
use Rattle.settle.proofs.watching.watch_served.Goals as goal

pub loop-place-preserved : goal.loop-place-preserved
loop-place-preserved g c =
    let rules = g.T.Target.rules c.args.target.now in
    let served = c.args.served.now in
    let clashes = c.args.clashes.now in
    let k = c.loop-place.place in
    let count = c.requires.count in
    let inside : k < length served = c.loop-place-test.true in
    record {
      saw =
          subst (λ xs. SawServed rules (take (k + 1) clashes) xs c.on_serve.new.self) (sym (take_more served k blank_ask inside))
          (subst (λ hs. SawServed rules hs (take k served ++ get_or served k blank_ask ∷ []) c.on_serve.new.self) (sym (take_more clashes k None (omega (arith, inside, count))))
          (serves c.loop-place.invariant.saw c.in_ok-on_serve.ensures.ok));
      within = omega (arith, inside);
    }
