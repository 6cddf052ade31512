use Rattle.std.proofs.Common.{◌≡◌, ◌∙◌, ◌-◌, ◌≤◌, ◌++◌, ◌∷◌, ap, arith}
use Rattle.target_law.specs.Proper.{IsCore}
use Rattle.leap_run.specs.Leaps.{IsQuiet}
use Rattle.leap_run.proofs.Alone.{all_one, all_back, but_front, but_back, asks_alone, quiet_all}
use Rattle.leap_run.proofs.sweeps.advance_alone.Goals as goal

pub advance_until_asking-requires-clause-core : goal.advance_until_asking-requires-clause-core
advance_until_asking-requires-clause-core g c κs within =
    let rs = g.T.Target.rules c.args.target.now in
    let view = g.T.Target.values.core in
    let cores = c.args.cores.now in
    let front = c.split_at_mut-front.result.0.now in
    let one = c.in-Some.one.now in
    let back = c.in-Some.back.now in
    let whole : cores ≡ front ++ one ∷ back = c.split_at_mut-front.ensures.value ∙ ap (λ xs. front ++ xs) c.in-Some.ensures.cases.0 in
    all_one cores front one back whole (λ core. IsCore rs (g.T.Target.owns c.args.target.now) (view core)) c.requires.cores

pub advance_all-requires-2-clause-cores : goal.advance_all-requires-2-clause-cores
advance_all-requires-2-clause-cores g c κs within =
    let rs = g.T.Target.rules c.args.target.now in
    let view = g.T.Target.values.core in
    let cores = c.args.cores.now in
    let front = c.split_at_mut-front.result.0.now in
    let one = c.in-Some.one.now in
    let back = c.in-Some.back.now in
    let whole : cores ≡ front ++ one ∷ back = c.split_at_mut-front.ensures.value ∙ ap (λ xs. front ++ xs) c.in-Some.ensures.cases.0 in
    all_back cores front one back whole (λ core. IsCore rs (g.T.Target.owns c.args.target.now) (view core)) c.requires.cores

pub returns-clause-asks : goal.returns-clause-asks
returns-clause-asks g c =
    let rs = g.T.Target.rules c.args.target.now in
    let view = g.T.Target.values.core in
    let cores = c.args.cores.now in
    let front = c.split_at_mut-front.result.0.now in
    let one = c.in-Some.one.now in
    let back = c.in-Some.back.now in
    let whole : cores ≡ front ++ one ∷ back = c.split_at_mut-front.ensures.value ∙ ap (λ xs. front ++ xs) c.in-Some.ensures.cases.0 in
    let t = c.args.from in
    let k = c.in_ok-end.end - t in
    let n = c.args.until - t in
    let ahead = c.in_ok-end.ensures.ahead in
    let few : k ≤ n = omega arith in
    let Quiet = λ (core : g.row.C.Denot). IsQuiet rs t n (view core) in
    let before = but_front cores front one back whole Quiet c.args.lone c.split_at_mut-front.ensures.front_len c.requires.others in
    let after = but_back cores front one back whole Quiet c.args.lone c.split_at_mut-front.ensures.front_len c.requires.others in
    asks_alone rs view t k n few cores front one back whole before after c.advance_until_asking.new.asks c.advance_all.new.asks c.advance_all-2.new.asks
    c.in_ok-end.ensures.asks c.in_ok-advance_all.ensures.asks c.in_ok-advance_all-2.ensures.asks

pub returns-clause-last : goal.returns-clause-last
returns-clause-last g c =
    let rs = g.T.Target.rules c.args.target.now in
    let view = g.T.Target.values.core in
    let cores = c.args.cores.now in
    let front = c.split_at_mut-front.result.0.now in
    let one = c.in-Some.one.now in
    let back = c.in-Some.back.now in
    let whole : cores ≡ front ++ one ∷ back = c.split_at_mut-front.ensures.value ∙ ap (λ xs. front ++ xs) c.in-Some.ensures.cases.0 in
    let t = c.args.from in
    let k = c.in_ok-end.end - t in
    let n = c.args.until - t in
    let ahead = c.in_ok-end.ensures.ahead in
    let few : k ≤ n = omega arith in
    let Quiet = λ (core : g.row.C.Denot). IsQuiet rs t n (view core) in
    let before = but_front cores front one back whole Quiet c.args.lone c.split_at_mut-front.ensures.front_len c.requires.others in
    let after = but_back cores front one back whole Quiet c.args.lone c.split_at_mut-front.ensures.front_len c.requires.others in
    quiet_all rs view t k n few cores front one back whole before after (k - 1) (omega arith) c.in_ok-end.ensures.last
