use Rattle.std.proofs.Common.{◌+◌, ◌≤◌, ◌<◌, ⊎_elim, sym, subst, arith}
use Rattle.leap_run.specs.declared.outlook.Outlook.{Outlook}
use Rattle.leap_run.proofs.Quieting.{LooksAhead, looks_none, looks_sooner, looks_later, core_here, before}
use Rattle.leap_run.proofs.outlook.look_ahead.Goals as goal

pub loop-place-init : goal.loop-place-init
loop-place-init g c = looks_none (g.T.Target.rules c.args.target.now) g.T.Target.values.core c.args.from c.args.cores.now _ _

pub quiet-requires : goal.quiet-requires
quiet-requires g c =
    let t = c.args.target.now in
    core_here (g.T.Target.rules t) (g.T.Target.owns t) g.T.Target.values.core c.args.cores.now c.loop-place.place c.index-cores-place.result c.loop-place-test.true c.index-cores-place.is c.requires.cores

pub loop-place-preserved : goal.loop-place-preserved
loop-place-preserved g c =
    let rs = g.T.Target.rules c.args.target.now in
    let view = g.T.Target.values.core in
    let i = c.loop-place.place in
    let ahead = c.loop-place.ahead in
    let q = c.quiet.result in
    let Looks = λ (o : Outlook). LooksAhead rs view c.args.from (i + 1) c.args.cores.now o.all o.others o.lone in
    ⊎_elim
    (λ (sooner : q < ahead.all). subst Looks (sym (c.with-ahead.ensures.sooner sooner))
    (looks_sooner rs view c.args.from i c.args.cores.now c.index-cores-place.result c.loop-place-test.true q c.index-cores-place.is (record { silent = c.quiet.ensures }) ahead.all ahead.others ahead.lone c.loop-place.invariant sooner))
    (λ (later : ahead.all ≤ q). subst Looks (sym (c.with-ahead.ensures.later later))
    (looks_later rs view c.args.from i c.args.cores.now c.index-cores-place.result c.loop-place-test.true q c.index-cores-place.is (record { silent = c.quiet.ensures }) ahead.all ahead.others ahead.lone c.loop-place.invariant later))
    (before q ahead.all)

pub returns-clause-all : goal.returns-clause-all
returns-clause-all g c = λ k d low. c.loop-place.invariant.all_quiet k d (omega (arith, c.loop-place-test.false))

pub returns-clause-others : goal.returns-clause-others
returns-clause-others g c = λ k d low other. c.loop-place.invariant.others_quiet k d (omega (arith, c.loop-place-test.false)) other

pub returns-clause-lone : goal.returns-clause-lone
returns-clause-lone g c = let within = c.loop-place.invariant.within in let some = c.requires.some in omega (arith, c.loop-place-test.false, c.loop-place.auto.place-end)
