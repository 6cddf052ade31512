use Rattle.std.proofs.Common.{◌≤◌, arith}
use Rattle.slack_base.specs.declared.bounds.TheConstants.{TOP}
use Rattle.leap_run.proofs.Reaching.{asks_ok, cores_ok, after_none, after_exchange}
use Rattle.leap_run.proofs.leaps.leap.Goals as goal

pub exchange-requires-clause-cores : goal.exchange-requires-clause-cores
exchange-requires-clause-cores g c κs within =
    let t = c.args.target.now in
    let rs = g.T.Target.rules t in
    let owns = g.T.Target.owns t in
    let laws = g.met.T.Target.laws t in
    let V = g.T.Target.values.core in
    let W = g.T.Target.values.chan in
    let from = c.args.from in
    let end = c.in_ok-end.end in
    let may = c.in_ok-end.ensures.reach in
    let ahead = c.in_ok-end.ensures.ahead in
    let top : end ≤ TOP = omega (arith, c.requires.top) in
    cores_ok rs owns laws V W from may.quiet end c.args.cores.now c.args.chans.now ahead.0 top may.soon c.requires.proper c.requires.punctual may.silent
    c.advance_cores.new.asks c.in_ok-end.ensures.asks c.advance_cores.new.cores c.in_ok-end.ensures.cores

pub exchange-requires-clause-asks : goal.exchange-requires-clause-asks
exchange-requires-clause-asks g c κs within =
    let t = c.args.target.now in
    let rs = g.T.Target.rules t in
    let owns = g.T.Target.owns t in
    let laws = g.met.T.Target.laws t in
    let V = g.T.Target.values.core in
    let W = g.T.Target.values.chan in
    let from = c.args.from in
    let end = c.in_ok-end.end in
    let may = c.in_ok-end.ensures.reach in
    let ahead = c.in_ok-end.ensures.ahead in
    let top : end ≤ TOP = omega (arith, c.requires.top) in
    asks_ok rs owns laws V W from may.quiet end c.args.cores.now c.args.chans.now ahead.0 top may.soon c.requires.proper c.requires.punctual may.silent
    c.advance_cores.new.asks c.in_ok-end.ensures.asks c.advance_cores.new.cores c.in_ok-end.ensures.cores

pub returns-in_ok-exchange-clause-state : goal.returns-in_ok-exchange-clause-state
returns-in_ok-exchange-clause-state g c =
    let t = c.args.target.now in
    let rs = g.T.Target.rules t in
    let owns = g.T.Target.owns t in
    let laws = g.met.T.Target.laws t in
    let V = g.T.Target.values.core in
    let W = g.T.Target.values.chan in
    let from = c.args.from in
    let end = c.in_ok-end.end in
    let may = c.in_ok-end.ensures.reach in
    let ahead = c.in_ok-end.ensures.ahead in
    let top : end ≤ TOP = omega (arith, c.requires.top) in
    after_exchange rs owns laws V W from may.quiet end c.args.cores.now c.args.chans.now ahead.0 top may.soon c.requires.proper c.requires.punctual may.silent
    c.advance_cores.new.asks c.in_ok-end.ensures.asks c.advance_cores.new.cores c.in_ok-end.ensures.cores
    c.exchange.new.cores c.exchange.new.chans c.in_ok-exchange.ensures.exchanged

pub returns-else-not-is_empty-clause-state : goal.returns-else-not-is_empty-clause-state
returns-else-not-is_empty-clause-state g c =
    let t = c.args.target.now in
    let rs = g.T.Target.rules t in
    let owns = g.T.Target.owns t in
    let laws = g.met.T.Target.laws t in
    let V = g.T.Target.values.core in
    let W = g.T.Target.values.chan in
    let from = c.args.from in
    let end = c.in_ok-end.end in
    let may = c.in_ok-end.ensures.reach in
    let ahead = c.in_ok-end.ensures.ahead in
    let top : end ≤ TOP = omega (arith, c.requires.top) in
    after_none rs owns laws V W from may.quiet end c.args.cores.now c.args.chans.now ahead.0 top may.soon c.requires.proper c.requires.punctual may.silent
    c.advance_cores.new.asks c.in_ok-end.ensures.asks c.advance_cores.new.cores c.in_ok-end.ensures.cores
    (c.is_empty.ensures.0 c.if-not-is_empty.false)
