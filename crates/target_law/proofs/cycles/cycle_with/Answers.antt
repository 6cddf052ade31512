use Rattle.std.proofs.Common.{map}
use Rattle.target_law.specs.Cycles.{asks_of, through}
use Rattle.target_law.proofs.Stored.{read_back, asks_ok, cores_ok, served_ok, closed_ok, posts_ok, stored, stored_proper, stored_punctual}
use Rattle.target_law.proofs.cycles.cycle_with.Goals as goal

pub serve_all-requires-clause-asks : goal.serve_all-requires-clause-asks
serve_all-requires-clause-asks g c κs within =
    let t = c.args.target.now in
    let s = c.args.state.now in
    let values = g.T.Target.values in
    let asked = asks_of (g.T.Target.rules t) s.clock (map values.core c.as_mut_slice-cores.result.now) in
    let asks = read_back c.clear.new.self.asks c.tick_all.new.asks asked c.as_slice-asks.result.now c.clear.ensures.asks c.in_ok-tick_all.ensures.asks c.as_slice-asks.ensures in
    asks_ok (g.T.Target.rules t) (g.T.Target.owns t) (g.met.T.Target.laws t) values.core values.chan
    s.clock s.cores c.as_mut_slice-cores.result.now s.chans c.as_mut_slice-chans.result.now c.requires.proper
    c.as_mut_slice-cores.ensures.value c.as_mut_slice-chans.ensures.value c.as_slice-asks.result.now asks

pub close_after-requires-clause-chans : goal.close_after-requires-clause-chans
close_after-requires-clause-chans g c κs within =
    let t = c.args.target.now in
    let s = c.args.state.now in
    let values = g.T.Target.values in
    let asked = asks_of (g.T.Target.rules t) s.clock (map values.core c.as_mut_slice-cores.result.now) in
    let asks = read_back c.clear.new.self.asks c.tick_all.new.asks asked c.as_slice-asks.result.now c.clear.ensures.asks c.in_ok-tick_all.ensures.asks c.as_slice-asks.ensures in
    served_ok (g.T.Target.rules t) (g.T.Target.owns t) (g.met.T.Target.laws t) values.core values.chan
    s.clock s.cores c.as_mut_slice-cores.result.now s.chans c.as_mut_slice-chans.result.now c.requires.proper
    c.as_mut_slice-cores.ensures.value c.as_mut_slice-chans.ensures.value c.as_slice-asks.result.now asks
    c.tick_all.new.cores c.in_ok-tick_all.ensures.cores
    c.serve_all.new.chans c.in_ok-serve_all.ensures.chans

pub close_after-requires-clause-closed : goal.close_after-requires-clause-closed
close_after-requires-clause-closed g c κs within =
    let t = c.args.target.now in
    let s = c.args.state.now in
    let values = g.T.Target.values in
    let asked = asks_of (g.T.Target.rules t) s.clock (map values.core c.as_mut_slice-cores.result.now) in
    let asks = read_back c.clear.new.self.asks c.tick_all.new.asks asked c.as_slice-asks.result.now c.clear.ensures.asks c.in_ok-tick_all.ensures.asks c.as_slice-asks.ensures in
    closed_ok (g.T.Target.rules t) (g.T.Target.owns t) (g.met.T.Target.laws t) values.core values.chan
    s.clock s.cores c.as_mut_slice-cores.result.now s.chans c.as_mut_slice-chans.result.now c.requires.proper
    c.as_mut_slice-cores.ensures.value c.as_mut_slice-chans.ensures.value c.as_slice-asks.result.now asks
    c.tick_all.new.cores c.in_ok-tick_all.ensures.cores
    c.serve_all.new.chans c.in_ok-serve_all.ensures.chans

pub deliver_all-requires-clause-cores : goal.deliver_all-requires-clause-cores
deliver_all-requires-clause-cores g c κs within =
    let t = c.args.target.now in
    let s = c.args.state.now in
    let values = g.T.Target.values in
    let asked = asks_of (g.T.Target.rules t) s.clock (map values.core c.as_mut_slice-cores.result.now) in
    let asks = read_back c.clear.new.self.asks c.tick_all.new.asks asked c.as_slice-asks.result.now c.clear.ensures.asks c.in_ok-tick_all.ensures.asks c.as_slice-asks.ensures in
    cores_ok (g.T.Target.rules t) (g.T.Target.owns t) (g.met.T.Target.laws t) values.core values.chan
    s.clock s.cores c.as_mut_slice-cores.result.now s.chans c.as_mut_slice-chans.result.now c.requires.proper
    c.as_mut_slice-cores.ensures.value c.as_mut_slice-chans.ensures.value c.as_slice-asks.result.now asks
    c.tick_all.new.cores c.in_ok-tick_all.ensures.cores

pub deliver_all-requires-clause-posts : goal.deliver_all-requires-clause-posts
deliver_all-requires-clause-posts g c κs within =
    let t = c.args.target.now in
    let s = c.args.state.now in
    let values = g.T.Target.values in
    let asked = asks_of (g.T.Target.rules t) s.clock (map values.core c.as_mut_slice-cores.result.now) in
    let asks = read_back c.clear.new.self.asks c.tick_all.new.asks asked c.as_slice-asks.result.now c.clear.ensures.asks c.in_ok-tick_all.ensures.asks c.as_slice-asks.ensures in
    let sent = (through (g.T.Target.rules t) (map values.chan c.as_mut_slice-chans.result.now) c.as_slice-asks.result.now).posts in
    let posts = read_back c.clear.new.self.posts c.serve_all.new.posts sent c.as_slice.result.now c.clear.ensures.posts c.in_ok-serve_all.ensures.posts c.as_slice.ensures in
    posts_ok (g.T.Target.rules t) (g.T.Target.owns t) (g.met.T.Target.laws t) values.core values.chan
    s.clock s.cores c.as_mut_slice-cores.result.now s.chans c.as_mut_slice-chans.result.now c.requires.proper
    c.as_mut_slice-cores.ensures.value c.as_mut_slice-chans.ensures.value c.as_slice-asks.result.now asks
    c.tick_all.new.cores c.in_ok-tick_all.ensures.cores
    c.serve_all.new.chans c.in_ok-serve_all.ensures.chans
    c.as_slice.result.now posts

pub returns-clause-state : goal.returns-clause-state
returns-clause-state g c =
    let t = c.args.target.now in
    let s = c.args.state.now in
    let values = g.T.Target.values in
    let asked = asks_of (g.T.Target.rules t) s.clock (map values.core c.as_mut_slice-cores.result.now) in
    let asks = read_back c.clear.new.self.asks c.tick_all.new.asks asked c.as_slice-asks.result.now c.clear.ensures.asks c.in_ok-tick_all.ensures.asks c.as_slice-asks.ensures in
    let sent = (through (g.T.Target.rules t) (map values.chan c.as_mut_slice-chans.result.now) c.as_slice-asks.result.now).posts in
    let posts = read_back c.clear.new.self.posts c.serve_all.new.posts sent c.as_slice.result.now c.clear.ensures.posts c.in_ok-serve_all.ensures.posts c.as_slice.ensures in
    stored (g.T.Target.rules t) (g.T.Target.owns t) (g.met.T.Target.laws t) values.core values.chan
    s.clock s.cores c.as_mut_slice-cores.result.now s.chans c.as_mut_slice-chans.result.now c.requires.proper
    c.as_mut_slice-cores.ensures.value c.as_mut_slice-chans.ensures.value c.as_slice-asks.result.now asks
    c.tick_all.new.cores c.in_ok-tick_all.ensures.cores
    c.serve_all.new.chans c.in_ok-serve_all.ensures.chans
    c.as_slice.result.now posts
    c.deliver_all.new.cores c.in_ok-deliver_all.ensures c.close_after.new.chans c.close_after.ensures

pub returns-clause-proper : goal.returns-clause-proper
returns-clause-proper g c =
    let t = c.args.target.now in
    let s = c.args.state.now in
    let values = g.T.Target.values in
    let asked = asks_of (g.T.Target.rules t) s.clock (map values.core c.as_mut_slice-cores.result.now) in
    let asks = read_back c.clear.new.self.asks c.tick_all.new.asks asked c.as_slice-asks.result.now c.clear.ensures.asks c.in_ok-tick_all.ensures.asks c.as_slice-asks.ensures in
    let sent = (through (g.T.Target.rules t) (map values.chan c.as_mut_slice-chans.result.now) c.as_slice-asks.result.now).posts in
    let posts = read_back c.clear.new.self.posts c.serve_all.new.posts sent c.as_slice.result.now c.clear.ensures.posts c.in_ok-serve_all.ensures.posts c.as_slice.ensures in
    stored_proper (g.T.Target.rules t) (g.T.Target.owns t) (g.met.T.Target.laws t) values.core values.chan
    s.clock s.cores c.as_mut_slice-cores.result.now s.chans c.as_mut_slice-chans.result.now c.requires.proper
    c.as_mut_slice-cores.ensures.value c.as_mut_slice-chans.ensures.value c.as_slice-asks.result.now asks
    c.tick_all.new.cores c.in_ok-tick_all.ensures.cores
    c.serve_all.new.chans c.in_ok-serve_all.ensures.chans
    c.as_slice.result.now posts
    c.deliver_all.new.cores c.in_ok-deliver_all.ensures c.close_after.new.chans c.close_after.ensures c.requires.clock

pub returns-clause-punctual : goal.returns-clause-punctual
returns-clause-punctual g c =
    let t = c.args.target.now in
    let s = c.args.state.now in
    let values = g.T.Target.values in
    let asked = asks_of (g.T.Target.rules t) s.clock (map values.core c.as_mut_slice-cores.result.now) in
    let asks = read_back c.clear.new.self.asks c.tick_all.new.asks asked c.as_slice-asks.result.now c.clear.ensures.asks c.in_ok-tick_all.ensures.asks c.as_slice-asks.ensures in
    let sent = (through (g.T.Target.rules t) (map values.chan c.as_mut_slice-chans.result.now) c.as_slice-asks.result.now).posts in
    let posts = read_back c.clear.new.self.posts c.serve_all.new.posts sent c.as_slice.result.now c.clear.ensures.posts c.in_ok-serve_all.ensures.posts c.as_slice.ensures in
    stored_punctual (g.T.Target.rules t) (g.T.Target.owns t) (g.met.T.Target.laws t) values.core values.chan
    s.clock s.cores c.as_mut_slice-cores.result.now s.chans c.as_mut_slice-chans.result.now c.requires.proper
    c.as_mut_slice-cores.ensures.value c.as_mut_slice-chans.ensures.value c.as_slice-asks.result.now asks
    c.tick_all.new.cores c.in_ok-tick_all.ensures.cores
    c.serve_all.new.chans c.in_ok-serve_all.ensures.chans
    c.as_slice.result.now posts
    c.deliver_all.new.cores c.in_ok-deliver_all.ensures c.close_after.new.chans c.close_after.ensures
