use Rattle.std.proofs.Common.{map, subst}
use Rattle.std.specs.List.Sorted.{IsPermutation}
use Rattle.target_law.specs.Cycles.{through}
use Rattle.target_law.proofs.Stored.{read_back}
use Rattle.leap_run.proofs.Exchanging.{sorted_in_place, read_proper, served_are, posts_proper, exchanged}
use Rattle.leap_run.proofs.messages.Messages.exchange.Goals as goal

pub serve_all-requires-clause-asks : goal.serve_all-requires-clause-asks
serve_all-requires-clause-asks g c κs within =
    let t = c.args.target.now in
    let sent = c.args.self.now.asks in
    let asks = c.sort_by_id.new.asks in
    let lent = c.as_mut_slice.result.now in
    let read = c.as_slice.result.now in
    let shows = sorted_in_place sent lent asks read c.as_mut_slice.ensures.value c.sort_by_id.ensures.same c.as_slice.ensures in
    let same = subst (λ xs. IsPermutation xs asks) c.as_mut_slice.ensures.value c.sort_by_id.ensures.same in
    read_proper (g.T.Target.rules t) (g.T.Target.owns t) (g.met.T.Target.laws t) sent asks same c.requires.asks (map g.T.Target.values.chan c.args.chans.now) c.requires.chans read shows

pub close_all-requires-after_bounds : goal.close_all-requires-after_bounds
close_all-requires-after_bounds g c κs within =
    let t = c.args.target.now in
    let sent = c.args.self.now.asks in
    let asks = c.sort_by_id.new.asks in
    let lent = c.as_mut_slice.result.now in
    let read = c.as_slice.result.now in
    let shows = sorted_in_place sent lent asks read c.as_mut_slice.ensures.value c.sort_by_id.ensures.same c.as_slice.ensures in
    let same = subst (λ xs. IsPermutation xs asks) c.as_mut_slice.ensures.value c.sort_by_id.ensures.same in
    served_are (g.T.Target.rules t) (g.T.Target.owns t) (g.met.T.Target.laws t) sent asks same c.requires.asks (map g.T.Target.values.chan c.args.chans.now) c.requires.chans read shows
    (map g.T.Target.values.chan c.serve_all.new.chans) c.in_ok-serve_all.ensures.chans

pub deliver_all-requires-clause-posts : goal.deliver_all-requires-clause-posts
deliver_all-requires-clause-posts g c κs within =
    let t = c.args.target.now in
    let sent = c.args.self.now.asks in
    let asks = c.sort_by_id.new.asks in
    let lent = c.as_mut_slice.result.now in
    let read = c.as_slice.result.now in
    let shows = sorted_in_place sent lent asks read c.as_mut_slice.ensures.value c.sort_by_id.ensures.same c.as_slice.ensures in
    let same = subst (λ xs. IsPermutation xs asks) c.as_mut_slice.ensures.value c.sort_by_id.ensures.same in
    let chans = map g.T.Target.values.chan c.args.chans.now in
    posts_proper (g.T.Target.rules t) (g.T.Target.owns t) (g.met.T.Target.laws t) sent asks same c.requires.asks chans c.requires.chans read shows
    (map g.T.Target.values.chan c.serve_all.new.chans) c.in_ok-serve_all.ensures.chans
    c.as_slice-2.result.now (read_back c.args.self.now.posts c.serve_all.new.posts (through (g.T.Target.rules t) chans read).posts c.as_slice-2.result.now c.requires.posts c.in_ok-serve_all.ensures.posts c.as_slice-2.ensures)

pub returns-clause-exchanged : goal.returns-clause-exchanged
returns-clause-exchanged g c =
    let t = c.args.target.now in
    let sent = c.args.self.now.asks in
    let asks = c.sort_by_id.new.asks in
    let lent = c.as_mut_slice.result.now in
    let read = c.as_slice.result.now in
    let shows = sorted_in_place sent lent asks read c.as_mut_slice.ensures.value c.sort_by_id.ensures.same c.as_slice.ensures in
    let same = subst (λ xs. IsPermutation xs asks) c.as_mut_slice.ensures.value c.sort_by_id.ensures.same in
    let chans = map g.T.Target.values.chan c.args.chans.now in
    exchanged (g.T.Target.rules t) (g.T.Target.owns t) (g.met.T.Target.laws t) sent asks same c.requires.asks chans c.requires.chans read shows
    (map g.T.Target.values.chan c.serve_all.new.chans) c.in_ok-serve_all.ensures.chans
    c.as_slice-2.result.now (read_back c.args.self.now.posts c.serve_all.new.posts (through (g.T.Target.rules t) chans read).posts c.as_slice-2.result.now c.requires.posts c.in_ok-serve_all.ensures.posts c.as_slice-2.ensures)
    c.sort_by_id.ensures.sorted (map g.T.Target.values.core c.args.cores.now) (map g.T.Target.values.core c.deliver_all.new.cores) (map g.T.Target.values.chan c.close_all.new.chans)
    c.in_ok-deliver_all.ensures c.close_all.ensures
