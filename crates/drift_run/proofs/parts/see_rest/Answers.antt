use Rattle.std.proofs.Common.{◌≡◌, ◌∙◌, ◌+◌, ◌≤◌, ◌++◌, ◌∷◌, [], length, take, drop, suc, sym, subst, inl, inr, arith}
use Rattle.std.proofs.lemmas.List.{length-append}
use Rattle.settle.proofs.Lists.{drop_rest}
use Rattle.violation_watch.specs.Watching.{SawTaken}
use Rattle.drift_run.proofs.Watched.{see_more, see_end, no_lane, seen_at_place}
use Rattle.drift_run.proofs.parts.see_rest.Goals as goal

pub see_rest-requires-clause-seen : goal.see_rest-requires-clause-seen
see_rest-requires-clause-seen g c =
    let h = c.loop-lane.invariant in
    let a = c.in-Some.ensures.steps in
    let n = length c.loop-lane.yielded in
    let is = seen_at_place n c.args.end c.args.lanes.now c.next.new.self.a.rest.now c.args.watches.items c.next.new.self.b.rest.items c.in-Some.lane.now c.in-Some.watch c.requires (sym a.0 ∙ h.lanes) (sym a.1.0 ∙ h.watches) in
    subst (λ xs. c.in-Some.watch.seen ≤ length xs) (sym c.as_slice.ensures) is.within

pub see_rest-requires-clause-saw : goal.see_rest-requires-clause-saw
see_rest-requires-clause-saw g c =
    let h = c.loop-lane.invariant in
    let a = c.in-Some.ensures.steps in
    let n = length c.loop-lane.yielded in
    let w = c.in-Some.watch in
    let is = seen_at_place n c.args.end c.args.lanes.now c.next.new.self.a.rest.now c.args.watches.items c.next.new.self.b.rest.items c.in-Some.lane.now w c.requires (sym a.0 ∙ h.lanes) (sym a.1.0 ∙ h.watches) in
    subst (λ k. SawTaken k c.args.end (take w.seen c.as_slice.result.now) w.watch) (sym is.core)
    (subst (λ xs. SawTaken n c.args.end (take w.seen xs) w.watch) (sym c.as_slice.ensures) is.saw)

pub loop-lane-preserved : goal.loop-lane-preserved
loop-lane-preserved g c =
    let h = c.loop-lane.invariant in
    let a = c.in-Some.ensures.steps in
    let n = length c.loop-lane.yielded in
    let w = c.in-Some.watch in
    let now = c.loop-lane.lane-iterator.a.rest.now in
    let next = c.next.new.self in
    let is = seen_at_place n c.args.end c.args.lanes.now next.a.rest.now c.args.watches.items next.b.rest.items c.in-Some.lane.now w c.requires (sym a.0 ∙ h.lanes) (sym a.1.0 ∙ h.watches) in
    let more : length (c.loop-lane.yielded ++ (c.in-Some.lane, w) ∷ []) ≡ n + 1 = length-append c.loop-lane.yielded ((c.in-Some.lane, w) ∷ []) in
    let next_is : suc n ≡ length (c.loop-lane.yielded ++ (c.in-Some.lane, w) ∷ []) = omega (arith, more) in
    record {
      found = see_more n (length (c.loop-lane.yielded ++ (c.in-Some.lane, w) ∷ [])) c.args.end w.core c.loop-lane.found c.see_rest.new.found _ c.in-Some.lane.now now next.a.rest.now c.as_slice.result.now a.0 c.as_slice.ensures is.core more c.in_ok-see_rest.ensures h.found;
      lanes = subst (λ k. next.a.rest.now ≡ drop k c.args.lanes.now) next_is (drop_rest n c.args.lanes.now c.in-Some.lane.now next.a.rest.now (sym a.0 ∙ h.lanes));
      watches = subst (λ k. next.b.rest.items ≡ drop k c.args.watches.items) next_is (drop_rest n c.args.watches.items w next.b.rest.items (sym a.1.0 ∙ h.watches));
    }

pub returns : goal.returns
returns g c =
    let h = c.loop-lane.invariant in
    let n = length c.loop-lane.yielded in
    let a = c.loop-lane.lane-iterator.a.rest.now in
    let b = c.loop-lane.lane-iterator.b.rest in
    see_end n c.args.end c.loop-lane.found _ a (elim c.in-None.ensures.steps [
      | inl w ↦ w.1.0
      | inr w ↦ no_lane n c.args.lanes.now a c.args.watches.items b.items c.requires.count h.lanes h.watches (let count = w.1 in let whole = b.ok.0 in omega (arith, count, whole))
    ]) h.found
