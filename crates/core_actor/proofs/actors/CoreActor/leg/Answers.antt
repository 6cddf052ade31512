use Rattle.std.proofs.Common.{arith, ◌≡◌, ◌∙◌, ◌+◌, ◌≤◌, ap, ℕ, IsTrue, inl, inr}
use Rattle.core_actor.specs.declared.actors.CoreActor.{CoreActor}
use Rattle.core_actor.proofs.Goes.{Went-then, turned_from, unheld_more, unheld_here, not_below, at_number}
use Rattle.core_actor.proofs.actors.CoreActor.leg.Goals as goal
use Rattle.core_actor.proofs.actors.CoreActor.leg.Goals.{else-may_advance-via-then-may_advance+else-not-hold, else-may_advance-via-else-may_advance}

pub loop-self-preserved-then-not-hold : goal.loop-self-preserved-then-not-hold
loop-self-preserved-then-not-hold g c =
    let t = c.args.target.now in
    let rules = g.T.Target.rules t in
    let owns = g.T.Target.owns t in
    let values = g.T.Target.values in
    let end = c.args.end in
    let a : CoreActor g.row.C.Denot = c.args.self.now in
    let b : CoreActor g.row.C.Denot = c.loop-self.self in
    let d : CoreActor g.row.C.Denot = c.exchange.new.self in
    let f : CoreActor g.row.C.Denot = c.tick.new.self in
    let h = c.loop-self.invariant in
    let x = c.in_ok-exchange.ensures in
    let z = c.in_ok-tick.ensures in
    let w = Went-then rules owns values end a b d h.went x.went in
    record {
      went = Went-then rules owns values end a d f w z.went;
      turned = λ _. z.turned a (turned_from rules owns values end a b d h.went x.turned);
      unheld = unheld_more (g.G.Gate.must_hold c.args.gate.now) a.pacer.number a.lane.clock b.lane.clock f.lane.clock h.unheld (z.clock ∙ ap (λ (n : ℕ). n + 1) x.clock)
          (unheld_here (g.G.Gate.must_hold c.args.gate.now) c.number.result a.pacer.number d.lane.clock b.lane.clock c.hold.result (c.number.ensures ∙ w.pacer.1) x.clock c.hold.ensures.must c.if-not-hold.true);
      idle = omega arith;
      held = λ lt. absurd (omega arith);
    }

pub loop-self-preserved : goal.loop-self-preserved
loop-self-preserved g c =
    let t = c.args.target.now in
    let rules = g.T.Target.rules t in
    let owns = g.T.Target.owns t in
    let values = g.T.Target.values in
    let end = c.args.end in
    let a : CoreActor g.row.C.Denot = c.args.self.now in
    let b : CoreActor g.row.C.Denot = c.loop-self.self in
    let d : CoreActor g.row.C.Denot = c.exchange.new.self in
    let h = c.loop-self.invariant in
    let x = c.in_ok-exchange.ensures in
    let w = Went-then rules owns values end a b d h.went x.went in
    record {
      went = w;
      turned = λ _. turned_from rules owns values end a b d h.went x.turned;
      unheld = rw x.clock h.unheld;
      idle = omega (arith, c.from.ensures, c.if-idle-from.true);
      held = λ lt.
          let paced = x.went.ready.paced in
          elim c.else-may_advance.branch [
            | else-may_advance-via-then-may_advance+else-not-hold q ↦
                let n : d.pacer.number ≡ a.pacer.number = w.pacer.1 in
                let k : IsTrue (g.G.Gate.may_hold c.args.gate.now d.pacer.number d.lane.clock) =
                at_number (g.G.Gate.may_hold c.args.gate.now) q.number.result d.pacer.number d.lane.clock q.number.ensures (q.hold.ensures.may q.if-not-hold.false) in
                inr (at_number (g.G.Gate.may_hold c.args.gate.now) d.pacer.number a.pacer.number d.lane.clock n k)
            | else-may_advance-via-else-may_advance q ↦
                let k : d.pacer.seen + d.pacer.slack ≤ d.pacer.clock = not_below c.may_advance.result d.pacer.clock (d.pacer.seen + d.pacer.slack) c.may_advance.ensures.1 q.if-may_advance.false in
                inl (omega arith)
          ];
    }
