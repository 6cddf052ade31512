use Rattle.std.proofs.Common.{refl}
use Rattle.stamp_queue.proofs.Chains.{step, last_step, keeps_twice}
use Rattle.stamp_queue.proofs.inbox.nodes.settle.Goals as goal

pub loop-next-smaller : goal.loop-next-smaller
loop-next-smaller c = (step _ _ _ _ _ _ _ _ c.loop-next.invariant.slot c.loop-next.invariant.leads c.in-Some.ensures).3

pub loop-next-preserved : goal.loop-next-preserved
loop-next-preserved c =
    let on = step _ _ _ _ _ _ _ _ c.loop-next.invariant.slot c.loop-next.invariant.leads c.in-Some.ensures in
    record {
      slot = on.0;
      leads = on.1;
      others = λ k apart. keeps_twice _ _ _ k (c.loop-next.invariant.others k apart) (on.2 k apart);
    }

pub returns : goal.returns
returns c =
    let done = last_step _ _ _ _ _ _ _ c.loop-next.invariant.slot c.loop-next.invariant.leads refl c.in_default.ensures in
    record {
      slot = done.0;
      posts = done.1;
      others = λ k apart. keeps_twice _ _ _ k (c.loop-next.invariant.others k apart) (done.2 k apart);
    }
