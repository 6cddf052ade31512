use Rattle.std.proofs.Common.{◌≡◌, ◌++◌, [], All, map}
use Rattle.manager.specs.declared.managers.Desk.{Desk}
use Rattle.manager.proofs.managers.desks_of.Given as goal

-- the desks so far have the first ends, and the others are left
abbrev pub invariant-loop-asks : goal.invariant-loop-asks
invariant-loop-asks l = record {
  receivers : map (λ (desk : Desk). desk.asks) l.desks.items ++ l.asks-iterator.a.rest.items ≡ l.fn.receivers.items;
  senders : map (λ (desk : Desk). desk.posts) l.desks.items ++ l.asks-iterator.b.rest.items ≡ l.fn.senders.items;
  pending : All (λ (desk : Desk). desk.pending.items ≡ []) l.desks.items;
}
