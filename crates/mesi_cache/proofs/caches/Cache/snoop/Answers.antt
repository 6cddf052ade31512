use Rattle.std.proofs.Common.{◌≡◌, ◌%◌, length, rules}
use Rattle.mesi_cache.proofs.CacheSteps.{its_set, after_snoop}
use Rattle.mesi_cache.proofs.caches.Cache.snoop.Goals as goal

pub snoop-requires : goal.snoop-requires
snoop-requires c =
    let here : c.set_number-number.result ≡ c.args.line % length c.self.inside.sets.items = search rules in
    record { once = (its_set _ c.self.invariant c.args.line _ here _ c.index_mut-set.ensures.value).once c.args.line }

pub invariant_of-self : goal.invariant_of-self
invariant_of-self c =
    let here : c.set_number-number.result ≡ c.args.line % length c.self.inside.sets.items = search rules in
    after_snoop _ c.self.invariant c.args.line _ here _ c.index_mut-set.ensures.value c.args.own _ c.snoop.ensures.after
