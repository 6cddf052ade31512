use Rattle.std.proofs.Common.{◌≡◌, ◌%◌, length, refl, rules}
use Rattle.mesi_cache.proofs.CacheSteps.{its_set, after_fill}
use Rattle.mesi_cache.proofs.caches.Cache.fill.Goals as goal

pub fill-requires-clause-within : goal.fill-requires-clause-within
fill-requires-clause-within c =
    let here : c.set_number-number.result ≡ c.args.line % length c.self.inside.sets.items = search rules in
    (its_set _ c.self.invariant c.args.line _ here _ c.index_mut-set.ensures.value).within

pub fill-requires-clause-once : goal.fill-requires-clause-once
fill-requires-clause-once c =
    let here : c.set_number-number.result ≡ c.args.line % length c.self.inside.sets.items = search rules in
    (its_set _ c.self.invariant c.args.line _ here _ c.index_mut-set.ensures.value).once c.args.line

pub invariant_of-self : goal.invariant_of-self
invariant_of-self c =
    let here : c.set_number-number.result ≡ c.args.line % length c.self.inside.sets.items = search rules in
    after_fill _ c.self.invariant c.args.line _ here _ c.index_mut-set.ensures.value (record { line = c.args.line; held = c.if-exclusive.held; words = c.args.words }) refl _ c.fill.ensures.after
