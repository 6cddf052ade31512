use Rattle.std.proofs.Common.{◌≡◌, ◌∙◌, ℕ, List, [], length, ap, sym, rules}
use Rattle.std.proofs.lemmas.List.{length-replicate}
use Rattle.mesi_cache.specs.declared.lines.CacheLine.{CacheLine}
use Rattle.mesi_cache.specs.Caches.{CacheValue}
use Rattle.timed_core.proofs.Flagging.{none-flagged}
use Rattle.timed_core.proofs.noted_sets.NotedSets.new.Goals as goal

abbrev nothing : List CacheLine
nothing = []

pub invariant_of-result : goal.invariant_of-result
invariant_of-result c =
    let cache = c.in_ok-cache.cache in
    let sets : length cache.sets ≡ c.args.sets =
    ap (λ (v : CacheValue). length v.sets) c.in_ok-cache.ensures ∙ length-replicate c.args.sets nothing in
    let touches : length c.in_ok-touches.touches.items ≡ length cache.sets =
    ap (λ (ts : List ℕ). length ts) (search rules) ∙ length-replicate c.args.sets 0 ∙ sym sets in
    (none-flagged c.in_ok-flags.flags.items c.args.sets (length cache.sets) cache.ways c.new-2.result.items (search rules) sets c.new-2.ensures.items, touches)
