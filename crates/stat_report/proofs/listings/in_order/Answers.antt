use Rattle.std.proofs.Common.{◌≡◌, List, Bor, map, subst, rules}
use Rattle.std.proofs.lemmas.Iterator.{YieldsList-from_slice}
use Rattle.std.proofs.lemmas.Iterator.Consumers.{map_from_collect}
use Rattle.std.proofs.lemmas.List.Sorted.{IsPermutation-map, IsNonDecreasingBy-from_sort_by_key}
use Rattle.std.proofs.lemmas.Result.{IfOk-at_ok}
use Rattle.std.specs.List.Sorted.{IsPermutation}
use Rattle.slack_base.specs.declared.images.Segment.{Segment}
use Rattle.stat_report.proofs.Order.{IsNonDecreasingBy-map}
use Rattle.stat_report.proofs.listings.in_order.Goals as goal

pub returns : goal.returns
returns c =
    let collected : map (λ (s : Bor Segment). s.now) c.in_ok-order.order.items ≡ c.args.segments.now = IfOk-at_ok _ c.in_ok-order.was (map_from_collect _ c.collect.ensures.ran (YieldsList-from_slice c.args.segments.now cc)) in
    record {
      permuted = subst (λ (xs : List Segment). IsPermutation xs (map (λ (s : Bor Segment). s.now) c.sort_by_key.new.self.items)) collected (IsPermutation-map (λ (s : Bor Segment). s.now) _ _ c.in_ok-sort_by_key.ensures.permutation);
      sorted =
          IsNonDecreasingBy-map (λ (s : Bor Segment). s.now) (λ s. s.address) _
          (IsNonDecreasingBy-from_sort_by_key (λ (s : Bor Segment). s.now.address) _ c.in_ok-sort_by_key.ensures.sorted (λ a r q k. search rules));
    }
