use Rattle.std.proofs.Common.{◌^◌, All, Bor, map, sym, subst}
use Rattle.std.proofs.lemmas.List.Sorted.{All-permutation}
use Rattle.slack_base.specs.Images.{IsInMemory}
use Rattle.slack_base.specs.declared.images.Segment.{Segment}
use Rattle.stat_report.proofs.Order.{All-from_map}
use Rattle.stat_report.proofs.listings.listing.Goals as goal

pub push_segments-requires : goal.push_segments-requires
push_segments-requires c =
    let given = subst (All (IsInMemory 0 (2 ^ 32))) (sym c.as_slice.ensures) c.requires.segments in
    let ordered = All-permutation (IsInMemory 0 (2 ^ 32)) _ _ c.in_ok-order.ensures.permuted given in
    All-from_map (IsInMemory 0 (2 ^ 32)) (λ (s : Bor Segment). s.now) _ (subst (λ xs. All (IsInMemory 0 (2 ^ 32)) (map (λ (s : Bor Segment). s.now) xs)) (sym c.as_slice-2.ensures.value) ordered)
