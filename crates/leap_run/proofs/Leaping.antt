-- A leap is a drift in one piece of which the monitors record nothing, and so as many cycles.
use Rattle.std.proofs.Common.{◌≡◌, ◌∙◌, ℕ, ◌+◌, zero, suc, List, [], ◌∷◌, ◌++◌, map, refl, sym, ap, subst, arith}
use Rattle.std.specs.List.Sorted.{IsPermutation}
use Rattle.slack_base.specs.declared.messages.Ask.{Ask}
use Rattle.slack_base.specs.declared.messages.Post.{Post}
use Rattle.slack_base.specs.Inboxes.{CoreValue, with_put}
use Rattle.target_law.specs.Cycles.{StateValue, ticks_of, through, delivered, changed_at}
use Rattle.target_law.specs.Laws.{Laws}
use Rattle.target_law.specs.Rules.{Rules, Owns}
use Rattle.violation_watch.proofs.Join.{complete}
use Rattle.pacing.specs.Pieces.{LaneValue, begun, lane_begun, lane_ticked, lane_taking, all_taking, asks_through, pieced, history, closed, IsPiece}
use Rattle.pacing.proofs.Ending.{clock_piece, pieces_drift}
use Rattle.pacing.proofs.Quiet.{in_one, one_quiet}
use Rattle.leap_run.specs.Laws.{AllLeaps}
use Rattle.leap_run.specs.Leaps.{advanced, asks_in, leapt}

module _ {Inner Chan : Type 0} (rules : Rules Inner Chan) where
  abbrev core_of : LaneValue Inner → CoreValue Inner
  core_of lane = lane.core

  -- the lanes of cores, ticked
  lanes_cores : (t k : ℕ) (cores : List (CoreValue Inner)) → map core_of (map (λ lane. (lane_ticked rules t k lane).0) (map lane_begun cores)) ≡ advanced rules t k cores
  lanes_cores t k [] = refl
  lanes_cores t k (core ∷ cores) = ap (λ xs. (ticks_of rules t k core).0 ∷ xs) (lanes_cores t k cores)

  pub lanes_asks : (t k : ℕ) (cores : List (CoreValue Inner)) → asks_through rules t k (map lane_begun cores) ≡ asks_in rules t k cores
  lanes_asks t k [] = refl
  lanes_asks t k (core ∷ cores) = ap (λ xs. (ticks_of rules t k core).1 ++ xs) (lanes_asks t k cores)

  -- a post is taken
  one_taken : (t : ℕ) (p : Post) (n : ℕ) (lanes : List (LaneValue Inner)) → map core_of (changed_at n (lane_taking rules t p) lanes) ≡ changed_at n (with_put p) (map core_of lanes)
  one_taken t p n [] = refl
  one_taken t p zero (lane ∷ lanes) = refl
  one_taken t p (suc n) (lane ∷ lanes) = ap (λ xs. lane.core ∷ xs) (one_taken t p n lanes)

  all_taken : (t : ℕ) (lanes : List (LaneValue Inner)) (posts : List Post) → map core_of (all_taking rules t lanes posts) ≡ delivered (map core_of lanes) posts
  all_taken t lanes [] = refl
  all_taken t lanes (p ∷ posts) = all_taken t (changed_at p.to (lane_taking rules t p) lanes) posts ∙ ap (λ cores. delivered cores posts) (one_taken t p p.to lanes)

  -- the end of a drift in one piece
  closed_leap : (k : ℕ) (s : StateValue Inner Chan) (asks : List Ask) → closed rules (pieced rules k asks (begun s)) ≡ leapt rules k asks s
  unfolding pieced leapt
  closed_leap k s asks =
      let out = through rules s.chans asks in
      let lanes = map (λ (lane : LaneValue Inner). (lane_ticked rules s.clock k lane).0) (map lane_begun s.cores) in
      let cores : map core_of (all_taking rules (s.clock + k) lanes out.posts) ≡ delivered (advanced rules s.clock k s.cores) out.posts =
      all_taken (s.clock + k) lanes out.posts ∙ ap (λ cores. delivered cores out.posts) (lanes_cores s.clock k s.cores) in
      λ i. record { clock = s.clock + k; cores = cores i; chans = map rules.close out.chans }

  module _ (owns : Owns Inner Chan) (laws : Laws rules owns) where
    pub all_leaps : AllLeaps rules owns
    all_leaps k s asks some start top are =
        let w = pieced rules k asks (begun s) in
        let one : IsPiece rules k (begun s) w = record {
          asks = asks;
          sent = subst (λ xs. IsPermutation xs asks) (sym (lanes_asks s.clock k s.cores)) are.sent;
          rising = are.rising;
          after = refl;
        } in
        let drift = pieces_drift rules owns laws s k k (history s.clock k w) (closed rules w) start top (in_one rules owns laws k s w some one) in
        let at = clock_piece rules k (begun s) w one in
        let quiet = one_quiet rules owns laws k s w some start top one are.soon in
        sym (closed_leap k s asks) ∙ (complete rules owns laws s (history s.clock k w) (closed rules w) start drift.drift (omega arith) quiet).end
