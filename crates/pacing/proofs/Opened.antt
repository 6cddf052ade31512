-- A piece leaves the machine's cores and channels in their places.
use Rattle.std.proofs.Common.{◌≡◌, ◌∙◌, ℕ, ◌+◌, ◌≤◌, List, [], ◌∷◌, map, length, sym, refl, subst, arith}
use Rattle.std.specs.List.{All, AllByRecursion as Each}
use Rattle.std.proofs.lemmas.List.{length-map}
use Rattle.std.proofs.lemmas.List.Elements.{All-nil, All-cons}
use Rattle.slack_base.specs.declared.bounds.TheConstants.{TOP}
use Rattle.slack_base.specs.declared.messages.Ask.{Ask}
use Rattle.slack_base.specs.declared.messages.Post.{Post}
use Rattle.slack_base.proofs.Inboxes.{all_with_post}
use Rattle.target_law.specs.Cycles.{StateValue, changed_at, through}
use Rattle.target_law.specs.Laws.{Laws}
use Rattle.target_law.specs.Numbered.{AllNumbered}
use Rattle.target_law.specs.Proper.{IsProperAsk, IsProperPost, IsPostTo, IsCoreOf, IsChanOf, IsProper}
use Rattle.target_law.specs.Rules.{Rules, Owns}
use Rattle.target_law.proofs.Lists.{numbered_weaker, numbered_map}
use Rattle.target_law.proofs.Places.{length-changed, numbered_changed}
use Rattle.target_law.proofs.Serving.{length-through, through_are, through_posts}
use Rattle.pacing.specs.Open.{IsLaneOf, IsOpen}
use Rattle.pacing.specs.Pieces.{LaneValue, UnderwayValue, lane_begun, begun, lane_ticked, lane_taking, all_taking, pieced, IsPiece, closed}
use Rattle.pacing.proofs.Shares.{served_proper}
use Rattle.target_law.proofs.Ticking.{ticks_core}

module _ {Inner Chan : Type 0} (rules : Rules Inner Chan) where
  pub length-taking : (clock : ℕ) (lanes : List (LaneValue Inner)) (posts : List Post) → length (all_taking rules clock lanes posts) ≡ length lanes
  length-taking clock lanes [] = refl
  length-taking clock lanes (p ∷ posts) = length-taking clock (changed_at p.to (lane_taking rules clock p) lanes) posts ∙ length-changed (lane_taking rules clock p) p.to lanes

  -- what each taking keeps
  pub taking_keeps : (P : ℕ → LaneValue Inner → Type 0) (H : Post → Type 0) (clock : ℕ)
      → ((c : ℕ) (lane : LaneValue Inner) (p : Post) → H p → p.to ≡ c → P c lane → P c (lane_taking rules clock p lane))
      → (lanes : List (LaneValue Inner)) (posts : List Post) → Each H posts → AllNumbered P 0 lanes → AllNumbered P 0 (all_taking rules clock lanes posts)
  taking_keeps P H clock keeps lanes [] h are = are
  taking_keeps P H clock keeps lanes (p ∷ posts) h are =
      taking_keeps P H clock keeps (changed_at p.to (lane_taking rules clock p) lanes) posts h.1
      (numbered_changed (lane_taking rules clock p) P 0 p.to lanes (λ c lane e is. keeps c lane p h.0 (let at : p.to ≡ c = omega arith in at) is) are)

  module _ (owns : Owns Inner Chan) (laws : Laws rules owns) where
    pub posts_proper : (chans : List Chan) (asks : List Ask) → AllNumbered (IsChanOf rules owns) 0 chans → Each (IsProperAsk rules) asks → Each (IsProperPost rules) (through rules chans asks).posts
    posts_proper chans asks are proper =
        through_posts rules owns laws (IsProperAsk rules) (IsProperPost rules) (λ x p _ of. of.proper) chans asks are proper proper

    pub lane_takes : (clock c : ℕ) (lane : LaneValue Inner) (p : Post) → IsProperPost rules p → p.to ≡ c → IsLaneOf rules owns c lane → IsLaneOf rules owns c (lane_taking rules clock p lane)
    lane_takes clock c lane p proper to is = record {
      own = is.own;
      number = is.number;
      inbox = all_with_post (IsPostTo rules c) lane.core.inbox p is.inbox (record { proper = proper; to = to });
    }

    pub ticked_lanes : (t k : ℕ) (lanes : List (LaneValue Inner)) → t + k ≤ TOP → AllNumbered (IsLaneOf rules owns) 0 lanes
        → AllNumbered (IsLaneOf rules owns) 0 (map (λ lane. (lane_ticked rules t k lane).0) lanes)
    ticked_lanes t k lanes low are =
        numbered_map (IsLaneOf rules owns) (λ lane. (lane_ticked rules t k lane).0) 0 lanes
        (numbered_weaker (λ c lane is. ticks_core rules owns laws t k c lane.core low is) 0 lanes are)

    pub piece_asks : (k : ℕ) (w v : UnderwayValue Inner Chan) → w.clock + k ≤ TOP → IsOpen rules owns w → (is : IsPiece rules k w v) → Each (IsProperAsk rules) is.asks
    piece_asks k w v low here is = served_proper rules owns laws w.clock k (w.clock + k) refl low w.lanes here.lanes is.asks is.sent is.rising

    open_pieced : (k : ℕ) (w : UnderwayValue Inner Chan) (asks : List Ask) → w.clock + k ≤ TOP → IsOpen rules owns w → Each (IsProperAsk rules) asks → IsOpen rules owns (pieced rules k asks w)
    unfolding pieced
    open_pieced k w asks low is proper =
        let out = through rules w.chans asks in
        let lanes = map (λ (lane : LaneValue Inner). (lane_ticked rules w.clock k lane).0) w.lanes in
        record {
          clock = low;
          count = length-taking (w.clock + k) lanes out.posts ∙ length-map w.lanes (λ lane. (lane_ticked rules w.clock k lane).0) ∙ is.count;
          lanes = taking_keeps (IsLaneOf rules owns) (IsProperPost rules) (w.clock + k) (λ c lane p h to of. lane_takes (w.clock + k) c lane p h to of) lanes out.posts
              (posts_proper w.chans asks is.chans proper) (ticked_lanes w.clock k w.lanes low is.lanes);
          chan_count = length-through rules w.chans asks ∙ is.chan_count;
          chans = through_are rules owns laws w.chans asks is.chans proper;
        }

    pub open_piece : (k : ℕ) (w v : UnderwayValue Inner Chan) → w.clock + k ≤ TOP → IsOpen rules owns w → IsPiece rules k w v → IsOpen rules owns v
    open_piece k w v low here is = subst (IsOpen rules owns) (sym is.after) (open_pieced k w is.asks low here (piece_asks k w v low here is))

    pub open_begun : (s : StateValue Inner Chan) → IsProper rules owns s → IsOpen rules owns (begun s)
    open_begun s is = record {
      clock = is.clock;
      count = length-map s.cores lane_begun ∙ is.core_count;
      lanes = numbered_map (IsLaneOf rules owns) lane_begun 0 s.cores is.cores;
      chan_count = is.chan_count;
      chans = is.chans;
    }

    closed_are : (n : ℕ) (chans : List Chan) → AllNumbered (IsChanOf rules owns) n chans → All (λ chan. rules.close chan ≡ chan) (map rules.close chans)
    closed_are n [] all = All-nil (λ chan. rules.close chan ≡ chan)
    closed_are n (chan ∷ chans) all =
        All-cons (λ chan. rules.close chan ≡ chan) (rules.close chan) (map rules.close chans) (laws.closes_once n chan all.0) (closed_are (n + 1) chans all.1)

    pub closed_proper : (w : UnderwayValue Inner Chan) → IsOpen rules owns w → IsProper rules owns (closed rules w)
    closed_proper w is = record {
      clock = is.clock;
      core_count = length-map w.lanes (λ lane. lane.core) ∙ is.count;
      cores = numbered_map (IsCoreOf rules owns) (λ lane. lane.core) 0 w.lanes is.lanes;
      chan_count = length-map w.chans rules.close ∙ is.chan_count;
      chans = numbered_map (IsChanOf rules owns) rules.close 0 w.chans (numbered_weaker (λ j chan k. laws.closes j chan k) 0 w.chans is.chans);
      closed = closed_are 0 w.chans is.chans;
    }
