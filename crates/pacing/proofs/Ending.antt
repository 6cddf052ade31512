-- What pieces leave at the end, seen whole: a drift to a proper state.
use Rattle.std.proofs.Common.{◌≡◌, ◌∙◌, ℕ, ◌+◌, ◌-◌, ◌≤◌, ◌==◌, min, List, [], ◌∷◌, map, length, suc, IsTrue, refl, sym, ap, subst, arith}
use Rattle.std.specs.List.{AllByRecursion as Each}
use Rattle.std.proofs.lemmas.List.Elements.{All-from_recursion}
use Rattle.slack_base.specs.declared.bounds.TheConstants.{TOP}
use Rattle.slack_base.specs.declared.histories.Drift.{Drift}
use Rattle.slack_base.specs.declared.histories.Taken.{Taken}
use Rattle.slack_base.specs.declared.messages.Ask.{Ask}
use Rattle.slack_base.specs.declared.messages.Post.{Post}
use Rattle.slack_base.specs.Inboxes.{CoreValue}
use Rattle.target_law.specs.Alone.{Alone}
use Rattle.target_law.specs.Cycles.{StateValue, through}
use Rattle.target_law.specs.Drifts.{IsPartOf, IsDrift, asks_by, posts_to}
use Rattle.target_law.specs.Laws.{Laws}
use Rattle.target_law.specs.Numbered.{AllNumberedTriples}
use Rattle.target_law.specs.Proper.{IsPostTo, IsProper}
use Rattle.target_law.specs.Rules.{Rules, Owns}
use Rattle.target_law.proofs.Lists.{each_weaker, each_passes}
use Rattle.target_law.proofs.Numbers.{eq_of}
use Rattle.target_law.proofs.Serving.{after_ask}
use Rattle.violation_watch.proofs.Lists.{each_both, each_filter}
use Rattle.violation_watch.proofs.Quiet.{each_of_map}
use Rattle.drive_script.proofs.Places.{Along}
use Rattle.pacing.specs.Laws.{IsProperDrift}
use Rattle.pacing.specs.Open.{IsOpen}
use Rattle.pacing.specs.Pieces.{LaneValue, UnderwayValue, begun, history, pieced, closed, IsPiece, ByPieces, ended, piece, IsPieces}
use Rattle.pacing.proofs.Drifting.{IsLaneUnderway, IsUnderway, underway_begun, underway_piece}
use Rattle.pacing.proofs.Opened.{posts_proper, open_begun, open_piece, closed_proper}

module _ {Inner Chan : Type 0} (rules : Rules Inner Chan) where
  clock-pieced : (k : ℕ) (asks : List Ask) (w : UnderwayValue Inner Chan) → (pieced rules k asks w).clock ≡ w.clock + k
  unfolding pieced
  clock-pieced k asks w = refl

  pub clock_piece : (k : ℕ) (w v : UnderwayValue Inner Chan) → IsPiece rules k w v → v.clock ≡ w.clock + k
  clock_piece k w v is = ap (λ (u : UnderwayValue Inner Chan). u.clock) is.after ∙ clock-pieced k is.asks w

  pub length-clashes : (chans : List Chan) (asks : List Ask) → length (through rules chans asks).clashes ≡ length asks
  length-clashes chans [] = refl
  length-clashes chans (x ∷ asks) = ap suc (length-clashes (after_ask rules x chans) asks)

  -- as they were gone through
  pub pieces_of : (s : StateValue Inner Chan) (quantum k : ℕ) (w last : UnderwayValue Inner Chan) (d : Drift) (e : StateValue Inner Chan)
      → w ≡ begun s → ByPieces rules quantum (s.clock + k) w last → d ≡ history s.clock k last → e ≡ closed rules last → IsPieces rules quantum k s d e
  pieces_of s quantum k w last d e first pieces drift end = record { last = last; pieces = subst (λ u. ByPieces rules quantum (s.clock + k) u last) first pieces; drift = drift; end = end }

module _ {Inner Chan : Type 0} (rules : Rules Inner Chan) (owns : Owns Inner Chan) (laws : Laws rules owns) (s : StateValue Inner Chan) where
  -- at the end clock
  pub record IsLast (end : ℕ) (w : UnderwayValue Inner Chan) : Type 0 where
    pub clock : w.clock ≡ end
    pub here : IsOpen rules owns w
    pub under : IsUnderway rules s w

  last_of : (quantum end : ℕ) (w e : UnderwayValue Inner Chan) → end ≤ TOP → IsOpen rules owns w → IsUnderway rules s w → ByPieces rules quantum end w e → IsLast end e
  last_of quantum end w _ top here under (ended at) = record { clock = at; here = here; under = under }
  last_of quantum end w _ top here under (piece {v = v} {e = e} low is rest) =
      let k = min quantum (end - w.clock) in
      let within : w.clock + k ≤ TOP = omega arith in
      last_of quantum end v e top (open_piece rules owns laws k w v within here is) (underway_piece rules owns laws s k w v within here is under) rest

  module _ (k : ℕ) (start : IsProper rules owns s) (w : UnderwayValue Inner Chan) (last : IsLast (s.clock + k) w) where
    abbrev sent : List Post
    sent = (through rules s.chans w.served).posts

    to_core : (c : ℕ) → Each (IsPostTo rules c) (posts_to c sent)
    to_core c =
        each_weaker (λ p both. record { proper = both.0; to = eq_of p.to c both.1 }) (posts_to c sent)
        (each_both (λ p. IsTrue (rules.is_proper_post p)) (λ p. IsTrue (p.to == c)) (posts_to c sent)
        (each_filter (λ p. p.to == c) (λ p. IsTrue (rules.is_proper_post p)) sent (posts_proper rules owns laws s.chans w.served start.chans last.under.proper)) (each_passes (λ p. p.to == c) sent))

    part : (c : ℕ) (first : CoreValue Inner) (lane : LaneValue Inner) → IsLaneUnderway rules s.clock w.clock w.served sent c first lane
        → IsPartOf rules s (history s.clock k w) c first lane.taken lane.core
    part c first lane h =
        let at = h.at in
        let clock = last.clock in
        let whole : h.count ≡ k = omega arith in
        record {
          alone = subst (λ n. Alone rules first s.clock n lane.taken lane.core (asks_by c w.served)) whole h.alone;
          received = h.received;
          proper = All-from_recursion (λ x. IsPostTo rules c x.post) lane.taken
              (each_of_map (IsPostTo rules c) (λ (x : Taken). x.post) lane.taken (subst (Each (IsPostTo rules c)) (sym h.received) (to_core c)));
        }

    parts : (n : ℕ) (firsts : List (CoreValue Inner)) (lanes : List (LaneValue Inner)) → Along (IsLaneUnderway rules s.clock w.clock w.served sent) n firsts lanes
        → AllNumberedTriples (IsPartOf rules s (history s.clock k w)) n firsts (map (λ lane. lane.taken) lanes) (map (λ lane. lane.core) lanes)
    parts n [] [] h = tt
    parts n [] (lane ∷ lanes) h = absurd h
    parts n (first ∷ firsts) [] h = absurd h
    parts n (first ∷ firsts) (lane ∷ lanes) h = (part n first lane h.0, parts (n + 1) firsts lanes h.1)

    drifts : IsDrift rules s (history s.clock k w) (closed rules w)
    drifts = record {
      start = refl;
      proper = All-from_recursion _ w.served last.under.proper;
      clashes = last.under.clashes;
      cores = parts 0 s.cores w.lanes last.under.lanes;
      clock = last.clock;
      chans = ap (map rules.close) last.under.chans;
    }

  pub last_pieces : (quantum k : ℕ) (d : Drift) (e : StateValue Inner Chan) → IsProper rules owns s → s.clock + k ≤ TOP → (is : IsPieces rules quantum k s d e) → IsLast (s.clock + k) is.last
  last_pieces quantum k d e start top is = last_of quantum (s.clock + k) (begun s) is.last top (open_begun rules owns laws s start) (underway_begun rules s) is.pieces

  pub pieces_drift : (quantum k : ℕ) (d : Drift) (e : StateValue Inner Chan) → IsProper rules owns s → s.clock + k ≤ TOP → IsPieces rules quantum k s d e → IsProperDrift rules owns s d e
  pieces_drift quantum k d e start top is =
      let last = last_pieces quantum k d e start top is in
      record {
        drift = subst (λ x. IsDrift rules s x e) (sym is.drift) (subst (λ x. IsDrift rules s (history s.clock k is.last) x) (sym is.end) (drifts k start is.last last));
        proper = subst (IsProper rules owns) (sym is.end) (closed_proper rules owns laws is.last last.here);
      }

  -- as the scan wants it
  pub clash_each : (d : Drift) (e : StateValue Inner Chan) → IsDrift rules s d e → length d.clashes ≡ length d.served
  clash_each d e is = ap length is.clashes ∙ length-clashes rules s.chans d.served
