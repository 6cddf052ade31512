-- Short pieces: asks are served in the order of their ids and posts are taken in time, so the monitors record nothing.
use Rattle.std.proofs.Common.{◌≡◌, ◌∙◌, ℕ, ◌+◌, ◌-◌, ◌<◌, ◌≤◌, ◌==◌, ◌&&◌, not, nat_lt, false, cond, min, List, [], ◌∷◌, ◌++◌, map, Option, Some, None, refl, sym, ap, subst, arith, append_assoc}
use Rattle.std.specs.List.{flat_map, AllByRecursion as Each}
use Rattle.std.proofs.lemmas.Bool.Decides.{nat_tests}
use Rattle.slack_base.specs.declared.bounds.TheConstants.{TOP}
use Rattle.slack_base.specs.declared.histories.Drift.{Drift}
use Rattle.slack_base.specs.declared.histories.Taken.{Taken}
use Rattle.slack_base.specs.declared.messages.Ask.{Ask}
use Rattle.slack_base.specs.declared.stamps.Id.{Id}
use Rattle.slack_base.specs.Messages.{id_of, line_of}
use Rattle.slack_base.specs.Stamps.{is_above}
use Rattle.target_law.specs.Cycles.{StateValue, seen_at, through}
use Rattle.target_law.specs.Laws.{Laws}
use Rattle.target_law.specs.Numbered.{AllNumbered}
use Rattle.target_law.specs.Proper.{IsProper, IsProperAsk, IsChanOf}
use Rattle.target_law.specs.Rules.{Rules, Owns}
use Rattle.target_law.specs.Served.{AreRising, IsAbove, Pairwise}
use Rattle.target_law.proofs.Ids.{later_above}
use Rattle.target_law.proofs.Lists.{each_weaker, each_append, each_passes, filter_none, pairwise_append, numbered_weaker, numbered_map, numbered_any}
use Rattle.target_law.proofs.Numbers.{eq_of}
use Rattle.target_law.proofs.Places.{numbered_seen}
use Rattle.target_law.proofs.Serving.{after_ask, through_posts}
use Rattle.violation_watch.specs.Scan.{greatest, asks_of_line, is_of_line, bus_entry, map_entry, map_entries, late_entry, is_harmless, take_entries, all_take_entries, serve_entries, all_serve_entries, scan_of}
use Rattle.violation_watch.proofs.Channels.{chan_of, asks_on, through-chans, through_chans-append}
use Rattle.violation_watch.proofs.Ids.{above_back}
use Rattle.violation_watch.proofs.Peel.{closed_all}
use Rattle.violation_watch.proofs.Lists.{each_filter, pairwise_last, numbered_both, numbered_map_from}
use Rattle.pacing.specs.Laws.{AllQuiet}
use Rattle.pacing.specs.Open.{IsOpen}
use Rattle.pacing.specs.Pieces.{LaneValue, UnderwayValue, begun, lane_begun, lane_ticked, pieced, history, closed, IsPiece, ByPieces, ended, piece, IsPieces}
use Rattle.pacing.proofs.Ending.{clock_piece, last_pieces}
use Rattle.pacing.proofs.Opened.{open_begun, open_piece, taking_keeps}
use Rattle.pacing.proofs.Shares.{IsAskFrom, served_asks}

each_map : {X Y : Type 0} (P : Y → Type 0) (f : X → Y) (xs : List X) → Each (λ x. P (f x)) xs → Each P (map f xs)
each_map P f [] h = tt
each_map P f (x ∷ xs) h = (h.0, each_map P f xs h.1)

each_part : {X : Type 0} (P : X → Type 0) (xs ys : List X) → Each P (xs ++ ys) → Each P xs
each_part P [] ys h = tt
each_part P (x ∷ xs) ys h = (h.0, each_part P xs ys h.1)

each_here : {X : Type 0} (P : X → Type 0) (xs : List X) (y : X) (ys : List X) → Each P (xs ++ y ∷ ys) → P y
each_here P [] y ys h = h.0
each_here P (x ∷ xs) y ys h = each_here P xs y ys h.1

pairwise_part : {X : Type 0} (R : X → X → Type 0) (xs ys : List X) → Pairwise R (xs ++ ys) → Pairwise R xs
pairwise_part R [] ys h = tt
pairwise_part R (x ∷ xs) ys h = (each_part (R x) xs ys h.0, pairwise_part R xs ys h.1)

in_time : (due clock : ℕ) → clock ≤ due → nat_lt due clock ≡ false
in_time due clock h = grind (arith, nat_tests)

-- no earlier ask of the line has a greater id
no_map : (earlier : List Ask) (low : Id) (o : Option ℕ) → Each (λ y. is_above (id_of y) low ≡ false) earlier → map_entries earlier low o ≡ []
no_map earlier low None h = refl
no_map earlier low (Some line) h =
    let own = asks_of_line line earlier in
    ap (map_entry line low)
    (ap greatest (filter_none (λ high. is_above high low) (map id_of own)
    (each_map (λ high. is_above high low ≡ false) id_of own (each_filter (λ ask. is_of_line line (line_of ask)) (λ y. is_above (id_of y) low ≡ false) earlier h))))

-- no post was taken late
no_take : (c end : ℕ) (taken : List Taken) → Each (λ x. x.clock ≤ x.post.due) taken → flat_map (take_entries c end) taken ≡ []
no_take c end [] h = refl
no_take c end (x ∷ taken) h =
    ap (λ b. cond (b && not (is_harmless end x)) (late_entry c x.post x.clock x.post.kind ∷ []) [] ++ flat_map (take_entries c end) taken) (in_time x.post.due x.clock h.0)
    ∙ no_take c end taken h.1

module _ {Inner : Type 0} where
  -- what the core took, it took in time
  abbrev pub IsInTime : LaneValue Inner → Type 0
  IsInTime lane = Each (λ x. x.clock ≤ x.post.due) lane.taken

  no_takes : (c end n : ℕ) (lanes : List (LaneValue Inner)) → AllNumbered (λ place lane. IsInTime lane) n lanes → all_take_entries c end (map (λ lane. lane.taken) lanes) ≡ []
  no_takes c end n [] h = refl
  no_takes c end n (lane ∷ lanes) h =
      ap (λ vs. vs ++ all_take_entries (c + 1) end (map (λ (lane : LaneValue Inner). lane.taken) lanes)) (no_take c end lane.taken h.0)
      ∙ no_takes (c + 1) end (n + 1) lanes h.1

module _ {Inner Chan : Type 0} (rules : Rules Inner Chan) (owns : Owns Inner Chan) (laws : Laws rules owns) where
  module _ (chans : List Chan) (are : AllNumbered (IsChanOf rules owns) 0 chans) (closed : AllNumbered (λ j chan. rules.close chan ≡ chan) 0 chans) where
    -- an ask above all that were served clashes with none
    no_clash : (earlier : List Ask) (x : Ask) → Each (IsProperAsk rules) earlier → AreRising earlier → IsProperAsk rules x → Each (λ y. IsAbove x y) earlier
        → seen_at (rules.channel_of x) (λ chan. rules.clash chan x) None (through rules chans earlier).chans ≡ None
    unfolding chan_of
    no_clash earlier x proper rising own above =
        let place = rules.channel_of x in
        let p = λ (ask : Ask). rules.channel_of ask == place in
        let mine = asks_on rules place earlier in
        numbered_seen (λ chan. rules.clash chan x) None (λ o. o ≡ None) (λ j chan. j ≡ place → rules.clash chan x ≡ None) 0 place (through rules chans earlier).chans refl
        (λ j chan at free. free (let here : j ≡ place = omega arith in here))
        (subst (AllNumbered (λ j chan. j ≡ place → rules.clash chan x ≡ None) 0) (sym (through-chans rules chans earlier))
        (numbered_map_from (λ j chan. j ≡ place → rules.clash chan x ≡ None) (chan_of rules earlier) 0 chans
        (numbered_weaker (λ j chan both at.
        ap (λ n. rules.clash (chan_of rules earlier n chan) x) at
        ∙ (laws.reopens chan mine x (record {
          since = record {
            own = subst (λ n. IsChanOf rules owns n chan) at both.0;
            closed = both.1;
            proper = each_filter p (IsProperAsk rules) earlier proper;
            here = each_weaker (λ y e. eq_of (rules.channel_of y) place e) mine (each_passes p earlier);
          };
          proper = own;
          above = each_filter p (λ y. IsAbove x y) earlier above;
        })).free) 0 chans
        (numbered_both (IsChanOf rules owns) (λ j chan. rules.close chan ≡ chan) 0 chans are closed))))

    no_serve : (earlier asks : List Ask) → Each (IsProperAsk rules) (earlier ++ asks) → AreRising (earlier ++ asks)
        → all_serve_entries rules earlier (through rules (through rules chans earlier).chans asks).clashes asks ≡ []
    no_serve earlier [] proper rising = refl
    no_serve earlier (x ∷ asks) proper rising =
        let here = (through rules chans earlier).chans in
        let rest = (through rules (after_ask rules x here) asks).clashes in
        let before = earlier ++ x ∷ [] in
        let above = pairwise_last (λ y z. IsAbove z y) earlier x asks rising in
        let free = no_clash earlier x (each_part (IsProperAsk rules) earlier (x ∷ asks) proper) (pairwise_part (λ y z. IsAbove z y) earlier (x ∷ asks) rising) (each_here (IsProperAsk rules) earlier x asks proper) above in
        let lines = no_map earlier (id_of x) (line_of x) (each_weaker (λ y up. above_back (id_of x) (id_of y) up) earlier above) in
        let one : serve_entries rules earlier (seen_at (rules.channel_of x) (λ chan. rules.clash chan x) None here) x ≡ [] =
        ap (λ o. bus_entry (rules.channel_of x) (id_of x) o ++ map_entries earlier (id_of x) (line_of x)) free ∙ lines in
        let regroup : before ++ asks ≡ earlier ++ x ∷ asks = append_assoc earlier (x ∷ []) asks in
        let next : (through rules chans before).chans ≡ after_ask rules x here = through_chans-append rules chans earlier (x ∷ []) in
        ap (λ vs. vs ++ all_serve_entries rules before rest asks) one
        ∙ ap (λ chans. all_serve_entries rules before (through rules chans asks).clashes asks) (sym next)
        ∙ no_serve before asks (subst (Each (IsProperAsk rules)) (sym regroup) proper) (subst AreRising (sym regroup) rising)

  -- so far all went in order and in time
  record IsOrderly (w : UnderwayValue Inner Chan) : Type 0 where
    rising : AreRising w.served
    earlier : Each (λ x. (id_of x).cycle < w.clock) w.served
    timely : AllNumbered (λ place lane. IsInTime lane) 0 w.lanes

  orderly_begun : (s : StateValue Inner Chan) → IsOrderly (begun s)
  orderly_begun s = record { rising = tt; earlier = tt; timely = numbered_map (λ place lane. IsInTime lane) lane_begun 0 s.cores (numbered_any 0 (λ c core low. tt) s.cores) }

  -- the ask is sent so late that its posts are not due before this clock
  abbrev pub IsSoon : (clock : ℕ) → Ask → Type 0
  IsSoon clock x = clock ≤ (id_of x).cycle + rules.lookahead

  orderly_pieced : (k : ℕ) (w : UnderwayValue Inner Chan) (asks : List Ask) → Each (IsSoon (w.clock + k)) asks → IsOpen rules owns w → Each (IsAskFrom rules owns laws w.clock (w.clock + k) 0) asks
      → AreRising asks → IsOrderly w → IsOrderly (pieced rules k asks w)
  unfolding pieced
  orderly_pieced k w asks soon here from rise is =
      let posts = (through rules w.chans asks).posts in
      record {
        rising =
            pairwise_append (λ x y. IsAbove y x) w.served asks is.rising rise
            (each_weaker (λ x old. each_weaker (λ y of. let low = of.low in later_above (id_of y) (id_of x) (omega arith)) asks from) w.served is.earlier);
        earlier = each_append (λ x. (id_of x).cycle < w.clock + k) w.served asks (each_weaker (λ x old. omega arith) w.served is.earlier) (each_weaker (λ x of. of.high) asks from);
        timely = taking_keeps rules (λ place lane. IsInTime lane) (λ p. w.clock + k ≤ p.due) (w.clock + k)
            (λ c lane p due to timely. each_append (λ x. x.clock ≤ x.post.due) lane.taken (_ ∷ []) timely (due, tt))
            (map (λ lane. (lane_ticked rules w.clock k lane).0) w.lanes) posts
            (through_posts rules owns laws (IsSoon (w.clock + k)) (λ p. w.clock + k ≤ p.due) (λ x p low of. let due = of.due in omega arith)
            w.chans asks here.chans (each_weaker (λ x of. of.proper) asks from) soon)
            (numbered_map (λ place lane. IsInTime lane) (λ lane. (lane_ticked rules w.clock k lane).0) 0 w.lanes is.timely);
      }

  orderly_last : (quantum end : ℕ) (w e : UnderwayValue Inner Chan) → end ≤ TOP → quantum ≤ rules.lookahead → IsOpen rules owns w → IsOrderly w → ByPieces rules quantum end w e → IsOrderly e
  orderly_last quantum end w _ top short here is (ended at) = is
  orderly_last quantum end w _ top short here is (piece {v = v} {e = e} low one rest) =
      let k = min quantum (end - w.clock) in
      let within : w.clock + k ≤ TOP = omega arith in
      let from = served_asks rules owns laws w.clock k (w.clock + k) refl within w.lanes here.lanes one.asks one.sent one.rising in
      let soon = each_weaker (λ x of. let low = of.low in omega arith) one.asks from in
      let next : IsOrderly v = subst IsOrderly (sym one.after) (orderly_pieced k w one.asks soon here from one.rising is) in
      orderly_last quantum end v e top short (open_piece rules owns laws k w v within here one) next rest

  -- where all went in order and in time, nothing is recorded
  quiet_end : (quantum k : ℕ) (s : StateValue Inner Chan) (d : Drift) (e : StateValue Inner Chan) → IsProper rules owns s → s.clock + k ≤ TOP → (is : IsPieces rules quantum k s d e)
      → IsOrderly is.last → scan_of rules d ≡ []
  quiet_end quantum k s d e start top is order =
      let last = last_pieces rules owns laws s quantum k d e start top is in
      let w = is.last in
      let asks : all_serve_entries rules [] w.clashes w.served ≡ [] =
      ap (λ hs. all_serve_entries rules [] hs w.served) last.under.clashes
      ∙ no_serve s.chans start.chans (closed_all rules owns laws s start) [] w.served last.under.proper order.rising in
      ap (scan_of rules) is.drift
      ∙ ap (λ vs. vs ++ all_take_entries 0 (s.clock + k) (map (λ lane. lane.taken) w.lanes)) asks
      ∙ no_takes 0 (s.clock + k) 0 w.lanes order.timely

  pub all_quiet : AllQuiet rules owns
  all_quiet quantum k s d e start top short is =
      quiet_end quantum k s d e start top is (orderly_last quantum (s.clock + k) (begun s) is.last top short (open_begun rules owns laws s start) (orderly_begun s) is.pieces)

  -- a drift in one piece
  pub in_one : (k : ℕ) (s : StateValue Inner Chan) (w : UnderwayValue Inner Chan) → 1 ≤ k → IsPiece rules k (begun s) w → IsPieces rules k k s (history s.clock k w) (closed rules w)
  in_one k s w some one =
      let whole : k ≡ min k (s.clock + k - s.clock) = omega arith in
      record {
        last = w;
        pieces = piece (omega arith) (subst (λ n. IsPiece rules n (begun s) w) whole one) (ended (clock_piece rules k (begun s) w one));
        drift = refl;
        end = refl;
      }

  -- the same of one piece, however long, whose asks are sent so late that their posts are taken in time
  pub one_quiet : (k : ℕ) (s : StateValue Inner Chan) (w : UnderwayValue Inner Chan) → 1 ≤ k → IsProper rules owns s → s.clock + k ≤ TOP → (one : IsPiece rules k (begun s) w)
      → Each (IsSoon (s.clock + k)) one.asks → scan_of rules (history s.clock k w) ≡ []
  unfolding in_one
  one_quiet k s w some start top one soon =
      let here = open_begun rules owns laws s start in
      let from = served_asks rules owns laws s.clock k (s.clock + k) refl top (begun s).lanes here.lanes one.asks one.sent one.rising in
      quiet_end k k s (history s.clock k w) (closed rules w) start top (in_one k s w some one)
      (subst IsOrderly (sym one.after) (orderly_pieced k (begun s) one.asks soon here from one.rising (orderly_begun s)))
