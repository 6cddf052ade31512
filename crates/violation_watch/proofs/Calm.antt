-- Asks of a channel that clash with nothing do what they do in the order of their ids.
use Rattle.std.proofs.Common.{◌≡◌, ◌≢◌, ◌∙◌, ℕ, ◌+◌, ◌==◌, List, [], ◌∷◌, ◌++◌, true, false, None, refl, sym, ap, subst, arith, append_assoc}
use Rattle.std.specs.List.{AllByRecursion as Each}
use Rattle.std.proofs.lemmas.List.{append-nil}
use Rattle.std.proofs.lemmas.List.Elements.{filter-append}
use Rattle.slack_base.specs.declared.messages.Ask.{Ask}
use Rattle.slack_base.specs.declared.messages.Post.{Post}
use Rattle.slack_base.specs.Messages.{id_of, line_of}
use Rattle.slack_base.specs.Stamps.{is_above}
use Rattle.target_law.specs.Cycles.{seen_at, through}
use Rattle.target_law.specs.Laws.{Laws, AreSinceClosed, IsCommuting}
use Rattle.target_law.specs.Numbered.{AllNumbered}
use Rattle.target_law.specs.Proper.{IsProperAsk, IsChanOf}
use Rattle.target_law.specs.Rules.{Rules, Owns}
use Rattle.target_law.specs.Served.{AreRising, inserted, IsLineInTurn, served_all, Perm, none, more, join}
use Rattle.target_law.proofs.Lists.{each_weaker, each_any, each_passes, numbered_any, filter-yes, filter-no}
use Rattle.target_law.proofs.Numbers.{eq_is, eq_is_not, eq_of}
use Rattle.target_law.proofs.Serving.{after_ask}
use Rattle.violation_watch.specs.Scan.{bus_entry, map_entries, serve_entries, all_serve_entries}
use Rattle.violation_watch.proofs.Channels.{asks_on, HasSameEffect, AreDistinct}
use Rattle.violation_watch.proofs.Ids.{same_id, above_trans}
use Rattle.violation_watch.proofs.Lists.{each_filter, pairwise_filter}
use Rattle.violation_watch.proofs.Perms.{perm_of, perm_before, perm_middle, perm_back, perm_each}
use Rattle.violation_watch.proofs.Places.{numbered_before}
use Rattle.violation_watch.proofs.Quiet.{nothing_left, nothing_right, no_bus_entry, quiet_line}
use Rattle.violation_watch.proofs.Sorting.{sorted, sorted_onto, insert_case, insert_each, insert_perm, filter-sorted_onto}

pub above_other : (x y : Ask) → is_above (id_of y) (id_of x) ≡ false → id_of y ≢ id_of x → is_above (id_of x) (id_of y) ≡ true
above_other x y off differ =
    elim (is_above (id_of x) (id_of y)) as (λ b. is_above (id_of x) (id_of y) ≡ b → b ≡ true) [
      | true ↦ λ _. refl
      | false ↦ λ e. absurd (differ (same_id (id_of y) (id_of x) off e))
    ] refl

insert_rising : (x : Ask) (ys : List Ask) → Each (λ y. id_of y ≢ id_of x) ys → AreRising ys → AreRising (inserted x ys)
insert_rising x [] differ h = (tt, tt)
insert_rising x (y ∷ ys) differ h =
    insert_case x y ys AreRising
    (λ stops. ((stops, each_weaker (λ z k. above_trans (id_of z) (id_of y) (id_of x) k stops) ys h.0), h))
    (λ passes. (insert_each (λ z. is_above (id_of z) (id_of y) ≡ true) x ys (above_other x y passes differ.0) h.0, insert_rising x ys differ.1 h.1))

module _ {Inner Chan : Type 0} (rules : Rules Inner Chan) where
  pub served_all-append : (chan : Chan) (asks others : List Ask)
      → served_all rules chan (asks ++ others) ≡ ((served_all rules (served_all rules chan asks).0 others).0, (served_all rules chan asks).1 ++ (served_all rules (served_all rules chan asks).0 others).1)
  served_all-append chan [] others = refl
  served_all-append chan (x ∷ asks) others =
      let now = rules.serve chan x in
      let first = served_all rules now.0 asks in
      let rest = served_all rules first.0 others in
      ap (λ r. (r.0, now.1 ++ r.1)) (served_all-append now.0 asks others) ∙ ap (λ posts. (rest.0, posts)) (sym (append_assoc now.1 first.1 rest.1))

  -- each ask of a channel neither clashes nor comes after a greater one of its line
  abbrev pub AreCalm : Chan → (earlier : List Ask) → List Ask → Type 0
  AreCalm chan earlier [] = Unit {0}
  AreCalm chan earlier (x ∷ asks) = (rules.clash chan x ≡ None) × Each (λ y. IsLineInTurn y x) earlier × AreCalm (rules.serve chan x).0 (earlier ++ x ∷ []) asks

  own_more : (j : ℕ) (x : Ask) (earlier : List Ask) → j ≡ 0 + rules.channel_of x → asks_on rules j (earlier ++ x ∷ []) ≡ asks_on rules j earlier ++ x ∷ []
  own_more j x earlier e =
      filter-append (λ ask. rules.channel_of ask == j) earlier (x ∷ []) ∙ ap (λ xs. asks_on rules j earlier ++ xs) (filter-yes (λ ask. rules.channel_of ask == j) x [] (eq_is (rules.channel_of x) j (omega arith)))

  other_more : (j : ℕ) (x : Ask) (earlier : List Ask) → j ≢ 0 + rules.channel_of x → asks_on rules j (earlier ++ x ∷ []) ≡ asks_on rules j earlier
  other_more j x earlier e =
      filter-append (λ ask. rules.channel_of ask == j) earlier (x ∷ []) ∙ ap (λ xs. asks_on rules j earlier ++ xs) (filter-no (λ ask. rules.channel_of ask == j) x [] (eq_is_not (rules.channel_of x) j (λ same. e (omega arith))))
      ∙ append-nil (asks_on rules j earlier)

  -- nothing recorded of the asks: each channel is calm
  pub calm_all : (chans : List Chan) (earlier asks : List Ask) → all_serve_entries rules earlier (through rules chans asks).clashes asks ≡ []
      → AllNumbered (λ j chan. AreCalm chan (asks_on rules j earlier) (asks_on rules j asks)) 0 chans
  calm_all chans earlier [] h = numbered_any 0 (λ j chan l. tt) chans
  calm_all chans earlier (x ∷ asks) h =
      let clash = seen_at (rules.channel_of x) (λ chan. rules.clash chan x) None chans in
      let next = after_ask rules x chans in
      let here = nothing_left (serve_entries rules earlier clash x) (all_serve_entries rules (earlier ++ x ∷ []) (through rules next asks).clashes asks) h in
      let rest = nothing_right (serve_entries rules earlier clash x) (all_serve_entries rules (earlier ++ x ∷ []) (through rules next asks).clashes asks) h in
      let lines = quiet_line earlier (id_of x) (line_of x) (nothing_right (bus_entry (rules.channel_of x) (id_of x) clash) (map_entries earlier (id_of x) (line_of x)) here) in
      numbered_before (λ chan. (rules.serve chan x).0) (λ chan. rules.clash chan x)
      (λ j chan. AreCalm chan (asks_on rules j (earlier ++ x ∷ [])) (asks_on rules j asks))
      (λ j chan. AreCalm chan (asks_on rules j earlier) (asks_on rules j (x ∷ asks))) 0 (rules.channel_of x) chans
      (λ j chan e free calm.
      subst (AreCalm chan (asks_on rules j earlier)) (sym (filter-yes (λ ask. rules.channel_of ask == j) x asks (eq_is (rules.channel_of x) j (omega arith)))) (
        free,
        each_filter (λ ask. rules.channel_of ask == j) (λ y. IsLineInTurn y x) earlier lines,
        subst (λ before. AreCalm (rules.serve chan x).0 before (asks_on rules j asks)) (own_more j x earlier e) calm,
      ))
      (λ j chan e calm.
      subst (AreCalm chan (asks_on rules j earlier)) (sym (filter-no (λ ask. rules.channel_of ask == j) x asks (eq_is_not (rules.channel_of x) j (λ same. e (omega arith)))))
      (subst (λ before. AreCalm chan before (asks_on rules j asks)) (other_more j x earlier e) calm))
      (no_bus_entry (rules.channel_of x) (id_of x) clash (nothing_left (bus_entry (rules.channel_of x) (id_of x) clash) (map_entries earlier (id_of x) (line_of x)) here))
      (calm_all next (earlier ++ x ∷ []) asks rest)

  module _ (owns : Owns Inner Chan) (laws : Laws rules owns) (place : ℕ) (chan : Chan) where
    pub record IsSortedEffect (before : List Ask) (last : Chan) (asks : List Ask) : Type 0 where
      pub value : (served_all rules last asks).0 ≡ (served_all rules chan (sorted_onto before asks)).0
      pub posts : Perm Post ((served_all rules chan before).1 ++ (served_all rules last asks).1) (served_all rules chan (sorted_onto before asks)).1

    -- one ask more, put in its place
    calm_more : (before : List Ask) (last : Chan) (x : Ask) (asks : List Ask) → last ≡ (served_all rules chan before).0 → IsCommuting rules chan before x
        → IsSortedEffect (inserted x before) (rules.serve last x).0 asks → IsSortedEffect before last (x ∷ asks)
    calm_more before last x asks e law rest =
        let whole = served_all rules chan before in
        let now = rules.serve last x in
        let tail = served_all rules now.0 asks in
        let shown : (served_all rules chan (before ++ x ∷ [])).1 ≡ whole.1 ++ now.1 =
        ap (λ r. r.1) (served_all-append chan before (x ∷ [])) ∙ ap (λ posts. whole.1 ++ posts) (append-nil (rules.serve whole.0 x).1) ∙ ap (λ v. whole.1 ++ (rules.serve v x).1) (sym e) in
        record {
          value = rest.value;
          posts =
              join (perm_of _ _ (sym (append_assoc whole.1 now.1 tail.1) ∙ ap (λ posts. posts ++ tail.1) (sym shown)))
              (join (perm_before tail.1 law.posts) rest.posts);
        }

    calm_sorted : (before earlier : List Ask) (last : Chan) (asks : List Ask) → AreSinceClosed rules owns place chan before → AreRising before → Perm Ask earlier before → last ≡ (served_all rules chan before).0
        → Each (IsProperAsk rules) asks → Each (λ x. rules.channel_of x ≡ place) asks → AreDistinct asks → Each (λ x. Each (λ y. id_of y ≢ id_of x) before) asks
        → AreCalm last earlier asks → IsSortedEffect before last asks
    calm_sorted before earlier last [] since rising perm e proper here distinct apart calm = record { value = e; posts = perm_of _ _ (append-nil (served_all rules chan before).1) }
    calm_sorted before earlier last (x ∷ asks) since rising perm e proper here distinct apart calm =
        let at : AreSinceClosed rules owns (rules.channel_of x) chan before = subst (λ n. AreSinceClosed rules owns n chan before) (sym here.0) since in
        let law = laws.commutes chan before x (record {
          since = at;
          rising = rising;
          proper = proper.0;
          other = apart.0;
          free = ap (λ v. rules.clash v x) (sym e) ∙ calm.0;
          lines = perm_each (λ y. IsLineInTurn y x) perm calm.1;
        }) in
        calm_more before last x asks e law
        (calm_sorted (inserted x before) (earlier ++ x ∷ []) (rules.serve last x).0 asks
        (record {
          own = since.own;
          closed = since.closed;
          proper = insert_each (IsProperAsk rules) x before proper.0 since.proper;
          here = insert_each (λ y. rules.channel_of y ≡ place) x before here.0 since.here;
        })
        (insert_rising x before apart.0 rising)
        (join (perm_back (perm_middle x earlier [])) (join (more x (subst (λ xs. Perm Ask xs before) (sym (append-nil earlier)) perm)) (insert_perm x before)))
        (ap (λ v. (rules.serve v x).0) e ∙ ap (λ r. r.0) (sym (served_all-append chan before (x ∷ []))) ∙ law.value)
        proper.1 here.1 distinct.1
        (each_both_insert x before asks distinct.0 apart.1)
        calm.2)
      where
        each_both_insert : (x : Ask) (before asks : List Ask) → Each (λ z. id_of x ≢ id_of z) asks → Each (λ z. Each (λ y. id_of y ≢ id_of z) before) asks → Each (λ z. Each (λ y. id_of y ≢ id_of z) (inserted x before)) asks
        each_both_insert x before [] h k = tt
        each_both_insert x before (z ∷ asks) h k = (insert_each (λ y. id_of y ≢ id_of z) x before h.0 k.0, each_both_insert x before asks h.1 k.1)

    -- a calm channel has the same of the asks in the order of their ids
    pub calm_same : (asks : List Ask) → IsChanOf rules owns place chan → rules.close chan ≡ chan → Each (IsProperAsk rules) asks → AreDistinct asks
        → AreCalm chan [] (asks_on rules place asks) → HasSameEffect rules asks (sorted asks) place chan
    calm_same asks own closed proper distinct calm =
        let p = λ (x : Ask). rules.channel_of x == place in
        let mine = asks_on rules place asks in
        let effect = calm_sorted [] [] chan mine (record { own = own; closed = closed; proper = tt; here = tt }) tt none refl
        (each_filter p (IsProperAsk rules) asks proper) (each_weaker (λ x e. eq_of (rules.channel_of x) place e) mine (each_passes p asks))
        (pairwise_filter p (λ x y. id_of x ≢ id_of y) asks distinct) (each_any (λ x. tt) mine) calm in
        let same : sorted mine ≡ asks_on rules place (sorted asks) = sym (filter-sorted_onto p [] asks tt) in
        record {
          value = effect.value ∙ ap (λ own. (served_all rules chan own).0) same;
          posts = subst (λ own. Perm Post (served_all rules chan mine).1 (served_all rules chan own).1) same effect.posts;
        }
