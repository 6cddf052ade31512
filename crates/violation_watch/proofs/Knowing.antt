-- What a watch knows after an ask more.
use Rattle.std.proofs.Common.{◌≡◌, ◌==◌, ◌∙◌, ℕ, List, [], ◌∷◌, ◌++◌, map, Bool, true, false, cond, Option, Some, sym, ap, append_assoc}
use Rattle.std.specs.BTreeMap.{get}
use Rattle.std.specs.Ordering.{nat_cmp}
use Rattle.std.proofs.lemmas.Bool.{eqb-true}
use Rattle.std.proofs.lemmas.List.{map-append, append-nil}
use Rattle.std.proofs.lemmas.List.Elements.{filter-append}
use Rattle.slack_base.specs.declared.messages.Ask.{Ask}
use Rattle.slack_base.specs.declared.stamps.Id.{Id}
use Rattle.slack_base.specs.HighestIds.{later_of, clash_with}
use Rattle.slack_base.specs.Messages.{id_of, line_of}
use Rattle.target_law.specs.Rules.{Rules}
use Rattle.violation_watch.specs.Noting.{IsNoted}
use Rattle.violation_watch.specs.Scan.{greatest, is_of_line, asks_of_line, bus_entry, map_entry, map_entries}
use Rattle.violation_watch.specs.Watching.{Knows, HasServed}
use Rattle.violation_watch.specs.declared.watches.Watch.{Watch}
use Rattle.violation_watch.proofs.Highs.{by_test, greatest-more, greatest-above}

abbrev ids_of_line : ℕ → List Ask → List Id
ids_of_line q asks = map id_of (asks_of_line q asks)

module _ (earlier : List Ask) (ask : Ask) where
  ids-more : (q : ℕ) (b : Bool) → is_of_line q (line_of ask) ≡ b → ids_of_line q (earlier ++ ask ∷ []) ≡ ids_of_line q earlier ++ map id_of (cond b (ask ∷ []) [])
  ids-more q b is =
      ap (map id_of) (filter-append (λ e. is_of_line q (line_of e)) earlier (ask ∷ []))
      ∙ map-append id_of (asks_of_line q earlier) (cond (is_of_line q (line_of ask)) (ask ∷ []) [])
      ∙ ap (λ c. ids_of_line q earlier ++ map id_of (cond c (ask ∷ []) [])) is

  greatest-on : (q : ℕ) → is_of_line q (line_of ask) ≡ true → greatest (ids_of_line q (earlier ++ ask ∷ [])) ≡ Some (later_of (greatest (ids_of_line q earlier)) (id_of ask))
  greatest-on q on = ap greatest (ids-more q true on) ∙ greatest-more (ids_of_line q earlier) (id_of ask)

  greatest-off : (q : ℕ) → is_of_line q (line_of ask) ≡ false → greatest (ids_of_line q (earlier ++ ask ∷ [])) ≡ greatest (ids_of_line q earlier)
  greatest-off q off = ap greatest (ids-more q false off ∙ append-nil (ids_of_line q earlier))

  module _ (old new : Watch) (knows : Knows earlier old) where
    -- of an ask of a line
    knows_line : (line : ℕ) → Some line ≡ line_of ask → IsNoted old.highs line (id_of ask) new.highs → Knows (earlier ++ ask ∷ []) new
    knows_line line is noted = record {
      highs = λ q.
          let here : is_of_line q (line_of ask) ≡ (line == q) = ap (is_of_line q) (sym is) in
          by_test (line == q)
          (λ on.
          noted q
          ∙ ap (λ b. cond b (Some (later_of (get nat_cmp old.highs line) (id_of ask))) (get nat_cmp old.highs q)) on
          ∙ ap (λ g. Some (later_of g (id_of ask))) (ap (get nat_cmp old.highs) (eqb-true line q on) ∙ knows.highs q)
          ∙ sym (greatest-on q (here ∙ on)))
          (λ off.
          noted q
          ∙ ap (λ b. cond b (Some (later_of (get nat_cmp old.highs line) (id_of ask))) (get nat_cmp old.highs q)) off
          ∙ knows.highs q
          ∙ sym (greatest-off q (here ∙ off)));
    }

    map-found : (line : ℕ) → Some line ≡ line_of ask → map_entry line (id_of ask) (clash_with (get nat_cmp old.highs line) (id_of ask)) ≡ map_entries earlier (id_of ask) (line_of ask)
    map-found line is =
        ap (map_entry line (id_of ask)) (ap (λ g. clash_with g (id_of ask)) (knows.highs line) ∙ sym (greatest-above (id_of ask) (ids_of_line line earlier)))
        ∙ ap (map_entries earlier (id_of ask)) is

-- a watch that saw an ask's clash, and then its line
module _ {Inner Chan : Type 0} (rules : Rules Inner Chan) (clash : Option Id) (ask : Ask) (old mid new : Watch) (clashed : mid ≡ record old { found = old.found ++ bus_entry (rules.channel_of ask) (id_of ask) clash }) where
  pub served_line : (line : ℕ) → Some line ≡ line_of ask
      → new.found ≡ mid.found ++ map_entry line (id_of ask) (clash_with (get nat_cmp mid.highs line) (id_of ask))
      → IsNoted mid.highs line (id_of ask) new.highs → HasServed rules clash ask old new
  served_line line is found noted =
      let highs : mid.highs ≡ old.highs = ap (λ w. w.highs) clashed in
      let bus = bus_entry (rules.channel_of ask) (id_of ask) clash in
      record {
        found = λ earlier knows.
            found
            ∙ ap (λ xs. xs ++ map_entry line (id_of ask) (clash_with (get nat_cmp mid.highs line) (id_of ask))) (ap (λ w. w.found) clashed)
            ∙ ap (λ m. (old.found ++ bus) ++ map_entry line (id_of ask) (clash_with (get nat_cmp m line) (id_of ask))) highs
            ∙ ap (λ xs. (old.found ++ bus) ++ xs) (map-found earlier ask old new knows line is)
            ∙ append_assoc old.found bus (map_entries earlier (id_of ask) (line_of ask));
        knows = λ earlier knows.
            knows_line earlier ask old new knows line is (λ q. noted q ∙ ap (λ m. cond (line == q) (Some (later_of (get nat_cmp m line) (id_of ask))) (get nat_cmp m q)) highs);
      }
