-- Where nothing is recorded of the asks of a drift, none was served after a greater one of its line.
use Rattle.std.proofs.Common.{◌≡◌, ℕ, zero, suc, ◌<◌, List, [], ◌∷◌, ◌++◌, None, Some, slice_get, subst, arith}
use Rattle.std.specs.List.{AllByRecursion as Each}
use Rattle.std.proofs.lemmas.Option.{none-some, same_Some}
use Rattle.slack_base.specs.declared.histories.Violation.{Violation}
use Rattle.slack_base.specs.declared.messages.Ask.{Ask}
use Rattle.slack_base.specs.Messages.{id_of, line_of}
use Rattle.target_law.specs.Cycles.{seen_at, through}
use Rattle.target_law.specs.Rules.{Rules}
use Rattle.target_law.specs.Served.{IsLineInTurn}
use Rattle.target_law.proofs.Serving.{after_ask}
use Rattle.settle.proofs.Lists.{each_last}
use Rattle.violation_watch.specs.Scan.{bus_entry, map_entries, serve_entries, all_serve_entries}
use Rattle.violation_watch.proofs.Quiet.{nothing_left, nothing_right, quiet_line}

each_before : {X : Type 0} (P : X → Type 0) (xs ys : List X) → Each P (xs ++ ys) → Each P xs
each_before P [] ys h = tt
each_before P (x ∷ xs) ys h = (h.0, each_before P xs ys h.1)

module _ {Inner Chan : Type 0} (rules : Rules Inner Chan) where
  -- of asks served after others nothing is recorded
  abbrev IsQuiet : List Chan → (earlier asks : List Ask) → Type 0
  IsQuiet chans earlier asks = all_serve_entries rules earlier (through rules chans asks).clashes asks ≡ []

  module _ (chans : List Chan) (earlier : List Ask) (a : Ask) (asks : List Ask) (quiet : IsQuiet chans earlier (a ∷ asks)) where
    abbrev here : List Violation
    here = serve_entries rules earlier (seen_at (rules.channel_of a) (λ chan. rules.clash chan a) None chans) a

    rest_quiet : IsQuiet (after_ask rules a chans) (earlier ++ a ∷ []) asks
    rest_quiet = nothing_right here (all_serve_entries rules (earlier ++ a ∷ []) (through rules (after_ask rules a chans) asks).clashes asks) quiet

    first_quiet : Each (λ y. IsLineInTurn y a) earlier
    first_quiet =
        let clash = seen_at (rules.channel_of a) (λ chan. rules.clash chan a) None chans in
        let none = nothing_left here (all_serve_entries rules (earlier ++ a ∷ []) (through rules (after_ask rules a chans) asks).clashes asks) quiet in
        quiet_line earlier (id_of a) (line_of a) (nothing_right (bus_entry (rules.channel_of a) (id_of a) clash) (map_entries earlier (id_of a) (line_of a)) none)

  -- each ask, and those that were served before them all
  after_earlier : (chans : List Chan) (earlier asks : List Ask) (i : ℕ) (x : Ask) → IsQuiet chans earlier asks → slice_get asks i ≡ Some x → Each (λ y. IsLineInTurn y x) earlier
  after_earlier chans earlier [] i x quiet e = absurd (none-some x e)
  after_earlier chans earlier (a ∷ asks) zero x quiet e = subst (λ z. Each (λ y. IsLineInTurn y z) earlier) (same_Some a x e) (first_quiet chans earlier a asks quiet)
  after_earlier chans earlier (a ∷ asks) (suc i) x quiet e =
      each_before (λ y. IsLineInTurn y x) earlier (a ∷ [])
      (after_earlier (after_ask rules a chans) (earlier ++ a ∷ []) asks i x (rest_quiet chans earlier a asks quiet) e)

  -- an ask, and one that was served before it
  pub in_turn : (chans : List Chan) (earlier asks : List Ask) (i j : ℕ) (x y : Ask) → all_serve_entries rules earlier (through rules chans asks).clashes asks ≡ []
      → slice_get asks i ≡ Some x → slice_get asks j ≡ Some y → j < i → IsLineInTurn y x
  in_turn chans earlier [] i j x y quiet at before lt = absurd (none-some x at)
  in_turn chans earlier (a ∷ asks) zero j x y quiet at before lt = absurd (omega arith)
  in_turn chans earlier (a ∷ asks) (suc i) zero x y quiet at before lt =
      subst (λ z. IsLineInTurn z x) (same_Some a y before)
      (each_last (λ z. IsLineInTurn z x) earlier (a ∷ [])
      (after_earlier (after_ask rules a chans) (earlier ++ a ∷ []) asks i x (rest_quiet chans earlier a asks quiet) at)).0
  in_turn chans earlier (a ∷ asks) (suc i) (suc j) x y quiet at before lt =
      in_turn (after_ask rules a chans) (earlier ++ a ∷ []) asks i j x y (rest_quiet chans earlier a asks quiet) at before (omega arith)
