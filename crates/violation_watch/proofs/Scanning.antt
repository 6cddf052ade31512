-- What watches find, call by call, is the scan.
use Rattle.std.proofs.Common.{◌≡◌, ◌∙◌, ℕ, ◌+◌, List, [], ◌∷◌, ◌++◌, length, Option, refl, sym, ap, append_assoc, arith, length-append}
use Rattle.std.specs.List.{flat_map}
use Rattle.std.proofs.lemmas.List.{append-nil}
use Rattle.std.proofs.lemmas.Grind.{flat_map-append}
use Rattle.slack_base.specs.declared.histories.Taken.{Taken}
use Rattle.slack_base.specs.declared.messages.Ask.{Ask}
use Rattle.slack_base.specs.declared.stamps.Id.{Id}
use Rattle.target_law.specs.Rules.{Rules}
use Rattle.violation_watch.specs.Scan.{serve_entries, all_serve_entries, take_entries, all_take_entries}
use Rattle.violation_watch.specs.Watching.{Knows, SawServed, SawTaken, AllSawTaken, AllWatchesScan}
use Rattle.violation_watch.specs.Watching.SawServed.{begins as serving_begins, serves}
use Rattle.violation_watch.specs.Watching.SawTaken.{begins as taking_begins, takes}
use Rattle.violation_watch.specs.declared.watches.Watch.{Watch}

-- what a core's watch found
pub saw_taken : (core end : ℕ) (taken : List Taken) (watch : Watch) → SawTaken core end taken watch → watch.found ≡ flat_map (take_entries core end) taken
saw_taken core end taken watch (taking_begins new) = new.found
saw_taken core end taken watch (takes {taken = earlier} x saw has) =
    ap (λ w. w.found) has
    ∙ ap (λ xs. xs ++ take_entries core end x) (saw_taken core end _ _ saw)
    ∙ ap (λ xs. flat_map (take_entries core end) earlier ++ xs) (sym (append-nil (take_entries core end x)))
    ∙ sym (flat_map-append (take_entries core end) earlier (x ∷ []))

-- and the watches of all cores
pub all_saw_taken : (c end : ℕ) (sent : List (List Taken)) (watches : List Watch) → AllSawTaken c end sent watches → flat_map (λ watch. watch.found) watches ≡ all_take_entries c end sent
all_saw_taken c end [] [] saw = refl
all_saw_taken c end [] (watch ∷ watches) saw = absurd saw
all_saw_taken c end (taken ∷ sent) [] saw = absurd saw
all_saw_taken c end (taken ∷ sent) (watch ∷ watches) saw =
    ap (λ xs. xs ++ flat_map (λ watch. watch.found) watches) (saw_taken c end taken watch saw.0)
    ∙ ap (λ xs. flat_map (take_entries c end) taken ++ xs) (all_saw_taken (c + 1) end sent watches saw.1)

module _ {Inner Chan : Type 0} (rules : Rules Inner Chan) where
  -- an ask more
  pub serve_entries-more : (earlier : List Ask) (clashes : List (Option Id)) (asks : List Ask) (clash : Option Id) (ask : Ask) → length clashes ≡ length asks
      → all_serve_entries rules earlier (clashes ++ clash ∷ []) (asks ++ ask ∷ []) ≡ all_serve_entries rules earlier clashes asks ++ serve_entries rules (earlier ++ asks) clash ask
  serve_entries-more earlier [] [] clash ask long = append-nil (serve_entries rules earlier clash ask) ∙ ap (λ xs. serve_entries rules xs clash ask) (sym (append-nil earlier))
  serve_entries-more earlier [] (a ∷ asks) clash ask long = cc
  serve_entries-more earlier (c ∷ clashes) [] clash ask long = cc
  serve_entries-more earlier (c ∷ clashes) (a ∷ asks) clash ask long =
      let first = serve_entries rules earlier c a in
      let rest = all_serve_entries rules (earlier ++ a ∷ []) clashes asks in
      ap (λ xs. first ++ xs) (serve_entries-more (earlier ++ a ∷ []) clashes asks clash ask (omega (arith, long)))
      ∙ ap (λ xs. first ++ (rest ++ serve_entries rules xs clash ask)) (append_assoc earlier (a ∷ []) asks)
      ∙ sym (append_assoc first rest (serve_entries rules (earlier ++ a ∷ asks) clash ask))

  -- what the manager's watch found, and what it knows
  pub record IsSeen (clashes : List (Option Id)) (asks : List Ask) (watch : Watch) : Type 0 where
    pub long : length clashes ≡ length asks
    pub knows : Knows asks watch
    pub found : watch.found ≡ all_serve_entries rules [] clashes asks

  pub saw_served : (clashes : List (Option Id)) (asks : List Ask) (watch : Watch) → SawServed rules clashes asks watch → IsSeen clashes asks watch
  saw_served clashes asks watch (serving_begins new) = record { long = refl; knows = new.knows; found = new.found }
  saw_served clashes asks watch (serves {clashes = cs} {asks = earlier} {clash = clash} {ask = ask} saw has) =
      let seen = saw_served cs earlier _ saw in
      record {
        long = length-append cs (clash ∷ []) ∙ ap (λ n. n + 1) seen.long ∙ sym (length-append earlier (ask ∷ []));
        knows = has.knows earlier seen.knows;
        found =
            has.found earlier seen.knows
            ∙ ap (λ xs. xs ++ serve_entries rules earlier clash ask) seen.found
            ∙ sym (serve_entries-more [] cs earlier clash ask seen.long);
      }

  pub all_watches_scan : AllWatchesScan rules
  all_watches_scan d manager cores served taken =
      let seen = saw_served d.clashes d.served manager served in
      ap (λ xs. xs ++ flat_map (λ watch. watch.found) cores) seen.found
      ∙ ap (λ xs. all_serve_entries rules [] d.clashes d.served ++ xs) (all_saw_taken 0 (d.start + d.len) d.sent cores taken)
