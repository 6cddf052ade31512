-- What a watch knows of the asks that it saw served, and what watches find, call by call.
use Rattle.std.specs.Prelude.{◌≡◌, ℕ, ◌+◌, List, [], ◌∷◌, ◌++◌, map, Option, ◌⊎◌}
use Rattle.std.specs.BTreeMap.{get}
use Rattle.std.specs.List.{flat_map}
use Rattle.std.specs.Ordering.{nat_cmp}
use Rattle.slack_base.specs.declared.histories.Drift.{Drift}
use Rattle.slack_base.specs.declared.histories.Taken.{Taken}
use Rattle.slack_base.specs.declared.messages.Ask.{Ask}
use Rattle.slack_base.specs.declared.stamps.Id.{Id}
use Rattle.slack_base.specs.Messages.{id_of}
use Rattle.target_law.specs.Rules.{Rules}
use Rattle.violation_watch.specs.Scan.{greatest, asks_of_line, bus_entry, serve_entries, take_entries, scan_of}
use Rattle.violation_watch.specs.declared.watches.Watch.{Watch}

-- of each line the watch has the greatest id of its asks among these
pub record Knows (earlier : List Ask) (watch : Watch) : Type 0 where
  pub highs : (line : ℕ) → get nat_cmp watch.highs line ≡ greatest (map id_of (asks_of_line line earlier))

-- nothing was seen, and nothing was found
pub record IsNew (watch : Watch) : Type 0 where
  pub found : watch.found ≡ []
  pub knows : Knows [] watch

module _ {Inner Chan : Type 0} (rules : Rules Inner Chan) where
  -- the watch saw an ask that was served with this clash: of whatever asks it knew before, it found what is recorded of
  -- the ask after them, and knows it too
  pub record HasServed (clash : Option Id) (ask : Ask) (old new : Watch) : Type 0 where
    pub found : (earlier : List Ask) → Knows earlier old → new.found ≡ old.found ++ serve_entries rules earlier clash ask
    pub knows : (earlier : List Ask) → Knows earlier old → Knows (earlier ++ ask ∷ []) new

  -- the watch was cut off: it knows what it knew, and found nothing, or no more than that the ask clashed
  pub record IsCutOff (clash : Option Id) (ask : Ask) (old new : Watch) : Type 0 where
    pub found : (new.found ≡ old.found) ⊎ (new.found ≡ old.found ++ bus_entry (rules.channel_of ask) (id_of ask) clash)
    pub knows : (earlier : List Ask) → Knows earlier old → Knows earlier new

-- the watch saw what the core of this number took, in a drift that ends at this clock: it found what is recorded of it
abbrev pub HasTaken : (core end : ℕ) → Taken → Watch → Watch → Type 0
HasTaken core end x old new = new ≡ record old { found = old.found ++ take_entries core end x }

-- a core's watch, which was new, saw what the core took, one post after another
pub data SawTaken (core end : ℕ) : List Taken → Watch → Type 0 where
  begins : {watch : Watch} → IsNew watch → SawTaken core end [] watch
  takes : {taken : List Taken} {old new : Watch} (x : Taken)
      → SawTaken core end taken old → HasTaken core end x old new → SawTaken core end (taken ++ x ∷ []) new

-- each core's watch saw what its core took, the first of them the core of number c
abbrev pub AllSawTaken : (c end : ℕ) → List (List Taken) → List Watch → Type 0
AllSawTaken c end [] [] = Unit {0}
AllSawTaken c end [] (watch ∷ watches) = ⊥
AllSawTaken c end (taken ∷ sent) [] = ⊥
AllSawTaken c end (taken ∷ sent) (watch ∷ watches) = SawTaken c end taken watch × AllSawTaken (c + 1) end sent watches

module _ {Inner Chan : Type 0} (rules : Rules Inner Chan) where
  -- the manager's watch, which was new, saw asks served with these clashes, one after another
  pub data SawServed : List (Option Id) → List Ask → Watch → Type 0 where
    begins : {watch : Watch} → IsNew watch → SawServed [] [] watch
    serves : {clashes : List (Option Id)} {asks : List Ask} {clash : Option Id} {ask : Ask} {old new : Watch}
        → SawServed clashes asks old → HasServed rules clash ask old new → SawServed (clashes ++ clash ∷ []) (asks ++ ask ∷ []) new

  -- what the manager's watch and the watches of the cores found in a drift, in this order, is its scan
  abbrev pub AllWatchesScan : Type 0
  AllWatchesScan =
      (d : Drift) (manager : Watch) (cores : List Watch)
      → SawServed d.clashes d.served manager
      → AllSawTaken 0 (d.start + d.len) d.sent cores
      → manager.found ++ flat_map (λ watch. watch.found) cores ≡ scan_of rules d
