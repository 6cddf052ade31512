-- What a leap leaves is what lockstep leaves.
use Rattle.std.proofs.Common.{◌≡◌, ◌∙◌, ℕ, ◌+◌, ◌-◌, ◌<◌, ◌≤◌, zero, suc, List, [], ◌∷◌, ◌⊎◌, inl, inr, map, length, refl, sym, ap, subst, arith, ⊎_elim}
use Rattle.std.specs.List.{All, AllByRecursion as Each}
use Rattle.std.specs.List.Sorted.{IsPermutation}
use Rattle.std.proofs.lemmas.List.{length-map}
use Rattle.std.proofs.lemmas.List.Elements.{All-from_recursion, recursion_from_All}
use Rattle.slack_base.specs.declared.bounds.TheConstants.{TOP}
use Rattle.slack_base.specs.declared.messages.Ask.{Ask}
use Rattle.slack_base.specs.Inboxes.{CoreValue}
use Rattle.slack_base.specs.Messages.{id_of}
use Rattle.target_law.specs.Cycles.{StateValue, ticks_of, through, delivered, lockstep}
use Rattle.target_law.specs.Laws.{Laws}
use Rattle.target_law.specs.Numbered.{AllNumbered}
use Rattle.target_law.specs.Proper.{IsProperAsk, IsCoreOf, IsProper, IsPunctual}
use Rattle.target_law.specs.Rules.{Rules, Owns}
use Rattle.target_law.specs.Served.{AreRising}
use Rattle.target_law.proofs.Lists.{each_append, each_weaker, numbered_map, numbered_weaker}
use Rattle.target_law.proofs.Stored.{map-closed}
use Rattle.target_law.proofs.Ticking.{ticks_core}
use Rattle.violation_watch.proofs.Channels.{AreDistinct}
use Rattle.violation_watch.proofs.Perms.{perm_each}
use Rattle.pacing.specs.Pieces.{begun, asks_through}
use Rattle.pacing.proofs.Opened.{open_begun}
use Rattle.pacing.proofs.Orders.{perm_from, rising_sorted}
use Rattle.pacing.proofs.Shares.{all_asks, all_distinct}
use Rattle.leap_run.specs.Leaps.{advanced, asks_in, IsQuiet, leapt, AreOfLeap, IsExchanged}
use Rattle.leap_run.proofs.Leaping.{lanes_asks, all_leaps}
use Rattle.leap_run.proofs.Quieting.{quiet_less, late_asks}

either : (q k : ℕ) → (q ≤ k) ⊎ (k ≤ q)
either zero k = inl (omega arith)
either (suc q) zero = inr (omega arith)
either (suc q) (suc k) = ⊎_elim (λ low. inl (omega arith)) (λ low. inr (omega arith)) (either q k)

no_moves : {X : Type 0} → IsPermutation {X = X} [] []
no_moves = record { moves = []; below = tt; is = refl }

each_map : {X Y : Type 0} (P : Y → Type 0) (f : X → Y) (xs : List X) → Each (λ x. P (f x)) xs → Each P (map f xs)
each_map P f [] h = tt
each_map P f (x ∷ xs) h = (h.0, each_map P f xs h.1)

module _ {Inner Chan : Type 0} (rules : Rules Inner Chan) (owns : Owns Inner Chan) (laws : Laws rules owns) (t q k e : ℕ) (end : e ≡ t + k) (top : e ≤ TOP)
    (soon : e ≤ t + q + rules.lookahead) where
  abbrev IsSoon : Ask → Type 0
  IsSoon x = e ≤ (id_of x).cycle + rules.lookahead

  one_soon : (c : ℕ) (core : CoreValue Inner) → IsCoreOf rules owns c core → IsQuiet rules t q core → Each IsSoon (ticks_of rules t k core).1
  one_soon c core is quiet =
      ⊎_elim
      (λ (low : q ≤ k). each_weaker (λ x late. omega arith) (ticks_of rules t k core).1 (late_asks rules owns laws t q k e c core end top is quiet low))
      (λ (low : k ≤ q). subst (Each IsSoon) (sym (quiet_less rules t k q core low quiet).silent) tt)
      (either q k)

  all_soon : (n : ℕ) (cores : List (CoreValue Inner)) → AllNumbered (IsCoreOf rules owns) n cores → Each (IsQuiet rules t q) cores → Each IsSoon (asks_in rules t k cores)
  all_soon n [] are quiet = tt
  all_soon n (core ∷ cores) are quiet =
      each_append IsSoon (ticks_of rules t k core).1 (asks_in rules t k cores) (one_soon n core are.0 quiet.0) (all_soon (n + 1) cores are.1 quiet.1)

module _ {Inner Chan C D : Type 0} (rules : Rules Inner Chan) (owns : Owns Inner Chan) (laws : Laws rules owns) (V : C → CoreValue Inner) (W : D → Chan)
    (from q end : ℕ) (cores : List C) (chans : List D) (low : from < end) (top : end ≤ TOP) (reach : end ≤ from + q + rules.lookahead)
    (is : IsProper rules owns (record { clock = from; cores = map V cores; chans = map W chans }))
    (fresh : IsPunctual {Inner = Inner} {Chan = Chan} (record { clock = from; cores = map V cores; chans = map W chans }))
    (quiet : All (λ core. IsQuiet rules from q (V core)) cores) where
  abbrev first : StateValue Inner Chan
  first = record { clock = from; cores = map V cores; chans = map W chans }

  abbrev k : ℕ
  k = end - from

  long : end ≡ from + k
  long = omega arith

  sent_soon : Each (IsSoon rules owns laws from q k end long (omega arith) (omega arith)) (asks_in rules from k (map V cores))
  sent_soon = all_soon rules owns laws from q k end long (omega arith) (omega arith) 0 (map V cores) is.cores (each_map (IsQuiet rules from q) V cores (recursion_from_All (λ core. IsQuiet rules from q (V core)) cores quiet))

  distinct : AreDistinct (asks_in rules from k (map V cores))
  distinct =
      subst AreDistinct (lanes_asks rules from k (map V cores))
      (all_distinct rules owns laws from k (from + k) refl (omega arith) 0 (begun first).lanes (open_begun rules owns laws first is).lanes)

  -- the asks are those of a leap
  of_leap : (sent asks : List Ask) → sent ≡ asks_in rules from k (map V cores) → IsPermutation sent asks → AreRising asks → AreOfLeap rules k first asks
  of_leap sent asks own same rising = record {
    sent = subst (λ xs. IsPermutation xs asks) own same;
    rising = rising;
    soon =
        each_weaker (λ x late. let e = long in omega arith) asks
        (perm_each (λ x. end ≤ (id_of x).cycle + rules.lookahead) (perm_from (asks_in rules from k (map V cores)) asks (subst (λ xs. IsPermutation xs asks) own same)) sent_soon);
  }

  sent_proper : Each (IsProperAsk rules) (asks_in rules from k (map V cores))
  sent_proper =
      subst (Each (IsProperAsk rules)) (lanes_asks rules from k (map V cores))
      (each_weaker (λ x of. of.proper) (asks_through rules from k (begun first).lanes)
      (all_asks rules owns laws from k (from + k) refl (omega arith) 0 (begun first).lanes (open_begun rules owns laws first is).lanes))

  module _ (sent : List Ask) (own : sent ≡ asks_in rules from k (map V cores)) (now : List C) (now_are : map V now ≡ advanced rules from k (map V cores)) where
    pub asks_ok : All (IsProperAsk rules) sent
    asks_ok = subst (All (IsProperAsk rules)) (sym own) (All-from_recursion (IsProperAsk rules) (asks_in rules from k (map V cores)) sent_proper)

    pub cores_ok : AllNumbered (IsCoreOf rules owns) 0 (map V now)
    cores_ok =
        subst (AllNumbered (IsCoreOf rules owns) 0) (sym now_are)
        (numbered_map (IsCoreOf rules owns) (λ core. (ticks_of rules from k core).0) 0 (map V cores)
        (numbered_weaker (λ c core of. ticks_core rules owns laws from k c core (omega arith) of) 0 (map V cores) is.cores))

    pub count_ok : length now ≡ rules.cores
    count_ok = sym (length-map now V) ∙ ap length now_are ∙ length-map (map V cores) (λ core. (ticks_of rules from k core).0) ∙ is.core_count

    -- nothing was sent
    pub after_none : sent ≡ [] → record { clock = end; cores = map V now; chans = map W chans } ≡ lockstep rules first k
    unfolding leapt
    after_none none =
        let are = of_leap sent [] own (subst (λ xs. IsPermutation xs []) (sym none) no_moves) tt in
        let shut : map W chans ≡ map rules.close (map W chans) = sym (map-closed rules.close (map W chans) is.closed) in
        let same : record { clock = end; cores = map V now; chans = map W chans } ≡ leapt rules k [] first = λ i. record { clock = long i; cores = now_are i; chans = shut i } in
        same ∙ all_leaps rules owns laws k first [] (omega arith) is (omega arith) are

    -- what was sent is served and answered
    pub after_exchange : (after : List C) (closed : List D) → IsExchanged rules sent (map V now) (map W chans) (map V after) (map W closed)
        → record { clock = end; cores = map V after; chans = map W closed } ≡ lockstep rules first k
    unfolding leapt
    after_exchange after closed ex =
        let asks = ex.asks in
        let apart : AreDistinct sent = subst AreDistinct (sym own) distinct in
        let are = of_leap sent asks own ex.same (rising_sorted sent asks ex.same apart ex.sorted) in
        let cores_are : map V after ≡ delivered (advanced rules from k (map V cores)) (through rules (map W chans) asks).posts = ex.cores_are ∙ ap (λ xs. delivered xs (through rules (map W chans) asks).posts) now_are in
        let same : record { clock = end; cores = map V after; chans = map W closed } ≡ leapt rules k asks first = λ i. record { clock = long i; cores = cores_are i; chans = ex.chans_are i } in
        same ∙ all_leaps rules owns laws k first asks (omega arith) is (omega arith) are
