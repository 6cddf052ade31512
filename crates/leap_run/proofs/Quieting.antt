-- A core that sends nothing through some cycles sends nothing through fewer, and what it sends in more it sends later.
use Rattle.std.proofs.Common.{◌≡◌, ◌≢◌, ◌∙◌, ℕ, ◌+◌, ◌-◌, ◌≤◌, ◌<◌, zero, suc, min, ◌⊎◌, inl, inr, ⊎_elim, List, [], ◌∷◌, ◌++◌, map, get_or, length, refl, sym, ap, subst, arith}
use Rattle.std.specs.List.{All, AllByRecursion as Each}
use Rattle.std.proofs.lemmas.List.{length-map, get_or_default}
use Rattle.slack_base.specs.Inboxes.{CoreValue}
use Rattle.slack_base.specs.declared.bounds.TheConstants.{TOP}
use Rattle.slack_base.specs.declared.messages.Ask.{Ask}
use Rattle.slack_base.specs.Messages.{id_of}
use Rattle.target_law.specs.Cycles.{ticks_of}
use Rattle.target_law.specs.Laws.{Laws}
use Rattle.target_law.specs.Numbered.{AllNumbered}
use Rattle.target_law.specs.Proper.{IsCore, IsCoreOf}
use Rattle.target_law.specs.Rules.{Rules, Owns}
use Rattle.target_law.proofs.Lists.{each_weaker}
use Rattle.target_law.proofs.Loops.{core_at, get-map}
use Rattle.target_law.proofs.Places.{numbered_get}
use Rattle.target_law.proofs.Ticking.{ticks_on, ticks_core}
use Rattle.pacing.proofs.Ticks.{ticks_asks}
use Rattle.leap_run.specs.Leaps.{IsQuiet}

nil_front : {X : Type 0} (xs ys : List X) → xs ++ ys ≡ [] → xs ≡ []
nil_front [] ys e = refl
nil_front (x ∷ xs) ys e = let none = ap length e in absurd (omega arith)

-- a core of its place in a list
pub core_here : {Inner Chan C : Type 0} (rules : Rules Inner Chan) (owns : Owns Inner Chan) (view : C → CoreValue Inner) (cores : List C) (i : ℕ) (core : C)
    → i < length cores → core ≡ get_or cores i core → AllNumbered (IsCoreOf rules owns) 0 (map view cores) → IsCore rules owns (view core)
core_here rules owns view cores i core within is are =
    let inside : i < length (map view cores) = subst (λ n. i < n) (sym (length-map cores view)) within in
    core_at rules owns i (view core)
    (subst (IsCoreOf rules owns i) (get-map view cores i core ∙ ap view (sym is)) (numbered_get (IsCoreOf rules owns) 0 i i (map view cores) (view core) (omega arith) inside are))

pub before : (q k : ℕ) → (q < k) ⊎ (k ≤ q)
before q zero = inr (omega arith)
before zero (suc k) = inl (omega arith)
before (suc q) (suc k) = ⊎_elim (λ low. inl (omega arith)) (λ low. inr (omega arith)) (before q k)

before_or_at : (k i : ℕ) → k < i + 1 → (k < i) ⊎ (k ≡ i)
before_or_at zero zero h = inr refl
before_or_at zero (suc i) h = inl (omega arith)
before_or_at (suc k) zero h = absurd (omega arith)
before_or_at (suc k) (suc i) h = ⊎_elim (λ low. inl (omega arith)) (λ at. inr (ap suc at)) (before_or_at k i (omega arith))

-- each core of a list, of whatever number
pub cores_each : {Inner Chan C : Type 0} (rules : Rules Inner Chan) (owns : Owns Inner Chan) (view : C → CoreValue Inner) (cores : List C)
    → AllNumbered (IsCoreOf rules owns) 0 (map view cores) → All (λ core. IsCore rules owns (view core)) cores
cores_each rules owns view cores are k d low = core_here rules owns view cores k (get_or cores k d) low (get_or_default cores k d (get_or cores k d) low) are

module _ {Inner Chan : Type 0} (rules : Rules Inner Chan) where
  -- through fewer cycles
  pub quiet_less : (t p q : ℕ) (core : CoreValue Inner) → p ≤ q → IsQuiet rules t q core → IsQuiet rules t p core
  quiet_less t p q core low quiet =
      let mine = ticks_of rules t p core in
      let both = ticks_on rules t p q (q - p) (t + p) core mine.0 [] mine.1 (omega arith) refl refl refl in
      record { silent = nil_front mine.1 (ticks_of rules (t + p) (q - p) mine.0).1 (both.1 ∙ quiet.silent) }

  -- a core that sent nothing yet goes on from clock c to u
  pub record HasGoneOn (t u : ℕ) (first new : CoreValue Inner) (asks : List Ask) : Type 0 where
    pub core : new ≡ (ticks_of rules t (u - t) first).0
    pub asks_are : asks ≡ (ticks_of rules t (u - t) first).1
    pub last : IsQuiet rules t (u - t - 1) first

  pub gone_on : (t c u : ℕ) (first core new : CoreValue Inner) (asks more : List Ask) → t < c → c < u → core ≡ (ticks_of rules t (c - t) first).0 → asks ≡ (ticks_of rules t (c - t) first).1
      → asks ≡ [] → new ≡ (ticks_of rules c (u - c) core).0 → more ≡ asks ++ (ticks_of rules c (u - c) core).1 → (ticks_of rules c (u - c - 1) core).1 ≡ [] → HasGoneOn t u first new more
  gone_on t c u first core new asks more low high core_is asks_are none new_is more_is last =
      let next = ticks_on rules t (c - t) (u - t) (u - c) c first core [] asks (omega arith) (omega arith) core_is asks_are in
      let then = ticks_on rules t (c - t) (u - t - 1) (u - c - 1) c first core [] asks (omega arith) (omega arith) core_is asks_are in
      record {
        core = new_is ∙ next.0;
        asks_are = more_is ∙ next.1;
        last = record { silent = sym then.1 ∙ ap (λ xs. xs ++ (ticks_of rules c (u - c - 1) core).1) none ∙ last };
      }

  -- one core more
  module _ {C : Type 0} (view : C → CoreValue Inner) (t : ℕ) where
    abbrev Quiet : ℕ → C → Type 0
    Quiet q core = IsQuiet rules t q (view core)

    -- what is known of the first i cores: for how many cycles all of them are quiet, and all but the one at a place
    pub record LooksAhead (i : ℕ) (cores : List C) (all others lone : ℕ) : Type 0 where
      pub all_quiet : (k : ℕ) (d : C) → k < i → Quiet all (get_or cores k d)
      pub others_quiet : (k : ℕ) (d : C) → k < i → k ≢ lone → Quiet others (get_or cores k d)
      pub within : lone ≤ i - 1

    pub looks_none : (cores : List C) (all others : ℕ) → LooksAhead 0 cores all others 0
    looks_none cores all others = record { all_quiet = λ k d low. absurd (omega arith); others_quiet = λ k d low _. absurd (omega arith); within = omega arith }

    module _ (i : ℕ) (cores : List C) (core : C) (low : i < length cores) (q : ℕ) (is : core ≡ get_or cores i core) (quiet : Quiet q core) (all others lone : ℕ) (so_far : LooksAhead i cores all others lone) where
      -- the next core
      own : (k : ℕ) (d : C) → k ≡ i → Quiet q (get_or cores k d)
      own k d at = subst (Quiet q) (is ∙ get_or_default cores i core d low ∙ ap (λ n. get_or cores n d) (sym at)) quiet

      pub looks_sooner : q < all → LooksAhead (i + 1) cores q all i
      looks_sooner sooner = record {
        all_quiet = λ k d below. ⊎_elim (λ (old : k < i). quiet_less t q all (view (get_or cores k d)) (omega arith) (so_far.all_quiet k d old)) (λ (at : k ≡ i). own k d at) (before_or_at k i below);
        others_quiet = λ k d below other. ⊎_elim (λ (old : k < i). so_far.all_quiet k d old) (λ (at : k ≡ i). absurd (other at)) (before_or_at k i below);
        within = omega arith;
      }

      pub looks_later : all ≤ q → LooksAhead (i + 1) cores all (min others q) lone
      looks_later later = record {
        all_quiet = λ k d below. ⊎_elim (λ (old : k < i). so_far.all_quiet k d old) (λ (at : k ≡ i). quiet_less t all q (view (get_or cores k d)) later (own k d at)) (before_or_at k i below);
        others_quiet = λ k d below other.
            ⊎_elim (λ (old : k < i). quiet_less t (min others q) others (view (get_or cores k d)) (omega arith) (so_far.others_quiet k d old other))
            (λ (at : k ≡ i). quiet_less t (min others q) q (view (get_or cores k d)) (omega arith) (own k d at)) (before_or_at k i below);
        within = let before = so_far.within in omega arith;
      }

  module _ (owns : Owns Inner Chan) (laws : Laws rules owns) where
    -- what a core sends that is quiet at first
    pub late_asks : (t q k e c : ℕ) (core : CoreValue Inner) → e ≡ t + k → e ≤ TOP → IsCoreOf rules owns c core → IsQuiet rules t q core → q ≤ k → Each (λ x. t + q ≤ (id_of x).cycle) (ticks_of rules t k core).1
    late_asks t q k e c core end top is quiet low =
        let now = ticks_of rules t q core in
        let rest = ticks_of rules (t + q) (k - q) now.0 in
        let both = ticks_on rules t q k (k - q) (t + q) core now.0 [] now.1 (omega arith) refl refl refl in
        subst (Each (λ x. t + q ≤ (id_of x).cycle)) (sym (ap (λ xs. xs ++ rest.1) quiet.silent) ∙ both.1)
        (each_weaker (λ x of. of.low) rest.1 (ticks_asks rules owns laws (t + q) (k - q) e c now.0 (omega arith) top (ticks_core rules owns laws t q c core (omega arith) is)))
