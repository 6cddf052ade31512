-- The small target keeps to the laws. No tactic is used here: what stands in specs gives its own proof.
use Rattle.std.proofs.Common.{◌≡◌, ◌∙◌, ℕ, ◌+◌, ◌%◌, ◌<◌, ◌≤◌, ◌==◌, ◌&&◌, List, [], ◌∷◌, ◌++◌, Bool, true, false, cond, nat_lt, nat_le, Option, Some, None, sym, ap, subst, refl}
use Rattle.std.specs.Cmp.{IsTotalOrder}
use Rattle.std.specs.List.{All, AllByRecursion as Each}
use Rattle.std.specs.Ordering.{is_gt, ordering_reverse}
use Rattle.std.specs.declared.cmp.Ordering.{Ordering}
use Rattle.std.specs.declared.cmp.Ordering.TheVariants.{Less, Equal, Greater}
use Rattle.std.proofs.Math.Dec.{lit<, lit≤}
use Rattle.std.proofs.Math.Nat.{mod-lt, le_refl, le_trans, lt_irrefl, lt_of_lt_of_le, add-le-add, not-suc-le-zero, le_of_suc-le-suc}
use Rattle.std.proofs.Math.Numerals.{lt-add-one}
use Rattle.std.proofs.lemmas.Bool.{and_parts, ltb-true, lt-ltb, leb-true, le-leb, true≢false}
use Rattle.std.proofs.lemmas.Cmp.{then_total, on_total, nat_cmp_total, upto}
use Rattle.std.proofs.lemmas.List.Elements.{All-nil, All-cons}
use Rattle.std.proofs.lemmas.Option.{none-some}
use Rattle.slack_base.specs.declared.bounds.TheConstants.{TOP}
use Rattle.slack_base.specs.declared.messages.Ask.{Ask}
use Rattle.slack_base.specs.declared.messages.Ask.TheVariants.{Read}
use Rattle.slack_base.specs.declared.messages.Post.{Post}
use Rattle.slack_base.specs.declared.stamps.Id.{Id}
use Rattle.slack_base.specs.HighestIds.{later_of, clash_with}
use Rattle.slack_base.specs.Inboxes.{CoreValue}
use Rattle.slack_base.specs.Messages.{id_of}
use Rattle.slack_base.specs.Stamps.{id_cmp, is_above}
use Rattle.target_law.specs.Laws.{Laws, AreIds, IsTick, IsServing, IsPostOf, IsCommuting, IsClosing, IsNext, IsLatePut, IsUnseen}
use Rattle.target_law.specs.Proper.{IsProperAsk, IsCoreOf, IsChanOf}
use Rattle.target_law.specs.Served.{IsAbove, Perm, none, more, inserted, served_all}
use Rattle.target_law.specs.Trio.{TrioInner, TrioChannel, trio_clash, trio_serve, trio_rules, trio_owns, told_next}

id_cmp_total : IsTotalOrder id_cmp
id_cmp_total =
    then_total (on_total (λ (i : Id). i.cycle) nat_cmp_total)
    (then_total (on_total (λ (i : Id). i.core) nat_cmp_total) (on_total (λ (i : Id). i.number) nat_cmp_total))

up_to : (i j k : Id) → is_above i j ≡ false → is_above j k ≡ false → is_above i k ≡ false
up_to i j k = upto id_cmp_total i j k

turned : (r : Ordering) → is_gt r ≡ true → is_gt (ordering_reverse r) ≡ false
turned Less e = absurd (true≢false (sym e))
turned Equal e = refl
turned Greater e = refl

above_back : (i j : Id) → is_above i j ≡ true → is_above j i ≡ false
above_back i j h = ap is_gt (id_cmp_total.antisymm j i) ∙ turned (id_cmp i j) h

by_test : {X : Type 0} (b : Bool) → (b ≡ true → X) → (b ≡ false → X) → X
by_test true f g = f refl
by_test false f g = g refl

within_test : (core cycle : ℕ) → (nat_lt core 3 && nat_le cycle TOP) ≡ true → (core < 3) × (cycle ≤ TOP)
within_test core cycle h =
    let both = and_parts (nat_lt core 3) (nat_le cycle TOP) h in
    (ltb-true core 3 both.0, leb-true cycle TOP both.1)

test_within : (core cycle : ℕ) → core < 3 → cycle ≤ TOP → (nat_lt core 3 && nat_le cycle TOP) ≡ true
test_within core cycle h k = ap (λ b. b && nat_le cycle TOP) (lt-ltb core 3 h) ∙ le-leb cycle TOP k

-- the asks of a tick: one, or none
abbrev some_asks : (b : Bool) (t place : ℕ) → List Ask
some_asks b t place = cond b (Read (record { cycle = t; core = place; number = 0 }) 0 ∷ []) []

asks_proper : (b : Bool) (t place : ℕ) → place < 3 → t ≤ TOP → All (IsProperAsk trio_rules) (some_asks b t place)
asks_proper true t place low early =
    All-cons (IsProperAsk trio_rules) (Read (record { cycle = t; core = place; number = 0 }) 0) []
    (test_within place t low early) (All-nil (IsProperAsk trio_rules))
asks_proper false t place low early = All-nil (IsProperAsk trio_rules)

asks_numbered : (b : Bool) (t number place : ℕ) → number ≡ place → AreIds t place 0 (some_asks b t number)
asks_numbered true t number place e = ((λ i. record { cycle = t; core = e i; number = 0 }), tt)
asks_numbered false t number place e = tt

trio_ticks : (t place : ℕ) (core : CoreValue TrioInner) → t ≤ TOP → IsCoreOf trio_rules trio_owns place core
    → IsTick trio_rules trio_owns t place core
trio_ticks t place core early is = record {
  own = is.own;
  number = is.number;
  proper = asks_proper (t % (core.inner.number + 2) == 0) t core.inner.number is.own early;
  ids = asks_numbered (t % (core.inner.number + 2) == 0) t core.inner.number place is.number;
}

next_within : (core : ℕ) → (core + 1) % 3 < 3
next_within core = mod-lt (core + 1) (lit< tt)

trio_serves : (chan : TrioChannel) (ask : Ask) → IsProperAsk trio_rules ask → IsChanOf trio_rules trio_owns (trio_rules.channel_of ask) chan
    → IsServing trio_rules trio_owns (trio_rules.channel_of ask) chan ask
trio_serves chan ask proper is = record {
  own = is.own;
  number = is.number;
  posts = All-cons (IsPostOf trio_rules ask) (told_next ask) [] (record {
    proper = lt-ltb (((id_of ask).core + 1) % 3) 3 (next_within (id_of ask).core);
    id = refl;
    due = le_refl ((id_of ask).cycle + 2);
  }) (All-nil (IsPostOf trio_rules ask));
  once = λ i j d l m. absurd (not-suc-le-zero (le_trans l (le_of_suc-le-suc m)));
}

-- what doesn't clash is below
not_above : (high id : Id) → clash_with (Some high) id ≡ None → is_above high id ≡ false
not_above high id e = elim (is_above high id) as (λ b. cond b (Some high) None ≡ None → b ≡ false) [ true ↦ λ e. absurd (none-some high (sym e)) | false ↦ λ _. refl ] e

-- what doesn't clash with the greater of two is above neither
low_of : (highest : Option Id) (id x : Id) → clash_with (Some (later_of highest id)) x ≡ None
    → (clash_with highest x ≡ None) × (is_above id x ≡ false)
low_of None id x e = (refl, not_above id x e)
low_of (Some high) id x e =
    by_test (is_above high id)
    (λ on.
    let high_low = not_above high x (ap (λ b. clash_with (Some (cond b high id)) x) (sym on) ∙ e) in
    (ap (λ b. cond b (Some high) None) high_low, up_to id high x (above_back high id on) high_low))
    (λ off.
    let id_low = not_above id x (ap (λ b. clash_with (Some (cond b high id)) x) (sym off) ∙ e) in
    (ap (λ b. cond b (Some high) None) (up_to high id x off id_low), id_low))

-- and what is above both doesn't clash with the greater
free_of : (highest : Option Id) (id x : Id) → clash_with highest x ≡ None → is_above id x ≡ false → clash_with (Some (later_of highest id)) x ≡ None
free_of None id x free low = ap (λ b. cond b (Some id) None) low
free_of (Some high) id x free low =
    by_test (is_above high id)
    (λ on. ap (λ b. clash_with (Some (cond b high id)) x) on ∙ free)
    (λ off. ap (λ b. clash_with (Some (cond b high id)) x) off ∙ ap (λ b. cond b (Some id) None) low)

all_low : (chan : TrioChannel) (asks : List Ask) (x : Ask) → trio_clash (served_all trio_rules chan asks).0 x ≡ None
    → (trio_clash chan x ≡ None) × Each (λ y. is_above (id_of y) (id_of x) ≡ false) asks
all_low chan [] x e = (e, tt)
all_low chan (y ∷ asks) x e =
    let rest = all_low (trio_serve chan y).0 asks x e in
    let low = low_of chan.highest (id_of y) (id_of x) rest.0 in
    (low.0, (low.1, rest.1))

all_free : (chan : TrioChannel) (asks : List Ask) (x : Ask) → trio_clash chan x ≡ None → Each (λ y. IsAbove x y) asks
    → trio_clash (served_all trio_rules chan asks).0 x ≡ None
all_free chan [] x free above = free
all_free chan (y ∷ asks) x free above =
    all_free (trio_serve chan y).0 asks x (free_of chan.highest (id_of y) (id_of x) free (above_back (id_of x) (id_of y) above.0)) above.1

-- an ask that is above all goes behind them
insert-last : (x : Ask) (asks : List Ask) → Each (λ y. is_above (id_of y) (id_of x) ≡ false) asks → inserted x asks ≡ asks ++ x ∷ []
insert-last x [] h = refl
insert-last x (y ∷ asks) h = ap (λ b. cond b (x ∷ y ∷ asks) (y ∷ inserted x asks)) h.0 ∙ ap (λ zs. y ∷ zs) (insert-last x asks h.1)

perm_same : {X : Type 0} (xs : List X) → Perm X xs xs
perm_same [] = none
perm_same (x ∷ xs) = more x (perm_same xs)

trio_commutes : (chan : TrioChannel) (asks : List Ask) (x : Ask) → trio_clash (served_all trio_rules chan asks).0 x ≡ None
    → IsCommuting trio_rules chan asks x
trio_commutes chan asks x e =
    let last = insert-last x asks (all_low chan asks x e).1 in
    record {
      value = ap (λ xs. (served_all trio_rules chan xs).0) (sym last);
      posts = subst (λ xs. Perm _ (served_all trio_rules chan (asks ++ x ∷ [])).1 (served_all trio_rules chan xs).1) (sym last) (perm_same _);
    }

-- a closed channel has served nothing since
closed_free : (chan : TrioChannel) (x : Ask) → trio_rules.close chan ≡ chan → trio_clash chan x ≡ None
closed_free chan x closed = ap (λ (c : TrioChannel). clash_with c.highest (id_of x)) (sym closed)

trio_reopens : (chan : TrioChannel) (asks : List Ask) (x : Ask) → IsNext trio_rules trio_owns chan asks x
    → IsClosing trio_rules (served_all trio_rules chan asks).0 x
trio_reopens chan asks x is = record { free = all_free chan asks x (closed_free chan x is.since.closed) is.above; posts = refl; value = refl }

-- nothing counts as untouched, so no late put goes unseen
trio_unseen : (place due k : ℕ) (core : CoreValue TrioInner) (taken : ℕ → List Post) (p : Post)
    → IsLatePut trio_rules trio_owns place due k core taken p → IsUnseen trio_rules due k core taken p
trio_unseen place due k core taken p late =
    let later : due < due + k = lt_of_lt_of_le (lt-add-one due) (add-le-add (le_refl due) late.some) in
    absurd (lt_irrefl due (lt_of_lt_of_le later (le_trans late.top late.untouched)))

pub trio_laws : Laws trio_rules trio_owns
trio_laws = record {
  some_cores = lit≤ tt;
  some_channels = lit≤ tt;
  soon = lit≤ tt;
  asks = λ ask is.
      let both = within_test (id_of ask).core (id_of ask).cycle is in
      record { core = both.0; channel = lit< tt; cycle = both.1 };
  posts = λ p is. ltb-true p.to 3 is;
  ticks = trio_ticks;
  serves = trio_serves;
  closes = λ place chan is. record { own = is.own; number = is.number };
  closes_once = λ place chan is. refl;
  commutes = λ chan asks x is. trio_commutes chan asks x is.free;
  reopens = trio_reopens;
  unseen = trio_unseen;
}
