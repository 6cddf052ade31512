-- Where the monitors record nothing, no ask clashed or came after a greater one of its line, and late posts were harmless.
use Rattle.std.proofs.Common.{◌≡◌, ◌∙◌, ℕ, ◌+◌, ◌≤◌, ◌<◌, ◌&&◌, Bool, not, nat_le, List, [], ◌∷◌, ◌++◌, map, true, false, cond, Option, Some, None, refl, sym, ap, arith, nat_lt}
use Rattle.std.specs.List.{filter, flat_map, AllByRecursion as Each}
use Rattle.std.proofs.lemmas.Bool.Decides.{nat_tests}
use Rattle.std.proofs.lemmas.Bool.{false≢true}
use Rattle.slack_base.specs.declared.histories.Taken.{Taken}
use Rattle.slack_base.specs.declared.histories.Violation.{Violation}
use Rattle.slack_base.specs.declared.messages.Ask.{Ask}
use Rattle.slack_base.specs.declared.stamps.Id.{Id}
use Rattle.slack_base.specs.Messages.{id_of, line_of}
use Rattle.slack_base.specs.Stamps.{is_above}
use Rattle.target_law.specs.Schedules.{is_invalidate}
use Rattle.target_law.proofs.Lists.{each_weaker, each_any}
use Rattle.target_law.proofs.Numbers.{eq_is}
use Rattle.violation_watch.specs.Scan.{greatest, greatest_above, bus_entry, is_of_line, map_entry, map_entries, late_entry, take_entries, is_harmless, all_take_entries}
use Rattle.violation_watch.proofs.Lists.{each_from_filter, none_pass}

pub nothing_left : {X : Type 0} (xs ys : List X) → xs ++ ys ≡ [] → xs ≡ []
nothing_left [] ys h = refl
nothing_left (x ∷ xs) ys h = cc

pub nothing_right : {X : Type 0} (xs ys : List X) → xs ++ ys ≡ [] → ys ≡ []
nothing_right [] ys h = h
nothing_right (x ∷ xs) ys h = cc

pub no_greatest : (ids : List Id) → greatest ids ≡ None → ids ≡ []
no_greatest [] h = refl
no_greatest (i ∷ ids) h = cc

pub no_bus_entry : (channel : ℕ) (low : Id) (high : Option Id) → bus_entry channel low high ≡ [] → high ≡ None
no_bus_entry channel low None h = refl
no_bus_entry channel low (Some i) h = cc

pub each_of_map : {X Y : Type 0} (P : Y → Type 0) (f : X → Y) (xs : List X) → Each P (map f xs) → Each (λ x. P (f x)) xs
each_of_map P f [] h = tt
each_of_map P f (x ∷ xs) h = (h.0, each_of_map P f xs h.1)

no_map_entry : (line : ℕ) (low : Id) (high : Option Id) → map_entry line low high ≡ [] → high ≡ None
no_map_entry line low None h = refl
no_map_entry line low (Some i) h = cc

same_line : (line other : ℕ) (o : Option ℕ) → is_of_line line o ≡ false → line ≡ other → o ≡ Some other → ⊥
same_line line other o off e is = false≢true (sym off ∙ ap (is_of_line line) is ∙ eq_is other line (sym e))

-- no Map entry: no ask of the line had a greater id
pub quiet_line : (earlier : List Ask) (low : Id) (o : Option ℕ) → map_entries earlier low o ≡ [] → Each (λ y. (line : ℕ) → o ≡ Some line → line_of y ≡ Some line → is_above (id_of y) low ≡ false) earlier
quiet_line earlier low None h = each_any (λ y line e. cc) earlier
quiet_line earlier low (Some line) h =
    let own = filter (λ e. is_of_line line (line_of e)) earlier in
    let lower : Each (λ x. is_above (id_of x) low ≡ false) own =
    each_of_map (λ i. is_above i low ≡ false) id_of own
    (none_pass (λ high. is_above high low) (map id_of own) (no_greatest (filter (λ high. is_above high low) (map id_of own)) (no_map_entry line low (greatest_above low own) h))) in
    each_from_filter (λ e. is_of_line line (line_of e)) earlier
    (λ y off other e is. let same : line ≡ other = cc in absurd (same_line line other (line_of y) off same is))
    (each_weaker (λ y l other e is. l) own lower)

is_late : (due clock : ℕ) → due < clock → nat_lt due clock ≡ true
is_late due clock h = grind (arith, nat_tests)

at_most : (m n : ℕ) → nat_le m n ≡ true → m ≤ n
at_most m n h = grind (arith, nat_tests)

less_than : (m n : ℕ) → nat_lt m n ≡ true → m < n
less_than m n h = grind (arith, nat_tests)

both_true : (x y : Bool) → (x && y) ≡ true → (x ≡ true) × (y ≡ true)
both_true true y h = (refl, h)
both_true false y h = absurd (false≢true h)

-- a post that was taken late is harmless
pub record IsCalmTake (end : ℕ) (x : Taken) : Type 0 where
  pub kind : is_invalidate x.post.kind ≡ true
  pub touch : x.touched ≤ x.post.due
  pub before : x.clock < end

harmless_from : (late harmless : Bool) (v : Violation) → late ≡ true → cond (late && not harmless) (v ∷ []) [] ≡ [] → harmless ≡ true
harmless_from true true v h e = refl
harmless_from true false v h e = cc
harmless_from false harmless v h e = cc

quiet_take : (c end : ℕ) (x : Taken) → take_entries c end x ≡ [] → x.post.due < x.clock → IsCalmTake end x
quiet_take c end x h late =
    let harmless = harmless_from (nat_lt x.post.due x.clock) (is_harmless end x) (late_entry c x.post x.clock x.post.kind) (is_late x.post.due x.clock late) h in
    let parts = both_true (is_invalidate x.post.kind) (nat_le x.touched x.post.due && nat_lt x.clock end) harmless in
    let others = both_true (nat_le x.touched x.post.due) (nat_lt x.clock end) parts.1 in
    record { kind = parts.0; touch = at_most x.touched x.post.due others.0; before = less_than x.clock end others.1 }

abbrev pub AreCalmTakes : (end : ℕ) → List Taken → Type 0
AreCalmTakes end taken = Each (λ x. x.post.due < x.clock → IsCalmTake end x) taken

quiet_takes : (c end : ℕ) (taken : List Taken) → flat_map (take_entries c end) taken ≡ [] → AreCalmTakes end taken
quiet_takes c end [] h = tt
quiet_takes c end (x ∷ taken) h = (
  quiet_take c end x (nothing_left (take_entries c end x) (flat_map (take_entries c end) taken) h),
  quiet_takes c end taken (nothing_right (take_entries c end x) (flat_map (take_entries c end) taken) h),
)

-- no Line or Reply entry: each post that was taken late was harmless
pub all_calm : (c end : ℕ) (sent : List (List Taken)) → all_take_entries c end sent ≡ [] → Each (AreCalmTakes end) sent
all_calm c end [] h = tt
all_calm c end (taken ∷ sent) h = (
  quiet_takes c end taken (nothing_left (flat_map (take_entries c end) taken) (all_take_entries (c + 1) end sent) h),
  all_calm (c + 1) end sent (nothing_right (flat_map (take_entries c end) taken) (all_take_entries (c + 1) end sent) h),
)
