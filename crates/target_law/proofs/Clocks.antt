-- The posts that were taken at one clock, and clocks that never fall.
use Rattle.std.proofs.Common.{◌≡◌, ◌≢◌, ◌∙◌, ℕ, ◌+◌, ◌<◌, ◌≤◌, ◌==◌, List, [], ◌∷◌, ◌++◌, map, ap, arith}
use Rattle.std.specs.List.{filter, AllByRecursion as Each}
use Rattle.std.proofs.lemmas.List.{map-append}
use Rattle.std.proofs.lemmas.List.Elements.{filter-append}
use Rattle.slack_base.specs.declared.histories.Taken.{Taken}
use Rattle.slack_base.specs.declared.messages.Post.{Post}
use Rattle.target_law.specs.AloneLaw.{taken_at, AreClocks}
use Rattle.target_law.proofs.Lists.{each_weaker, filter-yes, filter-no, filter_none}
use Rattle.target_law.proofs.Numbers.{eq_is, eq_is_not}

abbrev pub posts_of : List Taken → List Post
posts_of taken = map (λ x. x.post) taken

pub taken_at-now : (a : ℕ) (x : Taken) (taken : List Taken) → x.clock ≡ a → taken_at a (x ∷ taken) ≡ x.post ∷ taken_at a taken
taken_at-now a x taken h = ap posts_of (filter-yes (λ x. x.clock == a) x taken (eq_is x.clock a h))

pub taken_at-not : (a : ℕ) (x : Taken) (taken : List Taken) → x.clock ≢ a → taken_at a (x ∷ taken) ≡ taken_at a taken
taken_at-not a x taken h = ap posts_of (filter-no (λ x. x.clock == a) x taken (eq_is_not x.clock a h))

pub taken_at-none : (a : ℕ) (taken : List Taken) → Each (λ x. a + 1 ≤ x.clock) taken → taken_at a taken ≡ []
taken_at-none a taken h =
    ap posts_of (filter_none (λ x. x.clock == a) taken (each_weaker (λ x k. eq_is_not x.clock a (λ e. omega arith)) taken h))

pub taken_at-append : (t : ℕ) (taken more : List Taken) → taken_at t (taken ++ more) ≡ taken_at t taken ++ taken_at t more
taken_at-append t taken more =
    ap posts_of (filter-append (λ x. x.clock == t) taken more) ∙ map-append (λ (x : Taken). x.post) (filter (λ x. x.clock == t) taken) (filter (λ x. x.clock == t) more)

-- nothing was taken after the last clock
pub taken_at-over : (t : ℕ) (taken : List Taken) → Each (λ x. x.clock < t) taken → taken_at t taken ≡ []
taken_at-over t taken h = ap posts_of (filter_none (λ x. x.clock == t) taken (each_weaker (λ x l. eq_is_not x.clock t (λ e. omega arith)) taken h))

pub clocks_lower : (low less high : ℕ) (taken : List Taken) → less ≤ low → AreClocks low high taken → AreClocks less high taken
clocks_lower low less high [] l h = tt
clocks_lower low less high (x ∷ taken) l h = (omega arith, h.1, h.2)

pub clocks_higher : (low high more : ℕ) (taken : List Taken) → high ≤ more → AreClocks low high taken → AreClocks low more taken
clocks_higher low high more [] l h = tt
clocks_higher low high more (x ∷ taken) l h = (h.0, omega arith, clocks_higher x.clock high more taken l h.2)

pub clocks_each : (low high : ℕ) (taken : List Taken) → AreClocks low high taken → Each (λ x. low ≤ x.clock) taken
clocks_each low high [] h = tt
clocks_each low high (x ∷ taken) h =
    let l : low ≤ x.clock = h.0 in
    (l, each_weaker (λ y k. omega arith) taken (clocks_each x.clock high taken h.2))

pub clocks_below : (low high : ℕ) (taken : List Taken) → AreClocks low high taken → Each (λ x. x.clock ≤ high) taken
clocks_below low high [] h = tt
clocks_below low high (x ∷ taken) h = (h.1, clocks_below x.clock high taken h.2)

-- one post more, at the last clock
pub clocks_more : (low high : ℕ) (taken : List Taken) (x : Taken) → low ≤ high → x.clock ≡ high → AreClocks low high taken → AreClocks low high (taken ++ x ∷ [])
clocks_more low high [] x l e h = (omega arith, omega arith, tt)
clocks_more low high (y ∷ taken) x l e h = (h.0, h.1, clocks_more y.clock high taken x h.1 e h.2)
