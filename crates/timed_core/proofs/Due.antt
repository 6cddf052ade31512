-- Posts that are taken one by one, and the due ones as one list.
use Rattle.std.proofs.Common.{◌≡◌, ◌∙◌, ℕ, ◌+◌, ◌-◌, ◌<◌, ◌≤◌, true, false, List, [], ◌∷◌, ◌++◌, filter, length, nat_le, nat_lt, refl, sym, ap, arith, append-nil, append_assoc, length-append}
use Rattle.std.proofs.lemmas.Bool.Decides.{nat_tests}
use Rattle.std.specs.List.{AllByRecursion}
use Rattle.slack_base.specs.declared.messages.Ask.{Ask}
use Rattle.slack_base.specs.declared.messages.Post.{Post}
use Rattle.slack_base.specs.declared.stamps.Id.{Id}
use Rattle.slack_base.specs.Inboxes.{CoreValue, tick_by}
use Rattle.timed_core.specs.Code.{CodeValue}
use Rattle.timed_core.specs.Cores.{HartValue}
use Rattle.timed_core.specs.Ticks.{applied_all, asks_of, id_at, stepped, tick}

abbrev pub due_by : ℕ → List Post → List Post
due_by t inbox = filter (λ p. nat_le p.due t) inbox

abbrev pub later_than : ℕ → List Post → List Post
later_than t inbox = filter (λ p. nat_lt t p.due) inbox

-- where the posts that are still due lead, once asks were appended to a list of this length
abbrev pub through_due : (base t before : ℕ) → HartValue → List Post → List Ask → HartValue × List Ask
through_due base t before hart inbox out =
    let rest = applied_all base t (length out - before) hart (due_by t inbox) in (rest.0, out ++ rest.1)

not_due : (t due : ℕ) → t < due → nat_le due t ≡ false
not_due t due h = grind (arith, nat_tests)

is_later : (t due : ℕ) → t < due → nat_lt t due ≡ true
is_later t due h = grind (arith, nat_tests)

pub none_due : (t : ℕ) (inbox : List Post) → AllByRecursion (λ p. t < p.due) inbox → due_by t inbox ≡ []
none_due t [] h = refl
none_due t (p ∷ inbox) h = rw (not_due t p.due h.0) (none_due t inbox h.1)

pub all_later : (t : ℕ) (inbox : List Post) → AllByRecursion (λ p. t < p.due) inbox → later_than t inbox ≡ inbox
all_later t [] h = refl
all_later t (p ∷ inbox) h = rw (is_later t p.due h.0) (ap (λ rest. p ∷ rest) (all_later t inbox h.1))

-- posts that are due at a cycle at the earliest come later than each before it
pub later_by : (t due : ℕ) (inbox : List Post) → t < due → AllByRecursion (λ p. due ≤ p.due) inbox → AllByRecursion (λ p. t < p.due) inbox
later_by t due [] lt h = tt
later_by t due (p ∷ inbox) lt h = (omega (arith, h.0), later_by t due inbox lt h.1)

-- with no post that is due nothing changes
pub none_through : (base t before : ℕ) (hart : HartValue) (inbox : List Post) (out : List Ask) → AllByRecursion (λ p. t < p.due) inbox →
    through_due base t before hart inbox out ≡ (hart, out)
none_through base t before hart inbox out h =
    ap (λ due. let rest = applied_all base t (length out - before) hart due in (rest.0, out ++ rest.1)) (none_due t inbox h)
    ∙ ap (λ asks. (hart, asks)) (append-nil out)

-- what stands once none is due any more
pub record IsDone (base t : ℕ) (first : HartValue) (inbox : List Post) (sent : List Ask) (last : HartValue) (out : List Ask) : Type 0 where
  pub hart : last ≡ (applied_all base t 0 first (due_by t inbox)).0
  pub asks : out ≡ sent ++ (applied_all base t 0 first (due_by t inbox)).1

pub done : (base t before : ℕ) (hart first : HartValue) (left inbox : List Post) (out sent : List Ask) →
    AllByRecursion (λ p. t < p.due) left → before ≡ length sent →
    through_due base t before hart left out ≡ through_due base t before first inbox sent → IsDone base t first inbox sent hart out
done base t before hart first left inbox out sent late begun same =
    let none : length sent - before ≡ 0 = omega arith in
    let reached : (hart, out) ≡ through_due base t before first inbox sent = sym (none_through base t before hart left out late) ∙ same in
    let from_none = ap (λ n. let rest = applied_all base t n first (due_by t inbox) in (rest.0, sent ++ rest.1)) none in
    record { hart = ap (λ r. r.0) (reached ∙ from_none); asks = ap (λ r. r.1) (reached ∙ from_none) }

-- the tick of a core, by what its posts left: the hart, and the asks that were sent
pub record IsTicked (code : CodeValue) (t : ℕ) (core : CoreValue HartValue) (hart : HartValue) (left : List Post) (sent out : List Ask) : Type 0 where
  pub after : record { inner = hart; inbox = left } ≡ (tick_by (tick code) t core).0
  pub asks : out ≡ sent ++ (tick_by (tick code) t core).1

pub ticked : (code : CodeValue) (t before : ℕ) (core : CoreValue HartValue) (hart : HartValue) (left : List Post) (sent out : List Ask) (id : Id) →
    before ≡ length sent → left ≡ later_than t core.inbox → IsDone code.base t core.inner core.inbox sent hart out →
    id ≡ id_at t hart (length out - before) →
    IsTicked code t core (stepped code id hart).0 left sent (out ++ asks_of (stepped code id hart).1)
unfolding tick
ticked code t before core hart left sent out id begun later posts id_is =
    let all = applied_all code.base t 0 core.inner (due_by t core.inbox) in
    let total : length out ≡ length sent + length all.1 = ap length posts.asks ∙ length-append sent all.1 in
    let number : length out - before ≡ length all.1 = omega arith in
    let same : id ≡ id_at t all.0 (length all.1) =
    id_is ∙ ap (λ h. id_at t h (length out - before)) posts.hart ∙ ap (λ n. id_at t all.0 n) number in
    let step : stepped code id hart ≡ stepped code (id_at t all.0 (length all.1)) all.0 =
    ap (λ h. stepped code id h) posts.hart ∙ ap (λ i. stepped code i all.0) same in
    let last = stepped code (id_at t all.0 (length all.1)) all.0 in
    record {
      after = ap (λ s. record { inner = s.0; inbox = left }) step ∙ ap (λ inbox. record { inner = last.0; inbox = inbox }) later;
      asks = ap (λ o. o ++ asks_of (stepped code id hart).1) posts.asks
          ∙ ap (λ s. (sent ++ all.1) ++ asks_of s.1) step
          ∙ append_assoc sent all.1 (asks_of last.1);
    }
