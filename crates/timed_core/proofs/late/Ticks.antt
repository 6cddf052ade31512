-- A tick with an Invalidate among its posts, and a tick of a core without the line.
use Rattle.std.proofs.Common.{◌≡◌, ◌∙◌, ℕ, ◌+◌, ◌≤◌, List, [], ◌∷◌, ◌++◌, Option, None, length, refl, sym, ap, subst, arith}
use Rattle.slack_base.specs.declared.messages.Ask.{Ask}
use Rattle.slack_base.specs.declared.messages.Post.{Post}
use Rattle.slack_base.specs.declared.messages.PostKind.{PostKind}
use Rattle.slack_base.specs.declared.messages.PostKind.TheVariants.{Invalidate}
use Rattle.timed_core.specs.Code.{CodeValue}
use Rattle.timed_core.specs.Cores.{HartValue}
use Rattle.timed_core.specs.Posts.{applied}
use Rattle.timed_core.specs.Ticks.{applied_all, asks_of, id_at, stepped, tick}
use Rattle.timed_core.proofs.late.Touched.{posted, line_of_step}
use Rattle.timed_core.proofs.late.Places.{IsApart}
use Rattle.timed_core.proofs.late.GivenUp.{less, applied_passes}
use Rattle.timed_core.proofs.late.Steps.{stepped_passes}
use Rattle.timed_core.proofs.late.SetCount.{count_of, applied_count, applied_all_count}
use Rattle.timed_core.proofs.late.Rising.{AreApart}

pub invalidate_apart : (n m line : ℕ) (kind : PostKind) → kind ≡ Invalidate → IsApart n (posted kind m) line
invalidate_apart n m line kind h = subst (λ k. IsApart n (posted k m) line) (sym h) tt

module _ (base line t : ℕ) where
  abbrev after : ℕ → List Post → HartValue × Option Ask → HartValue × List Ask
  after n due one = let rest = applied_all base t (n + length (asks_of one.1)) one.0 due in (rest.0, asks_of one.1 ++ rest.1)

  -- posts of other sets
  pub all_pass : (n : ℕ) (core : HartValue) (due : List Post) → 1 ≤ count_of core → AreApart (count_of core) due line
      → applied_all base t n (less base line core) due ≡ (less base line (applied_all base t n core due).0, (applied_all base t n core due).1)
  all_pass n core [] some apart = refl
  all_pass n core (q ∷ due) some apart =
      let one = applied q.kind base q.line (id_at t core n) core in
      let e = applied_count base (id_at t core n) q.line core q.kind in
      ap (after n due) (applied_passes base line (id_at t core n) q.line core q.kind some apart.0)
      ∙ ap (λ (r : HartValue × List Ask). (r.0, asks_of one.1 ++ r.1)) (all_pass (n + length (asks_of one.1)) one.0 due (omega arith) (subst (λ c. AreApart c due line) (sym e) apart.1))

  module _ (p : Post) (kind : p.kind ≡ Invalidate) (its : p.line ≡ line) where
    -- the Invalidate by itself
    first_is : (n : ℕ) (core : HartValue) (due : List Post) → applied_all base t n core (p ∷ due) ≡ applied_all base t n (less base line core) due
    unfolding applied
    first_is n core due =
        ap (λ k. after n due (applied k base p.line (id_at t core n) core)) kind
        ∙ ap (λ m. after n due (less base m core, None)) its
        ∙ ap (λ j. applied_all base t j (less base line core) due) (let e : n + 0 ≡ n = omega arith in e)

    -- after posts of other sets it is as if it had come first
    pub late_posts : (n : ℕ) (core : HartValue) (us vs : List Post) → 1 ≤ count_of core → AreApart (count_of core) us line
        → applied_all base t n core (us ++ p ∷ vs) ≡ applied_all base t n (less base line core) (us ++ vs)
    late_posts n core [] vs some apart = first_is n core vs
    late_posts n core (u ∷ us) vs some apart =
        let one = applied u.kind base u.line (id_at t core n) core in
        let e = applied_count base (id_at t core n) u.line core u.kind in
        ap (λ (r : HartValue × List Ask). (r.0, asks_of one.1 ++ r.1)) (late_posts (n + length (asks_of one.1)) one.0 us vs (omega arith) (subst (λ c. AreApart c us line) (sym e) apart.1))
        ∙ ap (after n (us ++ vs)) (sym (applied_passes base line (id_at t core n) u.line core u.kind some apart.0))

    -- before posts of other sets it is as if it came last
    pub soon_posts : (n : ℕ) (core : HartValue) (us vs : List Post) → 1 ≤ count_of core → AreApart (count_of core) vs line
        → applied_all base t n core (us ++ p ∷ vs) ≡ (less base line (applied_all base t n core (us ++ vs)).0, (applied_all base t n core (us ++ vs)).1)
    soon_posts n core [] vs some apart = first_is n core vs ∙ all_pass n core vs some apart
    soon_posts n core (u ∷ us) vs some apart =
        let one = applied u.kind base u.line (id_at t core n) core in
        let e = applied_count base (id_at t core n) u.line core u.kind in
        ap (λ (r : HartValue × List Ask). (r.0, asks_of one.1 ++ r.1)) (soon_posts (n + length (asks_of one.1)) one.0 us vs (omega arith) (subst (λ c. AreApart c vs line) (sym e) apart))

module _ (code : CodeValue) (line t : ℕ) where
  -- what a tick leaves, without the line
  abbrev pub Less : HartValue × List Ask → HartValue × List Ask
  Less r = (less code.base line r.0, r.1)

  -- what a tick makes of what its posts leave
  abbrev stepping : HartValue × List Ask → HartValue × List Ask
  stepping posts =
      let step = stepped code (id_at t posts.0 (length posts.1)) posts.0 in
      (step.0, posts.1 ++ asks_of step.1)

  tick_is : (core : HartValue) (due : List Post) → tick code core t due ≡ stepping (applied_all code.base t 0 core due)
  unfolding tick
  tick_is core due = refl

  stepping_passes : (posts : HartValue × List Ask) → IsApart (count_of posts.0) (line_of_step code posts.0) line → stepping (Less posts) ≡ Less (stepping posts)
  stepping_passes posts apart = ap (λ (s : HartValue × Option Ask). (s.0, posts.1 ++ asks_of s.1)) (stepped_passes code line (id_at t posts.0 (length posts.1)) posts.0 apart)

  abbrev step_line : HartValue → List Post → Option ℕ
  step_line core due = line_of_step code (applied_all code.base t 0 core due).0

  step_apart : (core : HartValue) (due : List Post) → IsApart (count_of core) (step_line core due) line → IsApart (count_of (applied_all code.base t 0 core due).0) (step_line core due) line
  step_apart core due apart = subst (λ n. IsApart n (step_line core due) line) (sym (applied_all_count code.base t 0 core due)) apart

  -- a tick that touches other sets alone
  pub tick_passes : (core : HartValue) (due : List Post) → 1 ≤ count_of core → AreApart (count_of core) due line → IsApart (count_of core) (step_line core due) line
      → tick code (less code.base line core) t due ≡ Less (tick code core t due)
  tick_passes core due some apart other =
      tick_is (less code.base line core) due
      ∙ ap stepping (all_pass code.base line t 0 core due some apart)
      ∙ stepping_passes (applied_all code.base t 0 core due) (step_apart core due other)
      ∙ ap Less (sym (tick_is core due))

  module _ (p : Post) (kind : p.kind ≡ Invalidate) (its : p.line ≡ line) (core : HartValue) (us vs : List Post) (some : 1 ≤ count_of core) where
    pub late_tick : AreApart (count_of core) us line → tick code core t (us ++ p ∷ vs) ≡ tick code (less code.base line core) t (us ++ vs)
    late_tick apart =
        tick_is core (us ++ p ∷ vs)
        ∙ ap stepping (late_posts code.base line t p kind its 0 core us vs some apart)
        ∙ sym (tick_is (less code.base line core) (us ++ vs))

    pub soon_tick : AreApart (count_of core) vs line → IsApart (count_of core) (step_line core (us ++ vs)) line → tick code core t (us ++ p ∷ vs) ≡ Less (tick code core t (us ++ vs))
    soon_tick apart other =
        tick_is core (us ++ p ∷ vs)
        ∙ ap stepping (soon_posts code.base line t p kind its 0 core us vs some apart)
        ∙ stepping_passes (applied_all code.base t 0 core (us ++ vs)) (step_apart core (us ++ vs) other)
        ∙ ap Less (sym (tick_is core (us ++ vs)))
