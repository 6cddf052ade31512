-- The touch of a set: it only rises, and a set that isn't touched after a clock has an earlier touch.
use Rattle.std.proofs.Common.{◌≡◌, ◌≢◌, ◌∙◌, ℕ, ◌+◌, ◌%◌, ◌≤◌, List, [], ◌∷◌, ◌++◌, Option, None, Some, length, slice_index, refl, sym, ap, subst, inl, inr, arith}
use Rattle.std.proofs.lemmas.Bool.{cases_eq}
use Rattle.std.proofs.lemmas.List.{length-set, get_or-set_other, get_or-set_same}
use Rattle.std.proofs.Math.Nat.{mod-lt}
use Rattle.slack_base.specs.declared.messages.Post.{Post}
use Rattle.timed_core.proofs.late.Places.{IsApart}
use Rattle.timed_core.specs.Touches.{touch_of, touch_line}
use Rattle.timed_core.proofs.late.Touched.{touch_some, posted, touch_posts}

abbrev pub AreApart : (n : ℕ) → List Post → ℕ → Type 0
AreApart n [] line = Unit {0}
AreApart n (p ∷ due) line = IsApart n (posted p.kind p.line) line × AreApart n due line

pub apart_last : (n line : ℕ) (xs ys : List Post) → AreApart n (xs ++ ys) line → AreApart n ys line
apart_last n line [] ys h = h
apart_last n line (x ∷ xs) ys h = apart_last n line xs ys h.1

pub touch_some_length : (t : ℕ) (touches : List ℕ) (m : Option ℕ) → length (touch_some t touches m) ≡ length touches
touch_some_length t touches None = refl
touch_some_length t touches (Some m) = length-set touches (m % length touches) (t + 1)

pub touch_posts_length : (t : ℕ) (touches : List ℕ) (due : List Post) → length (touch_posts t touches due) ≡ length touches
touch_posts_length t touches [] = refl
touch_posts_length t touches (p ∷ due) = touch_posts_length t (touch_some t touches (posted p.kind p.line)) due ∙ touch_some_length t touches (posted p.kind p.line)

-- a touch at clock t is above d
touch_here : (t line m : ℕ) (touches : List ℕ) → 1 ≤ length touches → m % length touches ≡ line % length touches → touch_of (touch_line t touches m) line ≡ t + 1
touch_here t line m touches some same =
    ap (λ n. slice_index (touch_line t touches m) (line % n)) (length-set touches (m % length touches) (t + 1))
    ∙ ap (λ p. slice_index (touch_line t touches m) p) (sym same)
    ∙ get_or-set_same touches (m % length touches) (t + 1) 0 (mod-lt m some)

touch_other : (t line m : ℕ) (touches : List ℕ) → m % length touches ≢ line % length touches → touch_of (touch_line t touches m) line ≡ touch_of touches line
touch_other t line m touches other =
    ap (λ n. slice_index (touch_line t touches m) (line % n)) (length-set touches (m % length touches) (t + 1))
    ∙ get_or-set_other touches (m % length touches) (line % length touches) (t + 1) 0 (λ e. other (sym e))

pub record IsUntouched (d line : ℕ) (touches : List ℕ) (m : Option ℕ) : Type 0 where
  pub earlier : touch_of touches line ≤ d
  pub apart : IsApart (length touches) m line

module _ (d t line : ℕ) (late : d ≤ t) where
  pub some_back : (touches : List ℕ) (m : Option ℕ) → 1 ≤ length touches → touch_of (touch_some t touches m) line ≤ d → IsUntouched d line touches m
  some_back touches None some h = record { earlier = h; apart = tt }
  some_back touches (Some m) some h = elim (cases_eq (m % length touches) (line % length touches)) [
    | inl same ↦ let e = touch_here t line m touches some same in absurd (omega arith)
    | inr other ↦ record { earlier = subst (λ n. n ≤ d) (touch_other t line m touches other) h; apart = other }
  ]

  pub posts_back : (touches : List ℕ) (due : List Post) → 1 ≤ length touches → touch_of (touch_posts t touches due) line ≤ d → (touch_of touches line ≤ d) × AreApart (length touches) due line
  posts_back touches [] some h = (h, tt)
  posts_back touches (p ∷ due) some h =
      let m = posted p.kind p.line in
      let e = touch_some_length t touches m in
      let rest = posts_back (touch_some t touches m) due (omega arith) h in
      let first = some_back touches m some rest.0 in
      (first.earlier, (first.apart, subst (λ n. AreApart n due line) e rest.1))
