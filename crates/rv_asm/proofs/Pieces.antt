-- Texts put together of pieces: where they are divided, and what stands at their ends.
use Rattle.std.proofs.Common.{◌≡◌, ℕ, ◌+◌, ◌-◌, ◌<◌, ◌&&◌, Bool, true, false, not, cond, List, [], ◌∷◌, ◌++◌, length, take, drop, Option, Some, None, reverse, refl, sym, ap, ◌∙◌, arith, eqb, ltb, append_assoc, length-append}
use Rattle.std.specs.List.{list_all, prefix_len, suffix_len, position_or_len, before_first, after_first}
use Rattle.std.specs.Str.{bytes_eq}
use Rattle.std.proofs.Math.Seq.{take-append_seam, drop-append_seam, drop-append-add}
use Rattle.std.proofs.lemmas.Bool.Decides.{nat_tests}
use Rattle.std.proofs.lemmas.List.{take_all, take-append-drop, reverse-append}
use Rattle.std.proofs.lemmas.List.Folds.{list_all-append}
use Rattle.std.proofs.lemmas.Slice.Eq.{bytes_eq-Decides}
use Rattle.rv_asm.specs.Bytes.{is_blank, trim_start, trim_end, trim, parts_at, without_prefix, without_suffix}

pub both : (a b : Bool) → (a && b) ≡ true → (a ≡ true) × (b ≡ true)
both true b h = (refl, h)
both false b h = absurd cc

pub all_both : (test : ℕ → Bool) (xs ys : List ℕ) → list_all test xs ≡ true → list_all test ys ≡ true → list_all test (xs ++ ys) ≡ true
all_both test xs ys h k = list_all-append test xs ys ∙ ap (λ b. b && list_all test ys) h ∙ k

-- each byte that passes one test passes another
pub all_pass : (test other : ℕ → Bool) (xs : List ℕ) → ((x : ℕ) → test x ≡ true → other x ≡ true) → list_all test xs ≡ true → list_all other xs ≡ true
all_pass test other [] each h = refl
all_pass test other (x ∷ xs) each h =
    let parts = both (test x) (list_all test xs) h in
    ap (λ b. b && list_all other xs) (each x parts.0) ∙ all_pass test other xs each parts.1

pub not_equal : (a b : List ℕ) → (a ≡ b → ⊥) → bytes_eq a b ≡ false
not_equal a b h =
    elim (bytes_eq a b) as (λ t. bytes_eq a b ≡ t → t ≡ false) [
      | true ↦ λ same. absurd (h ((bytes_eq-Decides a b).0 same))
      | false ↦ λ other. refl
    ] refl

-- how long a front is that passes a test
prefix_front : (test : ℕ → Bool) (xs : List ℕ) (y : ℕ) (ys : List ℕ) → list_all test xs ≡ true → test y ≡ false → prefix_len test (xs ++ (y ∷ ys)) ≡ length xs
prefix_front test [] y ys h k = ap (λ b. cond b (1 + prefix_len test ys) 0) k
prefix_front test (x ∷ xs) y ys h k =
    let parts = both (test x) (list_all test xs) h in
    ap (λ b. cond b (1 + prefix_len test (xs ++ (y ∷ ys))) 0) parts.0 ∙ ap (λ n. 1 + n) (prefix_front test xs y ys parts.1 k) ∙ (let e : 1 + length xs ≡ length (x ∷ xs) = omega arith in e)

prefix_whole : (test : ℕ → Bool) (xs : List ℕ) → list_all test xs ≡ true → prefix_len test xs ≡ length xs
prefix_whole test [] h = refl
prefix_whole test (x ∷ xs) h =
    let parts = both (test x) (list_all test xs) h in
    ap (λ b. cond b (1 + prefix_len test xs) 0) parts.0 ∙ ap (λ n. 1 + n) (prefix_whole test xs parts.1) ∙ (let e : 1 + length xs ≡ length (x ∷ xs) = omega arith in e)

-- a text is divided at the first byte that passes
pub record Divides (test : ℕ → Bool) (text before after : List ℕ) : Type 0 where
  pub place : position_or_len test text ≡ length before
  pub low : length before < length text
  pub front : before_first test text ≡ before
  pub rest : after_first test text ≡ after

pub divides : (test : ℕ → Bool) (xs : List ℕ) (y : ℕ) (ys : List ℕ) → list_all (λ b. not (test b)) xs ≡ true → not (test y) ≡ false → Divides test (xs ++ (y ∷ ys)) xs ys
divides test xs y ys h k =
    let place : position_or_len test (xs ++ (y ∷ ys)) ≡ length xs = prefix_front (λ b. not (test b)) xs y ys h k in
    record {
      place = place;
      low = omega (arith, length-append xs (y ∷ ys));
      front = ap (λ n. take n (xs ++ (y ∷ ys))) place ∙ take-append_seam xs (y ∷ ys);
      rest = ap (λ n. drop (n + 1) (xs ++ (y ∷ ys))) place ∙ drop-append-add xs (y ∷ ys) 1;
    }

-- no byte passes
pub undivided : (test : ℕ → Bool) (xs : List ℕ) → list_all (λ b. not (test b)) xs ≡ true → position_or_len test xs ≡ length xs
undivided test xs h = prefix_whole (λ b. not (test b)) xs h

pub undivided_front : (test : ℕ → Bool) (xs : List ℕ) → list_all (λ b. not (test b)) xs ≡ true → before_first test xs ≡ xs
undivided_front test xs h =
    let place = undivided test xs h in
    take_all (position_or_len test xs) xs (omega (arith, place))

pub parts_of : (byte : ℕ) (xs ys : List ℕ) → list_all (λ b. not (eqb b byte)) xs ≡ true → not (eqb byte byte) ≡ false → parts_at byte (xs ++ (byte ∷ ys)) ≡ Some (xs, ys)
unfolding parts_at
parts_of byte xs ys h k =
    let at = divides (λ b. eqb b byte) xs byte ys h k in
    let text = xs ++ (byte ∷ ys) in
    let place = at.place in
    let low = at.low in
    let test : ltb (position_or_len (λ b. eqb b byte) text) (length text) ≡ true = grind (arith, nat_tests) in
    let whole : List ℕ × List ℕ = (before_first (λ b. eqb b byte) text, after_first (λ b. eqb b byte) text) in
    ap (λ b. cond b (Some whole) None) test
    ∙ ap {B = Option (List ℕ × List ℕ)} (λ front. Some (front, after_first (λ b. eqb b byte) text)) at.front
    ∙ ap {B = Option (List ℕ × List ℕ)} (λ rest. Some (xs, rest)) at.rest

-- no blank stands at the start of a text, nor at its end
pub record IsTight (text : List ℕ) : Type 0 where
  pub first : ℕ
  pub others : List ℕ
  pub starts : text ≡ first ∷ others
  pub first_is : is_blank first ≡ false
  pub front : List ℕ
  pub last : ℕ
  pub ends : text ≡ front ++ (last ∷ [])
  pub last_is : is_blank last ≡ false

-- two such texts, with anything between
pub tight_both : {xs ys : List ℕ} (middle : List ℕ) → IsTight xs → IsTight ys → IsTight (xs ++ (middle ++ ys))
tight_both {xs} {ys} middle p q = record {
  first = p.first;
  others = p.others ++ (middle ++ ys);
  starts = ap (λ x. x ++ (middle ++ ys)) p.starts;
  first_is = p.first_is;
  front = xs ++ (middle ++ q.front);
  last = q.last;
  ends = ap (λ y. xs ++ (middle ++ y)) q.ends ∙ ap (λ z. xs ++ z) (sym (append_assoc middle q.front (q.last ∷ []))) ∙ sym (append_assoc xs (middle ++ q.front) (q.last ∷ []));
  last_is = q.last_is;
}

pub record EndsTight (text : List ℕ) : Type 0 where
  pub front : List ℕ
  pub last : ℕ
  pub ends : text ≡ front ++ (last ∷ [])
  pub last_is : is_blank last ≡ false

no_blank : ℕ → Bool
no_blank b = not (is_blank b)

from_not : (b : Bool) → not b ≡ true → b ≡ false
from_not true h = absurd cc
from_not false h = refl

bare_end : (x : ℕ) (xs : List ℕ) → list_all (λ b. not (is_blank b)) (x ∷ xs) ≡ true → EndsTight (x ∷ xs)
bare_end x [] h = record { front = []; last = x; ends = refl; last_is = from_not (is_blank x) (both (not (is_blank x)) true h).0 }
bare_end x (y ∷ xs) h =
    let more = bare_end y xs (both (not (is_blank x)) (list_all (λ b. not (is_blank b)) (y ∷ xs)) h).1 in
    record { front = x ∷ more.front; last = more.last; ends = ap (λ z. x ∷ z) more.ends; last_is = more.last_is }

-- a text without blanks
pub bare : (text : List ℕ) → 0 < length text → list_all (λ b. not (is_blank b)) text ≡ true → IsTight text
bare [] some h = absurd (omega arith)
bare (x ∷ xs) some h =
    let end = bare_end x xs h in
    record {
      first = x;
      others = xs;
      starts = refl;
      first_is = from_not (is_blank x) (both (not (is_blank x)) (list_all (λ b. not (is_blank b)) xs) h).0;
      front = end.front;
      last = end.last;
      ends = end.ends;
      last_is = end.last_is;
    }

starts_at : (text : List ℕ) → IsTight text → prefix_len is_blank text ≡ 0
starts_at text p = ap (prefix_len is_blank) p.starts ∙ ap (λ b. cond b (1 + prefix_len is_blank p.others) 0) p.first_is

ends_at : (text : List ℕ) → IsTight text → suffix_len is_blank text ≡ 0
ends_at text p =
    ap (λ t. prefix_len is_blank (reverse t)) p.ends
    ∙ ap (prefix_len is_blank) (reverse-append p.front (p.last ∷ []))
    ∙ ap (λ b. cond b (1 + prefix_len is_blank (reverse p.front)) 0) p.last_is

pub same_start : (text : List ℕ) → IsTight text → trim_start text ≡ text
unfolding trim_start
same_start text p = ap (λ n. drop n text) (starts_at text p)

pub same_end : (text : List ℕ) → IsTight text → trim_end text ≡ text
unfolding trim_end
same_end text p = take_all (length text - suffix_len is_blank text) text (omega (arith, ends_at text p))

pub same_trimmed : (text : List ℕ) → IsTight text → trim text ≡ text
unfolding trim
same_trimmed text p = ap trim_end (same_start text p) ∙ same_end text p

-- the same behind a space
space_start : (text : List ℕ) → IsTight text → trim_start (32 ∷ text) ≡ text
unfolding trim_start
space_start text p = ap (λ n. drop (1 + n) (32 ∷ text)) (starts_at text p)

pub space_trimmed : (text : List ℕ) → IsTight text → trim (32 ∷ text) ≡ text
unfolding trim
space_trimmed text p = ap trim_end (space_start text p) ∙ same_end text p

pub front_of : (xs ys : List ℕ) → without_suffix ys (xs ++ ys) ≡ Some xs
unfolding without_suffix
front_of xs ys =
    let n : length (xs ++ ys) - length ys ≡ length xs = omega (arith, length-append xs ys) in
    let tail : drop (length (xs ++ ys) - length ys) (xs ++ ys) ≡ ys = ap (λ k. drop k (xs ++ ys)) n ∙ drop-append_seam xs ys in
    ap (λ b. cond b (Some (take (length (xs ++ ys) - length ys) (xs ++ ys))) None) ((bytes_eq-Decides (drop (length (xs ++ ys) - length ys) (xs ++ ys)) ys).1 tail)
    ∙ ap (λ k. Some (take k (xs ++ ys))) n
    ∙ ap Some (take-append_seam xs ys)

-- no front of a text is a prefix that has a byte that the text has not
pub no_prefix : (test : ℕ → Bool) (prefix text : List ℕ) → list_all test text ≡ true → list_all test prefix ≡ false → without_prefix prefix text ≡ None
unfolding without_prefix
no_prefix test prefix text h k =
    ap (λ b. cond b (Some (drop (length prefix) text)) None) (not_equal (take (length prefix) text) prefix (λ same.
    let front = both (list_all test (take (length prefix) text)) (list_all test (drop (length prefix) text)) (sym (list_all-append test (take (length prefix) text) (drop (length prefix) text)) ∙ ap (list_all test) (take-append-drop (length prefix) text) ∙ h) in
    let clash : list_all test prefix ≡ true = ap (list_all test) (sym same) ∙ front.0 in
    absurd cc))
