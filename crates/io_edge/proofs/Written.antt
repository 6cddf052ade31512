-- How far a text was written.
use Rattle.std.proofs.Common.{◌≡◌, ℕ, ◌+◌, ◌-◌, List, [], ◌++◌, Option, Some, None, take, drop, length, refl, sym, ap, ◌∙◌, append_assoc, take-add}
use Rattle.std.proofs.lemmas.List.{append-nil, take_rest}
use Rattle.io_edge.specs.Streams.{with_after}

-- one piece after another
pub with_after-with_after : (before : Option (List ℕ)) (a b : List ℕ) → with_after (with_after before a) b ≡ with_after before (a ++ b)
with_after-with_after None a b = refl
with_after-with_after (Some before) a b = ap Some (append_assoc before a b)

pub with_after-nil : (before : Option (List ℕ)) → with_after before [] ≡ before
with_after-nil None = refl
with_after-nil (Some before) = ap Some (append-nil before)

-- one more piece of a text is written
pub written_more : (before now new : Option (List ℕ)) (text : List ℕ) (done n : ℕ) → now ≡ with_after before (take done text) → new ≡ with_after now (take n (take (length text - done) (drop done text))) → new ≡ with_after before (take (done + n) text)
written_more before now new text done n e f =
    f ∙ ap (λ rest. with_after now (take n rest)) (take_rest text done)
    ∙ ap (λ o. with_after o (take n (drop done text))) e
    ∙ with_after-with_after before (take done text) (take n (drop done text))
    ∙ ap (with_after before) (sym (take-add done n text))
