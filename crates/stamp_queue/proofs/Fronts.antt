-- What is left of a list of which a front was received.
use Rattle.std.proofs.Common.{◌≡◌, List, [], ◌∷◌, ◌++◌, sym, ap, ◌∙◌, append_assoc}

module _ {X : Type 0} where
  -- one item more is received: the rest of the ring, and what waits, is left
  pub one_more_received : (before known now rest pushed waiting : List X) (x : X) → before ++ known ≡ pushed → known ≡ x ∷ rest → now ≡ before ++ x ∷ [] → now ++ (rest ++ waiting) ≡ pushed ++ waiting
  one_more_received before known now rest pushed waiting x whole first e =
      sym (append_assoc now rest waiting)
      ∙ ap (λ xs. xs ++ waiting) (ap (λ xs. xs ++ rest) e ∙ append_assoc before (x ∷ []) rest ∙ ap (λ xs. before ++ xs) (sym first) ∙ whole)
