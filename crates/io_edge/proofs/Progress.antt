-- How far a source was read.
use Rattle.std.proofs.Common.{◌≡◌, ℕ, ◌+◌, ◌≤◌, List, [], ◌++◌, Option, Some, None, IfSome, take, drop, length, refl, sym, ap, ◌∙◌, subst, append_assoc, arith, length-append}
use Rattle.std.proofs.lemmas.List.{take-append-drop, append-nil, length-take-le, drop_at}
use Rattle.io_edge.specs.Streams.{MovesFirst}
use Rattle.io_edge.specs.Whole.{IsFront}

-- of what a source told, these bytes were taken, and it now tells the rest
abbrev pub Progress : Option (List ℕ) → Option (List ℕ) → List ℕ → Type 0
Progress None now bytes = now ≡ None
Progress (Some told) now bytes = (rest : List ℕ) × (now ≡ Some rest) × (told ≡ bytes ++ rest)

pub starts : (told : Option (List ℕ)) → Progress told told []
starts None = refl
starts (Some told) = (told, refl, refl)

-- what one more call does
one_more : (told bytes rest : List ℕ) (new : Option (List ℕ)) (n : ℕ) (buffer : List ℕ) → told ≡ bytes ++ rest → MovesFirst (Some rest) new n buffer → Progress (Some told) new (bytes ++ take n buffer)
one_more told bytes rest new n buffer e m = (drop n rest, m.2, e ∙ ap (λ xs. bytes ++ xs) (sym (take-append-drop n rest)) ∙ sym (append_assoc bytes (take n rest) (drop n rest)) ∙ ap (λ xs. (bytes ++ xs) ++ drop n rest) (sym m.3))

pub goes_on : (told now new : Option (List ℕ)) (bytes : List ℕ) (n : ℕ) (buffer : List ℕ) → Progress told now bytes → MovesFirst now new n buffer → Progress told new (bytes ++ take n buffer)
goes_on None now new bytes n buffer p m = (subst (λ o. MovesFirst o new n buffer) p m).1
goes_on (Some told) now new bytes n buffer p m = one_more told bytes p.0 new n buffer p.2 (subst (λ o. MovesFirst o new n buffer) p.1 m)

-- at the end of input all is read
at_end : (told bytes rest : List ℕ) (new : Option (List ℕ)) (buffer : List ℕ) → told ≡ bytes ++ rest → MovesFirst (Some rest) new 0 buffer → (bytes ≡ told) × (new ≡ Some [])
at_end told bytes rest new buffer e m =
    let none : rest ≡ [] = m.4 refl in
    (sym (e ∙ ap (λ xs. bytes ++ xs) none ∙ append-nil bytes), m.2 ∙ ap Some none)

pub ends : (told now new : Option (List ℕ)) (bytes buffer : List ℕ) → Progress told now bytes → MovesFirst now new 0 buffer → IfSome told (λ all. (bytes ≡ all) × (new ≡ Some []))
ends None now new bytes buffer p m = tt
ends (Some told) now new bytes buffer p m = at_end told bytes p.0 new buffer p.2 (subst (λ o. MovesFirst o new 0 buffer) p.1 m)

pub is_front : (told now : Option (List ℕ)) (bytes : List ℕ) (n : ℕ) → n ≡ length bytes → Progress told now bytes → IsFront told now n
is_front None now bytes n e p = p
is_front (Some told) now bytes n e p =
    (omega (arith, ap length p.2, length-append bytes p.0), p.1 ∙ ap Some (sym (ap (drop n) p.2 ∙ drop_at bytes p.0 n (sym e))))

-- a call moves no more than the buffer holds
pub moved_within : (now new : Option (List ℕ)) (n : ℕ) (buffer : List ℕ) → MovesFirst now new n buffer → n ≤ length buffer
moved_within None new n buffer m = m.0
moved_within (Some bytes) new n buffer m = m.0

-- what was taken once one more call is done
pub front_after : (told now new : Option (List ℕ)) (bytes : List ℕ) (n : ℕ) (buffer : List ℕ) (k : ℕ) → Progress told now bytes → MovesFirst now new n buffer → k ≡ length bytes + n → IsFront told new k
front_after told now new bytes n buffer k p m e =
    let within = moved_within now new n buffer m in
    is_front told new (bytes ++ take n buffer) k (omega (arith, length-append bytes (take n buffer), length-take-le n buffer within)) (goes_on told now new bytes n buffer p m)
