-- What is so of an answer that is Ok.
use Rattle.std.proofs.Common.{◌≡◌, Result, Ok, Err, IsOkAnd, refl}

pub found : {T E : Type 0} (r : Result T E) (P : T → Type 0) → IsOkAnd r P → (x : T) × (r ≡ Ok x) × P x
found (Ok x) P h = (x, refl, h)
found (Err e) P h = absurd h
