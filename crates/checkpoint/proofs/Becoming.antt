-- What an item is marked, taken back and kept as. An item is seen as its value and the value at its mark.
use Rattle.std.proofs.Common.{◌≡◌, Option, Some, None, IsSome, IfSome, sym, ap}

module _ {X V : Type 0} (value : X → V) (saved : X → Option V) where
  pub record GetsMarked (old now : X) : Type 0 where
    pub same : value now ≡ value old
    pub mark : saved now ≡ Some (value old)

  pub record GoesBack (old now : X) : Type 0 where
    pub back : saved old ≡ Some (value now)
    pub no_mark : saved now ≡ None

  pub record GetsKept (old now : X) : Type 0 where
    pub same : value now ≡ value old
    pub no_mark : saved now ≡ None

-- its mark is as it was
abbrev pub HasSameMark : {X V : Type 0} → (X → Option V) → X → X → Type 0
HasSameMark saved old now = saved now ≡ saved old

-- what is marked comes to be its mark
pub back_at : {V : Type 0} (saved : Option V) (now : V) → IsSome saved → IfSome saved (λ v. now ≡ v) → saved ≡ Some now
back_at None now some is = cc
back_at (Some v) now some is = ap Some (sym is)
