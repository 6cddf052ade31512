-- A value that may be marked, to come back to it.
use Rattle.std.specs.Prelude.{Option}

-- the present value, and the value at the mark where there is one
pub record Marked (X : Type 0) : Type 0 where
  pub value : X
  pub saved : Option X
