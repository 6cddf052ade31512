-- All of a hart but its cache and its touches.
use Rattle.std.specs.Prelude.{ℕ, Bool, List, Option}
use Rattle.slack_base.specs.declared.cores.CoreEnd.{CoreEnd}
use Rattle.slack_base.specs.declared.cores.Counts.{Counts}
use Rattle.timed_core.specs.Cores.{HartValue}
use Rattle.timed_core.specs.TouchedCaches.{TouchedCache}

pub record PartsValue : Type 0 where
  pub number : ℕ
  pub pc : ℕ
  pub registers : List ℕ
  pub reservation : Option ℕ
  pub busy : ℕ
  pub waiting : Bool
  pub ended : CoreEnd
  pub counts : Counts

abbrev pub parts_of : HartValue → PartsValue
parts_of h = record {
  number = h.number;
  pc = h.pc;
  registers = h.registers;
  reservation = h.reservation;
  busy = h.busy;
  waiting = h.waiting;
  ended = h.ended;
  counts = h.counts;
}

-- the hart of these parts and this cache with its touches
abbrev pub hart_of : PartsValue → TouchedCache → HartValue
hart_of p cache = record {
  number = p.number;
  pc = p.pc;
  registers = p.registers;
  reservation = p.reservation;
  cache = cache.cache;
  touches = cache.touches;
  busy = p.busy;
  waiting = p.waiting;
  ended = p.ended;
  counts = p.counts;
}
