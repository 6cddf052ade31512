-- What touches a set of a core's cache.
use Rattle.std.specs.Prelude.{◌≡◌, ℕ, ◌&&◌, Bool, true, false, List, if◌then◌else◌}
use Rattle.slack_base.specs.declared.stamps.Id.{Id}
use Rattle.slack_base.specs.declared.messages.PostKind.{PostKind}
use Rattle.slack_base.specs.declared.messages.PostKind.TheVariants.{Reply, Retry, SnoopShare, SnoopOwn, Invalidate}
use Rattle.timed_core.specs.Accesses.{is_aligned}
use Rattle.timed_core.specs.Code.{CodeValue, is_in_memory}
use Rattle.timed_core.specs.Cores.{HartValue, line_number}
use Rattle.timed_core.specs.Posts.{applied}
use Rattle.timed_core.specs.Ticks.{performed}
use Rattle.timed_core.specs.Touches.{touch_line}
use Rattle.timed_core.specs.declared.effects.Effect.{Effect}
use Rattle.timed_core.specs.declared.effects.Effect.TheVariants.{Write, Jump, Branch, Pass, Memory, Stop, Call}

-- whether a post touches its line's set: a reply and a snoop do
abbrev pub is_touch : PostKind → Bool
is_touch (Reply exclusive words) = true
is_touch Retry = false
is_touch SnoopShare = true
is_touch SnoopOwn = true
is_touch Invalidate = false

-- the touches after a post: its line's set is touched, or none
abbrev pub touches_of_post : PostKind → (t line : ℕ) → List ℕ → List ℕ
touches_of_post kind t line touches = if is_touch kind then touch_line t touches line else touches

-- the touches after an instruction: that of the line of an access is touched where the address is aligned and in memory,
-- so that the access doesn't trap, and else none
abbrev pub touches_of_effect : CodeValue → Effect → (t : ℕ) → List ℕ → List ℕ
touches_of_effect code (Memory address access) t touches =
    if is_aligned access address && is_in_memory code address then touch_line t touches (line_number code.base address) else touches
touches_of_effect code (Write rd value) t touches = touches
touches_of_effect code (Jump rd target) t touches = touches
touches_of_effect code (Branch target) t touches = touches
touches_of_effect code Pass t touches = touches
touches_of_effect code (Stop trap) t touches = touches
touches_of_effect code Call t touches = touches

-- what each post and each instruction touches, whether the line is held or not
pub record WhatTouches : Type 0 where
  pub posts : (kind : PostKind) (base line : ℕ) (id : Id) (core : HartValue) → (applied kind base line id core).0.touches ≡ touches_of_post kind id.cycle line core.touches
  pub instructions : (code : CodeValue) (effect : Effect) (cost : ℕ) (id : Id) (core : HartValue)
      → (performed code effect cost id core).0.touches ≡ touches_of_effect code effect id.cycle core.touches
