-- Since when a core leaves alone what a post is about.
use Rattle.std.specs.Prelude.{ℕ, ◌+◌, ◌%◌, List, length, slice_index, slice_set}
use Rattle.slack_base.specs.declared.messages.Post.{Post}
use Rattle.timed_core.specs.Cores.{HartValue}

-- the touch of the set where a line belongs
abbrev pub touch_of : List ℕ → ℕ → ℕ
touch_of touches line = slice_index touches (line % length touches)

-- the touches, where a line is touched at clock t
abbrev pub touch_line : (t : ℕ) → List ℕ → ℕ → List ℕ
touch_line t touches line = slice_set touches (line % length touches) (t + 1)

-- the core touches a line's set at clock t
abbrev pub touched_at : (t line : ℕ) → HartValue → HartValue
touched_at t line core = record core { touches = touch_line t core.touches line }

-- the cycle from which on the core touched no more the set that a post is about
abbrev pub touched_of : HartValue → Post → ℕ
touched_of core p = touch_of core.touches p.line
