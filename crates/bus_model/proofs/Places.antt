-- The place of a line among the lines of its bus.
use Rattle.std.proofs.Common.{◌≡◌, ℕ, ◌/◌, ◌%◌, ◌<◌, ◌≤◌, arith}

-- each bus has equally many lines
pub place-inside : (lines buses line : ℕ) → 1 ≤ buses → lines % buses ≡ 0 → line < lines → line / buses < lines / buses
place-inside lines buses line some whole inside = grind arith
