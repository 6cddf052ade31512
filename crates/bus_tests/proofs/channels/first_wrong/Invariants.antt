use Rattle.slack_base.specs.Numbers.{numbers_of}
use Rattle.bus_tests.specs.Playing.{IsPlayed, setting_at}
use Rattle.bus_tests.proofs.channels.first_wrong.Given as goal

abbrev pub invariant-loop-place : goal.invariant-loop-place
invariant-loop-place l = IsPlayed (setting_at (numbers_of l.config) l.bus) l.marked l.channel
