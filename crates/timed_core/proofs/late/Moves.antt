-- An Invalidate whose set isn't touched may come earlier or later in a tick.
use Rattle.std.proofs.Common.{◌≤◌, ◌++◌, refl, subst, arith}
use Rattle.slack_base.specs.Inboxes.{with_post}
use Rattle.timed_core.specs.LateLaws.{AllLate}
use Rattle.timed_core.specs.Touches.{touch_of}
use Rattle.timed_core.proofs.late.Between.{put_between}
use Rattle.timed_core.proofs.late.Waiting.{soon_value, late_value}
use Rattle.timed_core.proofs.late.TouchesLeft.{posts_touches}
use Rattle.timed_core.proofs.late.SetCount.{count_of}
use Rattle.timed_core.proofs.late.Rising.{AreApart, apart_last, posts_back}
use Rattle.timed_core.proofs.late.Ticks.{late_tick, soon_tick}
use Rattle.timed_core.proofs.late.Quiet.{some_sets, sound_fine, tick_back, quiet_tick}

pub all_late : AllLate
all_late code config t core p some sound kind =
    let fine = sound_fine config core some sound in
    record {
      back = λ d due before low. (tick_back code d p.line t core due before fine low).earlier;
      passes = λ due low. quiet_tick code t p.line t core due fine (tick_back code t p.line t core due (omega arith) fine low);
      early = λ us vs low.
          let low' = subst (λ touches. touch_of touches p.line ≤ t) (posts_touches code.base t 0 core us) low in
          late_tick code p.line t p kind refl core us vs (some_sets core fine) (subst (λ n. AreApart n us p.line) fine.touches (posts_back t t p.line (omega arith) core.touches us fine.some low').1);
      late = λ us vs low.
          let quiet = tick_back code t p.line t core (us ++ vs) (omega arith) fine low in
          soon_tick code p.line t p kind refl core us vs (some_sets core fine) (apart_last (count_of core) p.line us vs quiet.posts) quiet.step;
      in_time = λ inbox at low. soon_value code t p kind at core inbox (with_post inbox p) fine (put_between p inbox) low;
      after_due = λ inbox due later. late_value code p.due p kind refl t (record { inner = core; inbox = inbox }) due fine later;
    }
