-- A tick that leaves an early touch of a set touched the set not at all.
use Rattle.std.proofs.Common.{◌≡◌, ◌∙◌, ℕ, ◌≤◌, List, length, sym, ap, subst}
use Rattle.slack_base.specs.declared.configs.RawConfig.{RawConfig}
use Rattle.slack_base.specs.declared.messages.Post.{Post}
use Rattle.timed_core.specs.Code.{CodeValue}
use Rattle.timed_core.specs.Cores.{HartValue}
use Rattle.timed_core.specs.Laws.{IsSoundHart}
use Rattle.timed_core.specs.Ticks.{applied_all, tick}
use Rattle.timed_core.specs.Touches.{touch_of}
use Rattle.timed_core.proofs.late.Touched.{touch_posts, line_of_step}
use Rattle.timed_core.proofs.late.TouchesLeft.{tick_touches}
use Rattle.timed_core.proofs.late.Places.{IsApart}
use Rattle.timed_core.proofs.late.GivenUp.{less}
use Rattle.timed_core.proofs.late.SetCount.{count_of, tick_count}
use Rattle.timed_core.proofs.late.Rising.{AreApart, touch_some_length, touch_posts_length, some_back, posts_back}
use Rattle.timed_core.proofs.late.Ticks.{Less, tick_passes}

-- one touch for each set, and there is a set
pub record IsFine (core : HartValue) : Type 0 where
  pub touches : length core.touches ≡ count_of core
  pub some : 1 ≤ length core.touches

pub some_sets : (core : HartValue) → IsFine core → 1 ≤ count_of core
some_sets core fine = subst (λ n. 1 ≤ n) fine.touches fine.some

pub sound_fine : (config : RawConfig) (core : HartValue) → 1 ≤ config.sets → IsSoundHart config core → IsFine core
sound_fine config core some sound = record {
  touches = sound.touches ∙ sym sound.cache.shape.number_of_sets;
  some = subst (λ n. 1 ≤ n) (sym sound.touches) some;
}

module _ (code : CodeValue) where
  pub tick_fine : (core : HartValue) (t : ℕ) (due : List Post) → IsFine core → IsFine (tick code core t due).0
  tick_fine core t due fine =
      let same = ap length (tick_touches code core t due)
      ∙ touch_some_length t (touch_posts t core.touches due) (line_of_step code (applied_all code.base t 0 core due).0)
      ∙ touch_posts_length t core.touches due in
      record { touches = same ∙ fine.touches ∙ sym (tick_count code core t due); some = subst (λ n. 1 ≤ n) (sym same) fine.some }

  -- what a tick that touches the line's set no more says of it
  pub record IsQuiet (d line t : ℕ) (core : HartValue) (due : List Post) : Type 0 where
    pub earlier : touch_of core.touches line ≤ d
    pub posts : AreApart (count_of core) due line
    pub step : IsApart (count_of core) (line_of_step code (applied_all code.base t 0 core due).0) line

  pub tick_back : (d line t : ℕ) (core : HartValue) (due : List Post) → d ≤ t → IsFine core → touch_of (tick code core t due).0.touches line ≤ d → IsQuiet d line t core due
  tick_back d line t core due late fine low =
      let b = touch_posts_length t core.touches due in
      let low' = subst (λ touches. touch_of touches line ≤ d) (tick_touches code core t due) low in
      let step = some_back d t line late (touch_posts t core.touches due) (line_of_step code (applied_all code.base t 0 core due).0) (subst (λ n. 1 ≤ n) (sym b) fine.some) low' in
      let posts = posts_back d t line late core.touches due fine.some step.earlier in
      record {
        earlier = posts.0;
        posts = subst (λ n. AreApart n due line) fine.touches posts.1;
        step = subst (λ n. IsApart n (line_of_step code (applied_all code.base t 0 core due).0) line) (b ∙ fine.touches) step.apart;
      }

  -- it is the same without the line
  pub quiet_tick : (d line t : ℕ) (core : HartValue) (due : List Post) → IsFine core → IsQuiet d line t core due → tick code (less code.base line core) t due ≡ Less code line t (tick code core t due)
  quiet_tick d line t core due fine quiet = tick_passes code line t core due (some_sets core fine) quiet.posts quiet.step
