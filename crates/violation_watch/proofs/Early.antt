-- A tick sees nothing of posts that aren't due, and leaves them in the inbox.
use Rattle.std.proofs.Common.{◌≡◌, ◌∙◌, ℕ, ◌+◌, ◌<◌, zero, suc, List, [], ◌++◌, ap, nat_le, nat_lt}
use Rattle.std.specs.List.{filter, AllByRecursion as Each}
use Rattle.slack_base.specs.declared.messages.Ask.{Ask}
use Rattle.slack_base.specs.declared.messages.Post.{Post}
use Rattle.slack_base.specs.Inboxes.{CoreValue}
use Rattle.target_law.specs.Cycles.{tick_of}
use Rattle.target_law.specs.Rules.{Rules}
use Rattle.target_law.specs.Schedules.{with_posts, with_puts}
use Rattle.violation_watch.proofs.Inboxes.{due-with_posts, left-with_posts}

module _ {Inner Chan : Type 0} (rules : Rules Inner Chan) where
  -- a core by itself, with no post from outside
  abbrev pub run : (t k : ℕ) → CoreValue Inner → CoreValue Inner × List Ask
  run t zero core = (core, [])
  run t (suc k) core =
      let now = tick_of rules t core in
      let rest = run (t + 1) k now.0 in
      (rest.0, now.1 ++ rest.1)

  abbrev ticked_with : ℕ → CoreValue Inner → (due left : List Post) → CoreValue Inner × List Ask
  ticked_with t core due left =
      let ticked = rules.tick core.inner t due in
      (record { inner = ticked.0; inbox = left }, ticked.1)

  -- a tick with posts that aren't due
  pub tick-with_posts : (t : ℕ) (core : CoreValue Inner) (posts : List Post) → Each (λ p. t < p.due) posts
      → tick_of rules t (with_puts core posts) ≡ (with_puts (tick_of rules t core).0 posts, (tick_of rules t core).1)
  tick-with_posts t core posts h =
      ap (λ due. ticked_with t core due (filter (λ q. nat_lt t q.due) (with_posts core.inbox posts))) (due-with_posts t core.inbox posts h)
      ∙ ap (λ left. ticked_with t core (filter (λ q. nat_le q.due t) core.inbox) left) (left-with_posts t core.inbox posts h)
