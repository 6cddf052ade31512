use Rattle.std.proofs.Common.{rules}
use Rattle.std.proofs.lemmas.List.Sorted.{answers_always}
use Rattle.slack_base.specs.Messages.{id_of}
use Rattle.pacing.proofs.turns.sort_by_id.Goals as goal

pub returns-clause-sorted : goal.returns-clause-sorted
returns-clause-sorted c = c.sort_unstable_by_key.ensures.sorted id_of (answers_always _ _ _ (λ f a r g h. search rules))
