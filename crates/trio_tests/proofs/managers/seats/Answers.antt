use Rattle.std.proofs.Common.{◌≡◌, ◌∙◌, length, ap}
use Rattle.std.proofs.lemmas.List.{length-replicate}
use Rattle.trio_tests.proofs.managers.seats.Goals as goal

pub returns : goal.returns
returns c = ap length c.in_ok-overseer.ensures.overseer.3 ∙ length-replicate c.in_ok-table.table.cores c.in_ok-table.table.clock ∙ c.in_ok-table.ensures.of.0
