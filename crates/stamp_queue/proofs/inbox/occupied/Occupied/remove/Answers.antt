use Rattle.std.proofs.Common.{◌≡◌, length, rules}
use Rattle.stamp_queue.proofs.Marks.{here-remove, others-remove}
use Rattle.stamp_queue.proofs.inbox.occupied.Occupied.remove.Goals as goal

pub returns-clause-here : goal.returns-clause-here
returns-clause-here c =
    let four : length c.args.self.now.words ≡ 4 = search rules in here-remove c.args.self.now.words c.args.slot four c.requires

pub returns-clause-others : goal.returns-clause-others
returns-clause-others c =
    let four : length c.args.self.now.words ≡ 4 = search rules in
    λ k within apart. others-remove c.args.self.now.words c.args.slot four c.requires k apart
