use Rattle.std.proofs.Common.{◌≡◌, ◌∙◌, ◌+◌, sum_by, sym, rules}
use Rattle.std.proofs.lemmas.List.Folds.{fold-map}
use Rattle.bus_model.specs.Channels.{count_of}
use Rattle.coherence_law.proofs.broken.lines_in.Goals as goal

pub returns : goal.returns
returns c =
    let each : c.sum.result ≡ sum_by (λ chan. count_of chan.value) c.args.chans.now = search rules in
    each ∙ sym (fold-map (λ n chan. n + count_of chan) (λ chan. chan.value) 0 c.args.chans.now)
