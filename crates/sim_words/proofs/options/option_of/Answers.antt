use Rattle.std.proofs.Common.{◌≡◌, Some, sym, ap, ◌∙◌}
use Rattle.std.specs.Bool.{then_some}
use Rattle.sim_words.specs.Options.{options, option_of, option_in}
use Rattle.sim_words.specs.Tables.{entry_in}
use Rattle.sim_words.proofs.options.option_of.Goals as goal

pub returns : goal.returns
unfolding option_of
returns c =
    let row = c.in_ok-row.row in
    let found : Some row ≡ entry_in options c.args.word.now = sym c.in_ok-row.was ∙ c.entry_in.ensures ∙ ap (λ rows. entry_in rows c.args.word.now) c.options.ensures in
    c.then_some.ensures ∙ ap (λ b. then_some b row.0) c.has.ensures ∙ ap (option_in c.args.command) found
