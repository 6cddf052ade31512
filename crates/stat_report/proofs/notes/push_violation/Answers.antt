use Rattle.std.proofs.Common.{◌≡◌, ◌∙◌, ◌++◌, sym, ap, append_assoc, codes}
use Rattle.std.proofs.lemmas.Result.{on_ok_weaker}
use Rattle.plain_text.specs.Pieces.{field}
use Rattle.stat_report.specs.Notes.{order_text, violation_line}
use Rattle.stat_report.proofs.notes.push_violation.Goals as goal

pub returns-in_ok-push_field-in-Bus : goal.returns-in_ok-push_field-in-Bus
unfolding violation_line
returns-in_ok-push_field-in-Bus c =
    let named : c.push_field.new.self ≡ c.args.text.now ++ field (codes "bus channel ") c.in-Bus.channel = c.in_ok-push_field-in-Bus.ensures ∙ ap (λ n. c.args.text.now ++ field (codes "bus channel ") n) c.from.ensures in
    on_ok_weaker c.push_order.result
    (λ e. e ∙ ap (λ xs. xs ++ order_text c.in-Bus.high c.in-Bus.low) named ∙ append_assoc c.args.text.now _ _ ∙ ap (λ v. c.args.text.now ++ violation_line v) (sym c.in-Bus.is))
    c.push_order.ensures
