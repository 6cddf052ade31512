use Rattle.std.proofs.Common.{◌≡◌, ◌∙◌, ◌+◌, ◌*◌, ◌≤◌, ◌++◌, ◌∷◌, [], ℕ, sym, ap, arith}
use Rattle.std.proofs.lemmas.List.FromFn.{map-range_with_len_more}
use Rattle.slack_base.specs.Numbers.{numbers_of}
use Rattle.first_memory.specs.Memory.{with_zeros}
use Rattle.bus_model.specs.Starting.{first_entry}
use Rattle.bus_model.proofs.FirstBus.{line-inside, entry-is}
use Rattle.bus_model.proofs.starting.first_entries.Goals as goal

pub loop-place-preserved : goal.loop-place-preserved
loop-place-preserved c =
    let config = numbers_of c.args.config.now in
    let f = λ (place : ℕ). first_entry config c.args.image.now (c.args.index + config.buses * place) in
    let n = c.loop-place.place in
    let line = c.args.index + config.buses * n in
    let within : 16 * line + 16 ≤ config.memory = line-inside config.memory config.buses c.args.index n c.requires.bus (omega arith) in
    let entry : c.entry_at.result ≡ f n =
    c.entry_at.ensures ∙ entry-is config c.args.image.now c.as_slice.result.now line (ap (λ xs. with_zeros xs config.memory) c.as_slice.ensures.value ∙ c.in_ok-bytes.ensures.held) within in
    c.in_ok-push.ensures.items ∙ ap (λ e. c.loop-place.entries.items ++ e ∷ []) entry
    ∙ ap (λ es. es ++ f n ∷ []) c.loop-place.invariant ∙ sym (map-range_with_len_more f 0 n n (omega arith))
