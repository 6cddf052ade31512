use Rattle.std.proofs.Common.{◌≡◌, ◌%◌, length, sym, ◌∙◌, rules, refl, arith}
use Rattle.mesi_cache.proofs.Finding.{few, not_there, its_state, is_found}
use Rattle.mesi_cache.proofs.caches.Cache.find.Goals as goal

pub returns-in_err-place-clause-held : goal.returns-in_err-place-clause-held
returns-in_err-place-clause-held c =
    let here : c.set_number-number.result ≡ c.args.line % length c.self.inside.sets.items = search rules in
    rw (c.from_residual.ensures, ← c.self.view_is, not_there _ c.self.invariant c.args.line _ here _ c.index-set.ensures (sym c.place_of.ensures ∙ c.in_err-place.was)) refl

pub overflow_cast-result-2 : goal.overflow_cast-result-2
overflow_cast-result-2 c =
    let here : c.set_number-number.result ≡ c.args.line % length c.self.inside.sets.items = search rules in
    omega (arith, few _ c.self.invariant c.args.line _ here _ c.index-set.ensures _ (sym c.place_of.ensures ∙ c.in_ok-place.was))

pub returns-clause-held : goal.returns-clause-held
returns-clause-held c =
    let here : c.set_number-number.result ≡ c.args.line % length c.self.inside.sets.items = search rules in
    rw (← c.self.view_is) (sym (its_state _ c.self.invariant c.args.line _ here _ c.index-set.ensures _ (sym c.place_of.ensures ∙ c.in_ok-place.was) _ c.held_at.ensures))

pub returns-clause-found : goal.returns-clause-found
returns-clause-found c =
    let here : c.set_number-number.result ≡ c.args.line % length c.self.inside.sets.items = search rules in
    rw (← c.self.view_is) (is_found _ c.self.invariant c.args.line _ here _ c.index-set.ensures _ (sym c.place_of.ensures ∙ c.in_ok-place.was) _ c.held_at.ensures)
