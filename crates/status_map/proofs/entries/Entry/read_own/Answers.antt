use Rattle.std.proofs.Common.{◌≡◌, false, nat_lt, refl, sym, ap, ◌∙◌}
use Rattle.std.proofs.lemmas.Bool.{le-ltb}
use Rattle.status_map.specs.declared.views.EntryKind.TheVariants.{Shared}
use Rattle.status_map.specs.declared.views.EntryView.{EntryView}
use Rattle.status_map.proofs.Invalidated.{read_own_shared}
use Rattle.status_map.proofs.entries.Entry.read_own.Goals as goal

pub returns-in-Shared-clause-entry : goal.returns-in-Shared-clause-entry
returns-in-Shared-clause-entry c =
    let same = c.view-kind.ensures.view in
    let shared : c.args.self.now.kind ≡ Shared c.in-Shared.cores = ap (λ (v : EntryView). v.kind) (sym same) ∙ c.in-Shared.is in
    let late : nat_lt c.args.grant c.args.self.now.settled ≡ false = rw same at (le-ltb _ _ c.if-grant-settled.false) in
    rw (read_own_shared c.args.delays.now c.args.grant c.args.id c.args.line c.args.self.now c.in-Shared.cores shared late)
    (c.reply.ensures.entry ∙ rw (c.set-in-Shared.ensures, same) refl)

pub returns-in-Shared-clause-posts : goal.returns-in-Shared-clause-posts
returns-in-Shared-clause-posts c =
    let same = c.view-kind.ensures.view in
    let shared : c.args.self.now.kind ≡ Shared c.in-Shared.cores = ap (λ (v : EntryView). v.kind) (sym same) ∙ c.in-Shared.is in
    let late : nat_lt c.args.grant c.args.self.now.settled ≡ false = rw same at (le-ltb _ _ c.if-grant-settled.false) in
    rw (read_own_shared c.args.delays.now c.args.grant c.args.id c.args.line c.args.self.now c.in-Shared.cores shared late)
    (c.reply.ensures.posts ∙ rw (c.invalidate.ensures.posts, c.set-in-Shared.ensures, same) refl)
