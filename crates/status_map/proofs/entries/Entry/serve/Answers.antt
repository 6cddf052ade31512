use Rattle.std.proofs.Common.{◌≡◌, [], ap, sym, refl}
use Rattle.slack_base.specs.declared.messages.Ask.TheVariants.{WriteBack}
use Rattle.status_map.specs.Table.{Served, serve}
use Rattle.status_map.proofs.entries.Entry.serve.Goals as goal

pub returns-in-WriteBack-clause-entry : goal.returns-in-WriteBack-clause-entry
returns-in-WriteBack-clause-entry c =
    let written : serve c.args.delays.now c.args.grant (WriteBack c.in-WriteBack.id c.in-WriteBack.line c.in-WriteBack.words) c.args.self.now ≡ record { entry = c.write_back.new.self; posts = [] }
    = c.write_back.ensures c.args.delays.now c.args.grant c.in-WriteBack.id c.in-WriteBack.line refl in
    rw (c.in-WriteBack.is) (sym (ap (λ (s : Served). s.entry) written))
