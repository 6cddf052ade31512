use Rattle.std.proofs.Common.{◌∙◌, ◌++◌, ◌∷◌, [], map, refl, sym, ap, subst}
use Rattle.target_law.specs.Cycles.{through}
use Rattle.violation_watch.specs.Watching.{SawServed, serves}
use Rattle.manager.proofs.managers.Manager.serve_one.Goals as goal

pub returns : goal.returns
returns g c =
    let rules = g.T.Target.rules c.args.target.now in
    let a = c.args.self.now in
    let x = c.args.ask in
    let out = c.in_ok-clash.ensures in
    record {
      served = c.in_ok-push.ensures.ok;
      chans = out.chans;
      clashes = out.clashes;
      posts = out.posts ∙ ap (λ ps. ps ++ (through rules (map g.T.Target.values.chan a.chans.items) (x ∷ [])).posts) c.clear.ensures;
      watch = λ saw.
          subst (λ hs. SawServed rules hs c.push.new.self c.on_serve.new.self) (sym (out.clashes ∙ ap (λ hs. a.clashes ++ hs) out.clash))
          (subst (λ xs. SawServed rules (a.clashes ++ c.in_ok-clash.clash ∷ []) xs c.on_serve.new.self) (sym c.in_ok-push.ensures.ok) (serves saw c.in_ok-on_serve.ensures.ok));
      desks = refl;
      overseer = refl;
    }
