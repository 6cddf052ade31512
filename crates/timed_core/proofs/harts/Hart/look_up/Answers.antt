use Rattle.std.proofs.Common.{◌≡◌, ◌∙◌, None, Some, ap, sym, subst, rules}
use Rattle.std.specs.Prelude.{IfSome}
use Rattle.std.specs.Option.{option_map}
use Rattle.mesi_cache.specs.Caches.{line_in}
use Rattle.mesi_cache.specs.Words.{word_of}
use Rattle.timed_core.specs.Accesses.{word_in_line, hit}
use Rattle.timed_core.specs.Outcomes.{Does, IsReady, ask_of}
use Rattle.timed_core.specs.Ticks.{id_at}
use Rattle.timed_core.proofs.Hits.{misses, still_misses, it_hits, hit_ready, hit_number}
use Rattle.timed_core.proofs.harts.Hart.look_up.Goals as goal

pub returns-in_default-clause-does : goal.returns-in_default-clause-does
returns-in_default-clause-does c = λ base is number.
    let line = c.args.line in
    let core = c.args.self.now.value in
    let id = id_at c.args.cycle core number in
    let nothing : None ≡ option_map (λ l. l.held) (line_in core.cache line) =
    sym (ap (option_map (λ f. f.held)) c.in_default.is) ∙ c.requires.held in
    subst (λ out. Does out id c.miss.new.self.value c.miss.result)
    (sym (misses c.args.access base c.args.address line id core is (line_in core.cache line) nothing)) (c.miss.ensures.does c.args.cycle number)

pub returns-then-not-hits-clause-does : goal.returns-then-not-hits-clause-does
returns-then-not-hits-clause-does c = λ base is number.
    let line = c.args.line in
    let core = c.args.self.now.value in
    let id = id_at c.args.cycle core number in
    let found : Some c.in-Some.found.held ≡ option_map (λ l. l.held) (line_in core.cache line) =
    sym (ap (option_map (λ f. f.held)) c.in-Some.is) ∙ c.requires.held in
    subst (λ out. Does out id c.miss-then-not-hits.new.self.value c.miss-then-not-hits.result)
    (sym (still_misses c.args.access base c.args.address line id core is (line_in core.cache line) c.in-Some.found.held found (search rules)))
    (c.miss-then-not-hits.ensures.does c.args.cycle number)

pub returns-clause-does : goal.returns-clause-does
returns-clause-does c = λ base is number.
    let line = c.args.line in
    let core = c.args.self.now.value in
    let id = id_at c.args.cycle core number in
    let old = c.word-old.result in
    let found : Some c.in-Some.found.held ≡ option_map (λ l. l.held) (line_in core.cache line) =
    sym (ap (option_map (λ f. f.held)) c.in-Some.is) ∙ c.requires.held in
    let same : c.in-Some.found.line ≡ line = subst (λ o. IfSome o (λ f. f.line ≡ line)) c.in-Some.is c.requires.line in
    let word : option_map (λ l. word_of l.words (word_in_line c.args.address)) (line_in core.cache line) ≡ Some old =
    sym (ap (λ w. option_map (λ l. word_of l.words w) (line_in c.self.inside.cache.value.cache c.in-Some.found.line)) c.word_in_line.ensures.value
    ∙ ap (λ h. option_map (λ l. word_of l.words (word_in_line c.args.address)) (line_in h.value.cache c.in-Some.found.line)) c.self.view_is
    ∙ ap (λ n. option_map (λ l. word_of l.words (word_in_line c.args.address)) (line_in core.cache n)) same) ∙ c.word-old.ensures in
    let after : c.hit.new.self.value ≡ hit c.args.access base c.args.address old 1 core = c.hit.ensures.after base (same ∙ is) in
    subst (λ out. Does out id c.hit.new.self.value c.hit.result)
    (sym (it_hits c.args.access base c.args.address line id core is (line_in core.cache line) c.in-Some.found.held old found (search rules) word))
    (record {
      after = after;
      ask = ap (λ o. ask_of o id) c.hit.ensures.outcome;
      number = ap (λ h. h.number) after ∙ hit_number c.args.access base c.args.address old core;
      ready = λ e. subst IsReady (sym after) (hit_ready c.args.access base c.args.address old core c.requires.ready);
    })
