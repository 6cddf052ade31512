use Rattle.std.proofs.Common.{arith, sym, ap, ◌∙◌, Some}
use Rattle.std.specs.Option.{option_map}
use Rattle.mesi_cache.specs.Words.{word_of}
use Rattle.mesi_cache.proofs.Slots.{at_place}
use Rattle.mesi_cache.proofs.sets.CacheSet.word.Goals as goal

pub returns : goal.returns
returns c =
    ap (option_map (λ l. word_of l.words c.args.word)) (at_place c.self.inside.lines c.self.inside.len (omega arith) c.args.self.now c.self.view_is c.args.place _ c.requires.place)
    ∙ ap Some (sym c.word_at.ensures)
