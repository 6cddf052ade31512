use Rattle.std.proofs.Common.{◌≡◌, ◌<◌, ℕ, length, get_or, map, take, refl, ap, sym, ◌∙◌, arith}
use Rattle.std.proofs.lemmas.List.{length-map, take_all}
use Rattle.slack_base.specs.declared.bounds.TheConstants.{MOST_CORES}
use Rattle.slack_base.specs.declared.messages.Post.{Post}
use Rattle.slack_base.specs.declared.messages.PostKind.TheVariants.{Invalidate}
use Rattle.slack_base.specs.declared.stamps.Id.{Id}
use Rattle.status_map.specs.Cores.{all_cores, is_other, others}
use Rattle.status_map.specs.Table.{send, post_of}
use Rattle.status_map.proofs.Others.{passes_more, fails_more, few_so_far, core_at, count_of_cores, fewer_others}
use Rattle.status_map.proofs.entries.Granted.invalidate.Goals as goal
use Rattle.status_map.proofs.entries.Granted.invalidate.Goals.{then-is_other, else-is_other}

abbrev sent : Id → ℕ → ℕ → ℕ → ℕ → Post
sent id line grant delay k = post_of id line grant (send k delay Invalidate)

pub send-requires-clause-room : goal.send-requires-clause-room
send-requires-clause-room c =
    let a = c.args.self.now in
    omega (arith, ap length c.loop-core.invariant, few_so_far (sent a.id a.line a.grant c.args.delay) (is_other c.args.cores a.id.core) all_cores c.loop-core.core)

pub loop-core-preserved : goal.loop-core-preserved
loop-core-preserved c =
    let a = c.args.self.now in
    let i = c.loop-core.core in
    let f = sent a.id a.line a.grant c.args.delay in
    let p = is_other c.args.cores a.id.core in
    let low : i < MOST_CORES = omega arith in
    let within : i < length all_cores = omega (arith, count_of_cores) in
    let itself : get_or all_cores i 0 ≡ i = core_at i 0 low in
    elim c.if-is_other.branch [
      | then-is_other w ↦ rw (passes_more f p all_cores i 0 within (ap p itself ∙ sym c.is_other.ensures ∙ w.if-is_other.true), itself, ← c.loop-core.invariant) (w.out-is ∙ w.send.ensures)
      | else-is_other w ↦ rw (fails_more f p all_cores i 0 within (ap p itself ∙ sym c.is_other.ensures ∙ w.if-is_other.false), ← c.loop-core.invariant) w.out-is
    ]

pub returns-clause-posts : goal.returns-clause-posts
returns-clause-posts c =
    let all : take c.loop-core.core all_cores ≡ all_cores = take_all _ _ (omega (arith, count_of_cores)) in
    c.loop-core.invariant ∙ rw all refl

pub returns-clause-room : goal.returns-clause-room
returns-clause-room c =
    let a = c.args.self.now in
    let f = sent a.id a.line a.grant c.args.delay in
    let all : take c.loop-core.core all_cores ≡ all_cores = take_all _ _ (omega (arith, count_of_cores)) in
    let posts : c.loop-core.out ≡ map f (others c.args.cores a.id.core) = c.loop-core.invariant ∙ rw all refl in
    omega (arith, ap length posts, length-map (others c.args.cores a.id.core) f, fewer_others c.args.cores a.id.core c.requires.core)
