-- The touches that a post, a step and a tick leave.
use Rattle.std.proofs.Common.{◌≡◌, ◌∙◌, ℕ, ◌+◌, ◌==◌, ◌&&◌, Bool, true, false, List, [], ◌∷◌, Option, None, Some, length, refl, ap, cond, inl, inr}
use Rattle.std.proofs.lemmas.Bool.{cases_Bool}
use Rattle.slack_base.specs.Growing.{raised}
use Rattle.slack_base.specs.declared.stamps.Id.{Id}
use Rattle.slack_base.specs.declared.messages.Post.{Post}
use Rattle.slack_base.specs.declared.messages.PostKind.{PostKind}
use Rattle.slack_base.specs.declared.messages.PostKind.TheVariants.{Reply, Retry, SnoopShare, SnoopOwn, Invalidate}
use Rattle.slack_base.specs.declared.instructions.Instr.{Instr}
use Rattle.rv_decode.specs.Decoding.{instr_of}
use Rattle.timed_core.specs.Accesses.{is_aligned}
use Rattle.timed_core.specs.Code.{CodeValue, is_in_memory, word_at}
use Rattle.timed_core.specs.Cores.{HartValue, is_running, line_number}
use Rattle.timed_core.specs.Effects.{effect_of, cost_of}
use Rattle.timed_core.specs.Posts.{applied}
use Rattle.timed_core.specs.Ticks.{applied_all, asks_of, id_at, performed, decoded, fetched, stepped, tick}
use Rattle.timed_core.specs.Touches.{touch_line}
use Rattle.timed_core.specs.declared.effects.Effect.{Effect}
use Rattle.timed_core.specs.declared.effects.Effect.TheVariants.{Write, Jump, Branch, Pass, Memory, Stop, Call}
use Rattle.timed_core.proofs.Touching.{what_touches}
use Rattle.timed_core.proofs.late.Touched.{touch_some, posted, touch_posts, line_of_effect, line_of_instr, line_of_word, line_of_step}

-- a post
pub applied_touches : (base : ℕ) (id : Id) (m : ℕ) (core : HartValue) (kind : PostKind) → (applied kind base m id core).0.touches ≡ touch_some id.cycle core.touches (posted kind m)
applied_touches base id m core (Reply exclusive words) = what_touches.posts (Reply exclusive words) base m id core
applied_touches base id m core Retry = what_touches.posts Retry base m id core
applied_touches base id m core SnoopShare = what_touches.posts SnoopShare base m id core
applied_touches base id m core SnoopOwn = what_touches.posts SnoopOwn base m id core
applied_touches base id m core Invalidate = what_touches.posts Invalidate base m id core

-- an access
same_line : (t line : ℕ) (touches : List ℕ) (aligned inside : Bool) → cond (aligned && inside) (touch_line t touches line) touches ≡ touch_some t touches (cond aligned (cond inside (Some line) None) None)
same_line t line touches true true = refl
same_line t line touches true false = refl
same_line t line touches false inside = refl

module _ (code : CodeValue) (id : Id) (core : HartValue) where
  abbrev after : Option ℕ → List ℕ
  after line = touch_some id.cycle core.touches line

  -- an instruction
  performed_touches : (effect : Effect) (cost : ℕ) → (performed code effect cost id core).0.touches ≡ after (line_of_effect code effect)
  performed_touches (Write rd value) cost = what_touches.instructions code (Write rd value) cost id core
  performed_touches (Jump rd target) cost = what_touches.instructions code (Jump rd target) cost id core
  performed_touches (Branch target) cost = what_touches.instructions code (Branch target) cost id core
  performed_touches Pass cost = what_touches.instructions code Pass cost id core
  performed_touches (Memory address access) cost =
      what_touches.instructions code (Memory address access) cost id core
      ∙ same_line id.cycle (line_number code.base address) core.touches (is_aligned access address) (is_in_memory code address)
  performed_touches (Stop trap) cost = what_touches.instructions code (Stop trap) cost id core
  performed_touches Call cost = what_touches.instructions code Call cost id core

  decoded_touches : (instr : Option Instr) (bits : ℕ) → (decoded code instr bits id core).0.touches ≡ after (line_of_instr code instr core.registers core.pc)
  unfolding decoded
  decoded_touches None bits = refl
  decoded_touches (Some instr) bits = performed_touches (effect_of instr core.registers core.pc) (cost_of instr)

  fetched_touches : (bits : Option ℕ) → (fetched code bits id core).0.touches ≡ after (line_of_word code bits core.registers core.pc)
  unfolding fetched
  fetched_touches None = refl
  fetched_touches (Some bits) = decoded_touches (instr_of bits) bits

  waiting_touches : (waiting : Bool) → (cond waiting (record core { counts = record core.counts { waits = raised core.counts.waits } }, None) (fetched code (word_at code core.pc) id core)).0.touches
      ≡ after (cond waiting None (line_of_word code (word_at code core.pc) core.registers core.pc))
  waiting_touches true = refl
  waiting_touches false = fetched_touches (word_at code core.pc)

  pub stepped_touches : (stepped code id core).0.touches ≡ after (line_of_step code core)
  unfolding stepped line_of_step
  stepped_touches = elim (cases_Bool (is_running core.ended)) [
    | inl running ↦ elim (cases_Bool (core.busy == 0)) [
      | inl free ↦ rw (running, free) (waiting_touches core.waiting)
      | inr busy ↦ rw (running, busy) refl
    ]
    | inr ended ↦ rw ended refl
  ]

pub posts_touches : (base t n : ℕ) (core : HartValue) (due : List Post) → (applied_all base t n core due).0.touches ≡ touch_posts t core.touches due
posts_touches base t n core [] = refl
posts_touches base t n core (p ∷ due) =
    let one = applied p.kind base p.line (id_at t core n) core in
    posts_touches base t (n + length (asks_of one.1)) one.0 due ∙ ap (λ touches. touch_posts t touches due) (applied_touches base (id_at t core n) p.line core p.kind)

-- those that a tick leaves
pub tick_touches : (code : CodeValue) (core : HartValue) (t : ℕ) (due : List Post)
    → (tick code core t due).0.touches ≡ touch_some t (touch_posts t core.touches due) (line_of_step code (applied_all code.base t 0 core due).0)
unfolding tick
tick_touches code core t due =
    let posts = applied_all code.base t 0 core due in
    stepped_touches code (id_at t posts.0 (length posts.1)) posts.0
    ∙ ap (λ touches. touch_some t touches (line_of_step code posts.0)) (posts_touches code.base t 0 core due)
