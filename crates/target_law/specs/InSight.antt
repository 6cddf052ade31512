-- A machine whose marks are part of what contracts see of its cores and channels.
use Rattle.std.specs.Prelude.{◌≡◌, ℕ, List, Option, None, map}
use Rattle.slack_base.specs.declared.messages.Ask.{Ask}
use Rattle.slack_base.specs.declared.messages.Post.{Post}
use Rattle.slack_base.specs.Inboxes.{CoreValue}
use Rattle.slack_base.specs.Marks.{Marked}
use Rattle.target_law.specs.Cycles.{StateValue}
use Rattle.target_law.specs.Rules.{Rules, Owns}
use Rattle.target_law.specs.Values.{Values}

-- all of a core's value but its inbox, and the value at the core's mark where there is one
pub record MarkedInner (Inner : Type 0) : Type 0 where
  pub inner : Inner
  pub saved : Option (CoreValue Inner)

-- the core without its mark, and the state without all marks
abbrev pub bare : {Inner : Type 0} → CoreValue (MarkedInner Inner) → CoreValue Inner
bare core = record { inner = core.inner.inner; inbox = core.inbox }

abbrev pub bare_state : {Inner Chan : Type 0} → StateValue (MarkedInner Inner) (Marked Chan) → StateValue Inner Chan
bare_state s = record { clock = s.clock; cores = map bare s.cores; chans = map (λ chan. chan.value) s.chans }

-- two states of the same marks
pub record SameMarksInSight {Inner Chan : Type 0} (s e : StateValue (MarkedInner Inner) (Marked Chan)) : Type 0 where
  pub cores : map (λ core. core.inner.saved) e.cores ≡ map (λ core. core.inner.saved) s.cores
  pub chans : map (λ chan. chan.saved) e.chans ≡ map (λ chan. chan.saved) s.chans

module _ {Inner Chan : Type 0} (rules : Rules Inner Chan) where
  -- a tick leaves the mark
  abbrev pub tick_beside : MarkedInner Inner → ℕ → List Post → MarkedInner Inner × List Ask
  tick_beside core t due =
      let r = rules.tick core.inner t due in
      (record { inner = r.0; saved = core.saved }, r.1)

  -- and so does the serving of an ask
  abbrev pub serve_beside : Marked Chan → Ask → Marked Chan × List Post
  serve_beside chan ask =
      let r = rules.serve chan.value ask in
      (record { value = r.0; saved = chan.saved }, r.1)

  abbrev pub rules_in_sight : Rules (MarkedInner Inner) (Marked Chan)
  rules_in_sight = record {
    cores = rules.cores;
    channels = rules.channels;
    lookahead = rules.lookahead;
    core_number = λ core. rules.core_number core.inner;
    chan_number = λ chan. rules.chan_number chan.value;
    is_proper_ask = rules.is_proper_ask;
    is_proper_post = rules.is_proper_post;
    channel_of = rules.channel_of;
    tick = tick_beside;
    serve = serve_beside;
    clash = λ chan ask. rules.clash chan.value ask;
    close = λ chan. record { value = rules.close chan.value; saved = chan.saved };
    touched = λ core p. rules.touched core.inner p;
    has_ended = λ core. rules.has_ended core.inner;
  }

abbrev pub owns_in_sight : {Inner Chan : Type 0} → Owns Inner Chan → Owns (MarkedInner Inner) (Marked Chan)
owns_in_sight owns = record { core = λ core. owns.core core.inner; chan = λ chan. owns.chan chan.value }

abbrev pub values_in_sight : {Core D Inner Chan : Type 0} → Values Core D Inner Chan → Values Core D (MarkedInner Inner) (Marked Chan)
values_in_sight values = record {
  core = λ core. record { inner = record { inner = (values.core core).inner; saved = values.saved_core core }; inbox = (values.core core).inbox };
  chan = λ chan. record { value = values.chan chan; saved = values.saved_chan chan };
  saved_core = λ core. None;
  saved_chan = λ chan. None;
}
