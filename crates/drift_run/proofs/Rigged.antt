-- A manager and a crew are ready for legs, and have come of their state.
use Rattle.std.proofs.Common.{◌≡◌, ◌∙◌, ℕ, ◌≤◌, List, [], All, map, Some, length, slice_get, get_or, sym, ap, subst, arith}
use Rattle.std.proofs.lemmas.List.{length-map}
use Rattle.std.proofs.lemmas.Option.{slice_get_within, slice_get-get_or, same_Some}
use Rattle.core_actor.specs.Actors.{IsReady, IsAlone}
use Rattle.core_actor.specs.Beginnings.{IsBegunFor}
use Rattle.core_actor.specs.declared.actors.CoreActor.{CoreActor}
use Rattle.core_actor.proofs.Goes.{all_begin}
use Rattle.core_gate.specs.Seats.{cores_of, table_of, IsOpeningPacer}
use Rattle.core_gate.specs.declared.clock_tables.ClockTable.{ClockTable}
use Rattle.core_gate.specs.declared.overseers.Overseer.{Overseer}
use Rattle.core_gate.specs.declared.pacers.Pacer.{Pacer}
use Rattle.manager.specs.declared.managers.Desk.{Desk}
use Rattle.manager.specs.declared.managers.Manager.{Manager}
use Rattle.manager.specs.Openings.{IsOpening as IsNewManager, AreUnused, IsReadyFrom}
use Rattle.manager.proofs.Opened.{all_ready_openings}
use Rattle.settle.proofs.Lists.{get_in, get_map, numbered_at}
use Rattle.slack_base.specs.declared.bounds.TheConstants.{TOP}
use Rattle.slack_base.specs.declared.messages.Ask.{Ask}
use Rattle.slack_base.specs.declared.messages.Post.{Post}
use Rattle.slack_base.specs.Inboxes.{CoreValue}
use Rattle.stamp_queue.specs.declared.receivers.Receiver.{Receiver}
use Rattle.stamp_queue.specs.declared.senders.Sender.{Sender}
use Rattle.stamp_queue.specs.Rings.{all_sent, all_received}
use Rattle.target_law.specs.Cycles.{StateValue}
use Rattle.target_law.specs.Proper.{IsProper, IsCoreOf}
use Rattle.target_law.specs.Rules.{Rules, Owns}
use Rattle.target_law.specs.Values.{Values}
use Rattle.drift_run.specs.Crews.{HasBegun, IsCrew}
use Rattle.drift_run.specs.Rigs.{AreJoined, IsOpening, IsRigged}
use Rattle.drift_run.specs.declared.crews.Crew.{Crew}

-- what is so at each place is so of all
pub all_of : {X : Type 0} (P : X → Type 0) (xs : List X) → ((i : ℕ) (x : X) → slice_get xs i ≡ Some x → P x) → All P xs
all_of P xs f = λ k d lt. f k (get_or xs k d) (slice_get-get_or xs k d lt)

pub all_get : {X : Type 0} (P : X → Type 0) (xs : List X) (i : ℕ) (x : X) → All P xs → slice_get xs i ≡ Some x → P x
all_get P xs i x h at =
    let within = slice_get_within xs i x at in
    subst P (same_Some (get_or xs i x) x (sym (slice_get-get_or xs i x within) ∙ at)) (h i x within)

module _ {Inner Chan : Type 0} (rules : Rules Inner Chan) (owns : Owns Inner Chan) {Core D : Type 0} (values : Values Core D Inner Chan) (cores : List Core) (chans : List D) (clock slack : ℕ) where
  abbrev start : StateValue Inner Chan
  start = record { clock = clock; cores = map values.core cores; chans = map values.chan chans }

  module _ (proper : IsProper rules owns (record { clock = clock; cores = map values.core cores; chans = map values.chan chans })) (pacers : List Pacer) (crew : Crew Core) (is : IsCrew cores pacers crew)
      (table : ClockTable) (opening : (i : ℕ) (p : Pacer) → slice_get pacers i ≡ Some p → IsOpeningPacer (table_of table) i clock slack p)
      (overseer : Overseer) (clocks : cores_of overseer ≡ rules.cores) (m : Manager D) (made : IsNewManager chans crew.asks crew.posts overseer m) where
    -- the actor at a place, and its core
    actor_at : (i : ℕ) (a : CoreActor Core) → slice_get crew.actors.items i ≡ Some a → (core : Core) × (slice_get cores i ≡ Some core) × HasBegun core a × IsOpeningPacer (table_of table) i clock slack a.pacer
    actor_at i a at =
        let w = slice_get_within crew.actors.items i a at in
        let c = is.begun.count in
        let core = get_in cores i (omega (arith, w, c)) in (
          core.0,
          core.1,
          is.begun.at i core.0 a core.1 at,
          opening i a.pacer (ap (λ ps. slice_get ps i) (sym is.paced) ∙ get_map (λ (x : CoreActor Core). x.pacer) crew.actors.items i a at),
        )

    rings : length crew.asks ≡ rules.cores
    rings = is.asks.count ∙ is.begun.count ∙ sym (length-map cores values.core) ∙ proper.core_count

    unused : AreUnused crew.asks crew.posts
    unused = record {
      receivers = all_of (λ (r : Receiver Ask). all_received r ≡ []) crew.asks (λ i r at.
          let w = slice_get_within crew.asks i r at in
          let c = is.asks.count in
          let a = get_in crew.actors.items i (omega (arith, w, c)) in
          (is.asks.at i a.0 r a.1 at).received);
      senders = all_of (λ (s : Sender Post). all_sent s ≡ []) crew.posts (λ i s at.
          let w = slice_get_within crew.posts i s at in
          let c = is.posts.count in
          let a = get_in crew.actors.items i (omega (arith, w, c)) in
          (is.posts.at i a.0 s a.1 at).sent);
    }

    managed : IsReadyFrom rules owns values chans m
    managed = all_ready_openings rules owns values chans crew.asks crew.posts overseer m made unused (record {
      chan_count = sym (length-map chans values.chan) ∙ proper.chan_count;
      own_chans = proper.chans;
      rings = rings;
      clocks = clocks;
    })

    begun_at : (end i : ℕ) (a : CoreActor Core) (core : Core) → slice_get cores i ≡ Some core → HasBegun core a → IsOpeningPacer (table_of table) i clock slack a.pacer → clock ≤ end → end ≤ TOP
        → IsBegunFor rules owns values end core a.asks a.posts a.pacer a
    begun_at end i a core at begun open_pacer le top = record {
      begun = begun.begun;
      own = subst (λ n. IsCoreOf rules owns n (values.core core)) (sym open_pacer.1) (numbered_at (IsCoreOf rules owns) (map values.core cores) i (values.core core) proper.cores (get_map values.core cores i core at));
      sent = begun.sent;
      received = begun.received;
      below = subst (λ n. n ≤ end) (sym open_pacer.2) le;
      top = top;
    }

    alone_at : (i : ℕ) (first : CoreValue Inner) (a : CoreActor Core) → slice_get (map values.core cores) i ≡ Some first → slice_get crew.actors.items i ≡ Some a → IsAlone rules values clock first a
    alone_at i first a ef ea =
        let x = actor_at i a ea in
        let same : values.core x.0 ≡ first = same_Some (values.core x.0) first (sym (get_map values.core cores i x.0 x.1) ∙ ef) in
        let b = begun_at clock i a x.0 x.1 x.2 x.3 (omega arith) proper.clock in
        subst (λ v. IsAlone rules values clock v a) same (subst (λ n. IsAlone rules values n (values.core x.0) a) x.3.2 (all_begin rules owns values clock x.0 a.asks a.posts a.pacer a b).1)

    joined_at : (i : ℕ) (desk : Desk) (a : CoreActor Core) → slice_get m.desks.items i ≡ Some desk → slice_get crew.actors.items i ≡ Some a → AreJoined i desk a
    joined_at i desk a ed ea = record {
      number = (actor_at i a ea).3.1;
      asks = (is.asks.at i a desk.asks ea (ap (λ rs. slice_get rs i) (sym made.receivers) ∙ get_map (λ (d : Desk). d.asks) m.desks.items i desk ed)).ends;
      posts = (is.posts.at i a desk.posts ea (ap (λ ss. slice_get ss i) (sym made.senders) ∙ get_map (λ (d : Desk). d.posts) m.desks.items i desk ed)).ends;
    }

    pub rigged : IsRigged rules owns values (record { clock = clock; cores = map values.core cores; chans = map values.chan chans }) slack m crew.actors.items
    rigged = record {
      ready = λ end le top. record {
        manager = managed.ready;
        actors = all_of (IsReady rules owns values end) crew.actors.items (λ i a at.
            let x = actor_at i a at in
            (all_begin rules owns values end x.0 a.asks a.posts a.pacer a (begun_at end i a x.0 x.1 x.2 x.3 le top)).0);
        rings = record {
          count = is.begun.count ∙ sym (length-map cores values.core) ∙ proper.core_count ∙ sym managed.ready.desk_count;
          at = joined_at;
        };
      };
      come = record {
        manager = managed.through;
        cores = record { count = is.begun.count ∙ sym (length-map cores values.core); at = alone_at };
      };
      opening = all_of (IsOpening clock slack) crew.actors.items (λ i a at.
          let x = actor_at i a at in
          record { clock' = x.2.begun.clock ∙ x.3.2; seen = x.3.3; slack' = x.3.4; sent = x.2.sent });
    }
