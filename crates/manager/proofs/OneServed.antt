-- One ask served from its desk.
use Rattle.std.proofs.Common.{◌≡◌, ◌∙◌, ℕ, ◌<◌, List, [], ◌∷◌, ◌++◌, All, length, map, get_or, set, Some, None, sym, ap, subst}
use Rattle.std.specs.List.{AllByRecursion as Each}
use Rattle.std.proofs.lemmas.List.{length-set}
use Rattle.std.proofs.lemmas.List.Elements.{All-from_recursion}
use Rattle.std.proofs.lemmas.Option.{none-some, same_Some}
use Rattle.slack_base.specs.declared.messages.Ask.{Ask}
use Rattle.slack_base.specs.declared.messages.Post.{Post}
use Rattle.slack_base.specs.declared.stamps.Id.{Id}
use Rattle.slack_base.specs.Messages.{id_of}
use Rattle.target_law.specs.Cycles.{through}
use Rattle.target_law.specs.Laws.{Laws}
use Rattle.target_law.specs.Proper.{IsProperAsk, IsProperPost}
use Rattle.target_law.specs.Rules.{Rules, Owns}
use Rattle.target_law.specs.Values.{Values}
use Rattle.target_law.proofs.Lists.{each_weaker}
use Rattle.drive_script.specs.Worlds.{oldest, younger}
use Rattle.drive_script.proofs.Places.{oldest_first, stored_seen, stored_changed}
use Rattle.violation_watch.specs.Watching.{SawServed}
use Rattle.manager.specs.declared.managers.Desk.{Desk}
use Rattle.manager.specs.declared.managers.Manager.{Manager}
use Rattle.manager.specs.Leads.{Sent, ServedOne, Led}
use Rattle.manager.specs.Managers.{IsReadyManager}
use Rattle.manager.specs.Places.{PlacePairs}
use Rattle.manager.specs.Queues.{queues_of, next_id, TakesOldest}
use Rattle.manager.proofs.Desks.{desks_served}
use Rattle.manager.proofs.Leading.{own_posts, led_moved, overseer_kept, never_falls}
use Rattle.manager.proofs.Places.{get_read}
use Rattle.manager.proofs.Queues.{place_within, servable_at}

module _ {Inner Chan : Type 0} (rules : Rules Inner Chan) (owns : Owns Inner Chan) (laws : Laws rules owns) {Core D : Type 0} (values : Values Core D Inner Chan)
    (a : Manager D) (c : ℕ) (i : Id) (servable : next_id rules (queues_of a.desks.items) c ≡ Some i) (d : Desk) (is : d ≡ get_or a.desks.items c d) where
  pub within : c < length a.desks.items
  within = place_within rules c a.desks.items i servable

  -- an ask is there
  pub some_ask : oldest d.pending.items ≡ None → ⊥
  some_ask none = let s = servable_at rules c a.desks.items i d servable is in none-some s.ask (sym none ∙ s.first)

  module _ (x : Ask) (first : oldest d.pending.items ≡ Some x) where
    same_ask : (servable_at rules c a.desks.items i d servable is).ask ≡ x
    same_ask = let s = servable_at rules c a.desks.items i d servable is in same_Some s.ask x (sym s.first ∙ first)

    pub proper_ask : IsProperAsk rules x
    proper_ask = subst (IsProperAsk rules) same_ask (servable_at rules c a.desks.items i d servable is).proper

    own_core : (id_of x).core ≡ c
    own_core = sym (ap (λ y. (id_of y).core) same_ask) ∙ (servable_at rules c a.desks.items i d servable is).core

    module _ (ready : IsReadyManager rules owns values a) (v : Desk) (v_asks : v.asks ≡ d.asks) (v_posts : v.posts ≡ d.posts) (v_pending : v.pending.items ≡ younger d.pending.items)
        (mid s : Manager D) (mid_desks : mid.desks.items ≡ set a.desks.items c v) (mid_chans : mid.chans ≡ a.chans) (mid_served : mid.served ≡ a.served) (mid_clashes : mid.clashes ≡ a.clashes)
        (mid_watch : mid.watch ≡ a.watch) (mid_overseer : mid.overseer ≡ a.overseer) (one : ServedOne rules values x mid s) (posts : List Post) (posts_are : posts ≡ s.posts) where
      chans : List Chan
      chans = map values.chan a.chans.items

      same_chans : map values.chan mid.chans.items ≡ map values.chan a.chans.items
      same_chans = ap (λ v. map values.chan v.items) mid_chans

      sent_posts : posts ≡ (through rules (map values.chan a.chans.items) (x ∷ [])).posts
      sent_posts = posts_are ∙ one.posts ∙ ap (λ cs. (through rules cs (x ∷ [])).posts) same_chans

      each_proper : Each (IsProperPost rules) posts
      each_proper = subst (Each (IsProperPost rules)) (sym sent_posts) (own_posts rules owns laws values (map values.chan a.chans.items) (x ∷ []) ready.chans (proper_ask, tt))

      s_desks : s.desks.items ≡ set a.desks.items c v
      s_desks = ap (λ v. v.items) one.desks ∙ mid_desks

      pub inside : All (λ p. p.to < length s.desks.items) posts
      inside =
          let count : length s.desks.items ≡ rules.cores = ap length s_desks ∙ length-set a.desks.items c v ∙ ready.desk_count in
          All-from_recursion (λ p. p.to < length s.desks.items) posts (each_weaker (λ p proper. subst (λ n. p.to < n) (sym count) (laws.posts p proper)) posts each_proper)

      module _ (b : Manager D) (b_chans : b.chans ≡ s.chans) (b_served : b.served ≡ s.served) (b_clashes : b.clashes ≡ s.clashes) (b_watch : b.watch ≡ s.watch) (b_overseer : b.overseer ≡ s.overseer)
          (sent : PlacePairs (Sent posts) s.desks.items b.desks.items) (queues : queues_of b.desks.items ≡ queues_of s.desks.items) where
        whole_served : b.served ≡ a.served ++ x ∷ []
        whole_served = b_served ∙ one.served ∙ ap (λ xs. xs ++ x ∷ []) mid_served

        pub same_overseer : b.overseer ≡ a.overseer
        same_overseer = b_overseer ∙ one.overseer ∙ mid_overseer

        watch_mid : SawServed rules mid.clashes mid.served mid.watch
        watch_mid =
            subst (λ hs. SawServed rules hs mid.served mid.watch) (sym mid_clashes)
            (subst (λ xs. SawServed rules a.clashes xs mid.watch) (sym mid_served) (subst (SawServed rules a.clashes a.served) (sym mid_watch) ready.watch))

        watch_end : SawServed rules b.clashes b.served b.watch
        watch_end =
            subst (λ hs. SawServed rules hs b.served b.watch) (sym b_clashes)
            (subst (λ xs. SawServed rules s.clashes xs b.watch) (sym b_served) (subst (SawServed rules s.clashes s.served) (sym b_watch) (one.watch watch_mid)))

        pub led_served : Led rules owns values a b
        led_served = led_moved rules owns laws values (x ∷ []) posts a b ready (record {
          proper = (proper_ask, tt);
          posts_are = sent_posts;
          served = whole_served;
          chans = ap (λ v. map values.chan v.items) b_chans ∙ one.chans ∙ ap (λ cs. (through rules cs (x ∷ [])).chans) same_chans;
          clashes =
              b_clashes ∙ one.clashes ∙ ap (λ hs. hs ++ (through rules (map values.chan mid.chans.items) (x ∷ [])).clashes) mid_clashes
              ∙ ap (λ cs. a.clashes ++ (through rules cs (x ∷ [])).clashes) same_chans;
          watch = watch_end;
          desks =
              desks_served x c posts a.desks.items b.desks.items d v (get_read a.desks.items c d within is) own_core
              (oldest_first d.pending.items x first ∙ ap (λ xs. x ∷ xs) (sym v_pending)) v_asks v_posts
              (subst (λ l. PlacePairs (Sent posts) l b.desks.items) s_desks sent);
          overseer = overseer_kept a.overseer b.overseer same_overseer;
          rises = never_falls a.overseer b.overseer same_overseer;
        })

        pub takes_oldest : TakesOldest c a b
        takes_oldest = record {
          ask = x;
          oldest = stored_seen (λ (desk : Desk). desk.pending.items) c a.desks.items d within is oldest None ∙ first;
          served = whole_served;
          queues = queues ∙ ap queues_of s_desks ∙ stored_changed (λ (desk : Desk). desk.pending.items) c a.desks.items d within is younger v v_pending;
        }
