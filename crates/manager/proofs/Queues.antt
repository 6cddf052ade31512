-- The asks that wait at desks, one step of serving after another.
use Rattle.std.proofs.Common.{◌≡◌, ◌∙◌, ℕ, ◌<◌, ◌==◌, ◌&&◌, List, [], ◌∷◌, ◌++◌, length, get_or, true, false, cond, Bool, Some, None, refl, sym, subst, arith, append_assoc}
use Rattle.std.proofs.lemmas.Bool.{false≢true}
use Rattle.std.proofs.lemmas.Option.{none-some}
use Rattle.slack_base.specs.declared.messages.Ask.{Ask}
use Rattle.slack_base.specs.declared.stamps.Id.{Id}
use Rattle.slack_base.specs.Messages.{id_of}
use Rattle.target_law.specs.Proper.{IsProperAsk}
use Rattle.target_law.specs.Rules.{Rules}
use Rattle.target_law.proofs.Numbers.{eq_of}
use Rattle.violation_watch.proofs.Lists.{less_or}
use Rattle.drive_script.specs.Finishing.{IsFirstLeast, NoKey, is_before}
use Rattle.drive_script.specs.Loops.{total}
use Rattle.drive_script.specs.Worlds.{oldest, younger}
use Rattle.drive_script.proofs.Places.{stored_seen, stored_none}
use Rattle.drive_script.proofs.Waiting.{total_less}
use Rattle.manager.specs.declared.managers.Desk.{Desk}
use Rattle.manager.specs.Queues.{queues_of, oldest_at, without_oldest_at, servable_id, next_id, ServesAll, done, serves}

-- how many asks wait
abbrev pub waiting : List (List Ask) → ℕ
waiting queues = total length queues

fewer : (x : Ask) (asks : List Ask) → oldest asks ≡ Some x → length (younger asks) < length asks
fewer x [] e = absurd (none-some x e)
fewer x (y ∷ asks) e = omega arith

pub fewer_waiting : (c : ℕ) (x : Ask) (queues : List (List Ask)) → oldest_at queues c ≡ Some x → waiting (without_oldest_at c queues) < waiting queues
fewer_waiting c x queues e = total_less length younger oldest x (fewer x) c queues e

module _ {Inner Chan : Type 0} (rules : Rules Inner Chan) where
  -- an ask that may be served
  pub record IsServable (c : ℕ) (asks : List Ask) : Type 0 where
    pub ask : Ask
    pub first : oldest asks ≡ Some ask
    pub proper : IsProperAsk rules ask
    pub core : (id_of ask).core ≡ c

  both_true : (a b : Bool) → (a && b) ≡ true → (a ≡ true) × (b ≡ true)
  both_true true true e = (refl, refl)
  both_true true false e = (refl, e)
  both_true false b e = absurd (false≢true e)

  servable_by : (c : ℕ) (x : Ask) (asks : List Ask) (i : Id) (b : Bool) → (rules.is_proper_ask x && ((id_of x).core == c)) ≡ b → cond b (Some (id_of x)) None ≡ Some i → IsServable c (x ∷ asks)
  servable_by c x asks i true e is = let both = both_true (rules.is_proper_ask x) ((id_of x).core == c) e in record { ask = x; first = refl; proper = both.0; core = eq_of (id_of x).core c both.1 }
  servable_by c x asks i false e is = absurd (none-some i is)

  pub servable_of : (c : ℕ) (asks : List Ask) (i : Id) → servable_id rules c asks ≡ Some i → IsServable c asks
  servable_of c [] i e = absurd (none-some i e)
  servable_of c (x ∷ asks) i e = servable_by c x asks i (rules.is_proper_ask x && ((id_of x).core == c)) refl e

  -- the desk of a place from which an ask may be served is there
  pub place_within : (c : ℕ) (desks : List Desk) (i : Id) → next_id rules (queues_of desks) c ≡ Some i → c < length desks
  place_within c desks i e = less_or c (length desks) (λ l. l) (λ l. absurd (none-some i (sym (stored_none (λ (desk : Desk). desk.pending.items) c desks (servable_id rules c) None l) ∙ e)))

  pub servable_at : (c : ℕ) (desks : List Desk) (i : Id) (d : Desk) → next_id rules (queues_of desks) c ≡ Some i → d ≡ get_or desks c d → IsServable c d.pending.items
  servable_at c desks i d e is =
      servable_of c d.pending.items i (sym (stored_seen (λ (desk : Desk). desk.pending.items) c desks d (place_within c desks i e) is (servable_id rules c) None) ∙ e)

  -- what serving leads to from now, it leads to from the first, with these asks before
  abbrev pub LeadsFrom : (first : List (List Ask)) → List Ask → (now : List (List Ask)) → Type 0
  LeadsFrom first asks now = (more : List Ask) (left : List (List Ask)) → ServesAll rules now more left → ServesAll rules first (asks ++ more) left

  pub leads_more : (first : List (List Ask)) (asks : List Ask) (now : List (List Ask)) (c : ℕ) (i : Id) (x : Ask) → LeadsFrom first asks now → IsFirstLeast Id is_before (next_id rules now) c i → oldest_at now c ≡ Some x
      → LeadsFrom first (asks ++ x ∷ []) (without_oldest_at c now)
  leads_more first asks now c i x leads is old more left s =
      subst (λ l. ServesAll rules first l left) (sym (append_assoc asks (x ∷ []) more)) (leads (x ∷ more) left (serves c i x is old s))

  -- where serving ends, none may be served
  pub none_left : {first left : List (List Ask)} {asks : List Ask} → ServesAll rules first asks left → NoKey (next_id rules left)
  none_left (done none) = none
  none_left (serves c id x is old rest) = none_left rest
