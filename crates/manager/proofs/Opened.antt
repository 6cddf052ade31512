-- A manager that has done nothing yet.
use Rattle.std.proofs.Common.{◌≡◌, ◌∙◌, ◌⊎◌, inl, inr, ℕ, ◌+◌, ◌<◌, List, [], ◌∷◌, ◌++◌, All, length, map, get_or, slice_get, Some, refl, sym, ap, subst, arith, append_assoc, append-nil}
use Rattle.std.specs.List.{AllByRecursion as Each}
use Rattle.std.proofs.lemmas.List.{length-append, length-map, map-append}
use Rattle.std.proofs.lemmas.List.Elements.{All-nil}
use Rattle.std.proofs.lemmas.Option.{same_Some, slice_get_within, slice_get-get_or}
use Rattle.core_gate.specs.Seats.{cores_of}
use Rattle.core_gate.specs.declared.overseers.Overseer.{Overseer}
use Rattle.slack_base.specs.declared.messages.Ask.{Ask}
use Rattle.slack_base.specs.declared.messages.Post.{Post}
use Rattle.stamp_queue.specs.Rings.{all_sent, all_received}
use Rattle.stamp_queue.specs.declared.receivers.Receiver.{Receiver}
use Rattle.stamp_queue.specs.declared.senders.Sender.{Sender}
use Rattle.target_law.specs.Cycles.{Through, through}
use Rattle.target_law.specs.Drifts.{posts_to}
use Rattle.target_law.specs.Numbered.{AllNumbered}
use Rattle.target_law.specs.Proper.{IsPostTo, IsProperAsk, IsChanOf}
use Rattle.target_law.specs.Rules.{Rules, Owns}
use Rattle.target_law.specs.Values.{Values}
use Rattle.target_law.proofs.Loops.{get-map}
use Rattle.violation_watch.specs.Watching.{SawServed, begins}
use Rattle.manager.specs.declared.managers.Desk.{Desk}
use Rattle.manager.specs.declared.managers.Manager.{Manager}
use Rattle.manager.specs.Managers.{IsReadyDesk, IsReadyManager, IsThrough}
use Rattle.manager.specs.Openings.{IsOpening, AreUnused, AllReadyOpenings}
use Rattle.manager.specs.Places.{EachPlace}

-- desks that are made one after another, each of the next of the items
pub made_more : {X Y : Type 0} (f : X → Y) (xs : List X) (x : X) (rest left all : List Y) → map f xs ++ rest ≡ all → rest ≡ f x ∷ left → map f (xs ++ x ∷ []) ++ left ≡ all
made_more f xs x rest left all h e = ap (λ l. l ++ left) (map-append f xs (x ∷ [])) ∙ append_assoc (map f xs) (f x ∷ []) left ∙ ap (λ l. map f xs ++ l) (sym e) ∙ h

pub none_of : {X : Type 0} (xs : List X) → length xs ≡ 0 → xs ≡ []
none_of [] e = refl
none_of (x ∷ xs) e = absurd (omega (arith, e))

-- they are made of all items once either list is at its end
module _ {X Y Z : Type 0} (f : X → Y) (g : X → Z) (xs : List X) (rest all : List Y) (others whole : List Z) (h : map f xs ++ rest ≡ all) (k : map g xs ++ others ≡ whole) (same : length whole ≡ length all) where
  ended : (rest ≡ []) ⊎ (others ≡ []) → (rest ≡ []) × (others ≡ [])
  ended either =
      let a : length xs + length rest ≡ length all = ap (λ n. n + length rest) (sym (length-map xs f)) ∙ sym (length-append (map f xs) rest) ∙ ap length h in
      let b : length xs + length others ≡ length whole = ap (λ n. n + length others) (sym (length-map xs g)) ∙ sym (length-append (map g xs) others) ∙ ap length k in
      elim either [
        | inl e ↦ let none = ap length e in (e, none_of others (omega (arith, a, b, same, none)))
        | inr e ↦ let none = ap length e in (none_of rest (omega (arith, a, b, same, none)), e)
      ]

  pub made_first : (rest ≡ []) ⊎ (others ≡ []) → map f xs ≡ all
  made_first either = sym (append-nil (map f xs)) ∙ ap (λ l. map f xs ++ l) (sym (ended either).0) ∙ h

  pub made_second : (rest ≡ []) ⊎ (others ≡ []) → map g xs ≡ whole
  made_second either = sym (append-nil (map g xs)) ∙ ap (λ l. map g xs ++ l) (sym (ended either).1) ∙ k

-- a fact of each item of a list, seen at the desk that has it
at_desk : {Y : Type 0} (P : Y → Type 0) (f : Desk → Y) (desks : List Desk) (ys : List Y) → map f desks ≡ ys → All P ys → (i : ℕ) (d : Desk) → slice_get desks i ≡ Some d → P (f d)
at_desk P f desks ys e all i d at =
    let within : i < length desks = slice_get_within desks i d at in
    let same : get_or desks i d ≡ d = same_Some (get_or desks i d) d (sym (slice_get-get_or desks i d within) ∙ at) in
    let here : All P (map f desks) = subst (All P) (sym e) all in
    subst (λ x. P (f x)) same (subst P (get-map f desks i d) (here i (f d) (subst (λ n. i < n) (sym (length-map desks f)) within)))

module _ {Inner Chan : Type 0} (rules : Rules Inner Chan) (owns : Owns Inner Chan) {Core D : Type 0} (values : Values Core D Inner Chan) where
  module _ (chans : List D) (asks : List (Receiver Ask)) (posts : List (Sender Post)) (overseer : Overseer) (m : Manager D) (is : IsOpening chans asks posts overseer m)
      (unused : AreUnused asks posts) (chan_count : length chans ≡ rules.channels) (are : AllNumbered (IsChanOf rules owns) 0 (map values.chan chans)) (count : length asks ≡ rules.cores) (clocks : cores_of overseer ≡ rules.cores) where
    none_sent : (i : ℕ) (d : Desk) → slice_get m.desks.items i ≡ Some d → all_sent d.posts ≡ []
    none_sent i d at = at_desk (λ p. all_sent p ≡ []) (λ (desk : Desk). desk.posts) m.desks.items posts is.senders unused.senders i d at

    ready_desk : (i : ℕ) (d : Desk) → slice_get m.desks.items i ≡ Some d → IsReadyDesk rules [] i d
    ready_desk i d at = record {
      received =
          at_desk (λ a. all_received a ≡ []) (λ (desk : Desk). desk.asks) m.desks.items asks is.receivers unused.receivers i d at
          ∙ sym (subst (λ (e : Desk). e.pending.items ≡ [])
          (same_Some (get_or m.desks.items i d) d (sym (slice_get-get_or m.desks.items i d (slice_get_within m.desks.items i d at)) ∙ at))
          (is.pending i d (slice_get_within m.desks.items i d at)));
      sent = subst (All (IsPostTo rules i)) (sym (none_sent i d at)) (All-nil (IsPostTo rules i));
    }

    ready_opening : IsReadyManager rules owns values m
    ready_opening = record {
      chan_count = ap length is.channels ∙ chan_count;
      chans = subst (λ ds. AllNumbered (IsChanOf rules owns) 0 (map values.chan ds)) (sym is.channels) are;
      served = subst (Each (IsProperAsk rules)) (sym is.served) tt;
      desk_count = sym (length-map m.desks.items (λ (desk : Desk). desk.asks)) ∙ ap length is.receivers ∙ count;
      clock_count = ap cores_of is.clocks ∙ clocks;
      desks = subst (λ xs. EachPlace (IsReadyDesk rules xs) m.desks.items) (sym is.served) (record { at = ready_desk });
      watch = subst (λ hs. SawServed rules hs m.served m.watch) (sym is.clashes) (subst (λ xs. SawServed rules [] xs m.watch) (sym is.served) (begins is.watch));
    }

    abbrev out : List Ask → Through Chan
    out xs = through rules (map values.chan chans) xs

    through_opening : IsThrough rules values (map values.chan chans) m
    through_opening = record {
      chans = ap (λ ds. map values.chan ds) is.channels ∙ ap (λ xs. (out xs).chans) (sym is.served);
      clashes = is.clashes ∙ ap (λ xs. (out xs).clashes) (sym is.served);
      desks = subst (λ xs. EachPlace (λ c (desk : Desk). all_sent desk.posts ≡ posts_to c (out xs).posts) m.desks.items) (sym is.served) (record { at = none_sent });
    }

  pub all_ready_openings : AllReadyOpenings rules owns values
  all_ready_openings chans asks posts overseer m is unused of = record {
    ready = ready_opening chans asks posts overseer m is unused of.chan_count of.own_chans of.rings of.clocks;
    through = through_opening chans asks posts overseer m is unused of.chan_count of.own_chans of.rings of.clocks;
  }
