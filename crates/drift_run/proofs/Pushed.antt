-- A crew that grows by one actor.
use Rattle.std.proofs.Common.{◌≡◌, ◌∙◌, ℕ, ◌+◌, ◌⊎◌, inl, inr, List, [], ◌∷◌, ◌++◌, map, length, refl, sym, ap, subst, arith, append-nil, append_assoc}
use Rattle.std.proofs.lemmas.List.{length-append, length-map, map-append}
use Rattle.std.proofs.lemmas.Option.{slice_get_within}
use Rattle.core_actor.specs.Actors.{IsBegun}
use Rattle.core_actor.specs.declared.actors.CoreActor.{CoreActor}
use Rattle.core_gate.specs.declared.pacers.Pacer.{Pacer}
use Rattle.manager.specs.Places.{PlacePairs}
use Rattle.manager.proofs.Opened.{none_of}
use Rattle.settle.proofs.Lists.{get_push_cases}
use Rattle.slack_base.specs.declared.messages.Ask.{Ask}
use Rattle.slack_base.specs.declared.messages.Post.{Post}
use Rattle.stamp_queue.specs.declared.receivers.Receiver.{Receiver}
use Rattle.stamp_queue.specs.declared.senders.Sender.{Sender}
use Rattle.stamp_queue.specs.Rings.{all_sent, all_received, AreEnds}
use Rattle.drift_run.specs.Crews.{HasBegun, IsAskEnd, IsPostEnd, IsCrew}
use Rattle.drift_run.specs.declared.crews.Crew.{Crew}

-- the next item is no longer among the rest
pub moved_on : {X : Type 0} (front rest left all : List X) (x : X) → front ++ rest ≡ all → rest ≡ x ∷ left → (front ++ x ∷ []) ++ left ≡ all
moved_on front rest left all x e f = append_assoc front (x ∷ []) left ∙ ap (λ l. front ++ l) (sym f) ∙ e

pub pairs_none : {X Y : Type 0} (R : ℕ → X → Y → Type 0) → PlacePairs R [] []
pairs_none R = record { count = refl; at = λ i x y ex ey. absurd (let w = slice_get_within [] i x ex in omega (arith, w)) }

pub pairs_push : {X Y : Type 0} (R : ℕ → X → Y → Type 0) (xs : List X) (ys : List Y) (x : X) (y : Y) → PlacePairs R xs ys → R (length xs) x y → PlacePairs R (xs ++ x ∷ []) (ys ++ y ∷ [])
pairs_push R xs ys x y h k = record {
  count =
      let c = h.count in
      let a : length (ys ++ y ∷ []) ≡ length ys + 1 = length-append ys (y ∷ []) in
      let b : length (xs ++ x ∷ []) ≡ length xs + 1 = length-append xs (x ∷ []) in
      omega (arith, a, b, c);
  at = λ i a b ea eb. elim (get_push_cases xs i x a ea) [
    | inl p ↦ elim (get_push_cases ys i y b eb) [
      | inl q ↦ h.at i a b p q
      | inr q ↦ absurd (let w = slice_get_within xs i a p in let c = h.count in let e = q.0 in omega (arith, w, c, e))
    ]
    | inr p ↦ elim (get_push_cases ys i y b eb) [
      | inl q ↦ absurd (let w = slice_get_within ys i b q in let c = h.count in let e = p.0 in omega (arith, w, c, e))
      | inr q ↦ subst (λ a. R i a b) p.1 (subst (λ b. R i x b) q.1 (subst (λ n. R n x y) (sym p.0) k))
    ]
  ];
}

module _ {Core : Type 0} where
  pub begun_of : (core : Core) (asks : Sender Ask) (posts : Receiver Post) (pacer : Pacer) (a : CoreActor Core) → IsBegun core asks posts pacer a → all_sent asks ≡ [] → all_received posts ≡ [] → HasBegun core a
  begun_of core asks posts pacer a is sent received = record {
    begun = record {
      has_core = is.has_core;
      clock = is.clock ∙ ap (λ (p : Pacer). p.clock) (sym is.paced);
      no_asks = is.no_asks;
      no_posts = is.no_posts;
      taken = is.taken;
      sends = refl;
      receives = refl;
      paced = refl;
      watches = is.watches;
    };
    sent = ap all_sent is.sends ∙ sent;
    received = ap all_received is.receives ∙ received;
  }

  pub crew_more : (cores : List Core) (pacers : List Pacer) (old new : Crew Core) (core : Core) (asks : Sender Ask) (posts : Receiver Post) (pacer : Pacer) (a : CoreActor Core) (r : Receiver Ask) (s : Sender Post)
      → IsBegun core asks posts pacer a → all_sent asks ≡ [] → all_received posts ≡ [] → AreEnds asks r → all_received r ≡ [] → AreEnds s posts → all_sent s ≡ []
      → new.actors.items ≡ old.actors.items ++ a ∷ [] → new.asks ≡ old.asks ++ r ∷ [] → new.posts ≡ old.posts ++ s ∷ []
      → IsCrew cores pacers old → IsCrew (cores ++ core ∷ []) (pacers ++ pacer ∷ []) new
  crew_more cores pacers old new core asks posts pacer a r s is unsent unreceived ask_ends none post_ends nothing actors_are asks_are posts_are h =
      record {
        paced =
            ap (map (λ (x : CoreActor Core). x.pacer)) actors_are ∙ map-append (λ (x : CoreActor Core). x.pacer) old.actors.items (a ∷ [])
            ∙ ap (λ ps. ps ++ a.pacer ∷ []) h.paced ∙ ap (λ (p : Pacer). pacers ++ p ∷ []) is.paced;
        begun =
            subst (PlacePairs (λ _. HasBegun) (cores ++ core ∷ [])) (sym actors_are)
            (pairs_push (λ _. HasBegun) cores old.actors.items core a h.begun (begun_of core asks posts pacer a is unsent unreceived));
        asks =
            subst (λ (rs : List (Receiver Ask)). PlacePairs (λ _. IsAskEnd) new.actors.items rs) (sym asks_are)
            (subst (λ (us : List (CoreActor Core)). PlacePairs (λ _. IsAskEnd) us (old.asks ++ r ∷ [])) (sym actors_are)
            (pairs_push (λ _. IsAskEnd) old.actors.items old.asks a r h.asks (record { ends = subst (λ (x : Sender Ask). AreEnds x r) (sym is.sends) ask_ends; received = none })));
        posts =
            subst (λ (ss : List (Sender Post)). PlacePairs (λ _. IsPostEnd) new.actors.items ss) (sym posts_are)
            (subst (λ (us : List (CoreActor Core)). PlacePairs (λ _. IsPostEnd) us (old.posts ++ s ∷ [])) (sym actors_are)
            (pairs_push (λ _. IsPostEnd) old.actors.items old.posts a s h.posts (record { ends = subst (λ (x : Receiver Post). AreEnds s x) (sym is.receives) post_ends; sent = nothing })));
      }

  pub crew_none : (crew : Crew Core) → crew.actors.items ≡ [] → crew.asks ≡ [] → crew.posts ≡ [] → IsCrew [] [] crew
  crew_none crew actors_are asks_are posts_are = record {
    paced = ap (map (λ (x : CoreActor Core). x.pacer)) actors_are;
    begun = subst (PlacePairs (λ _. HasBegun) []) (sym actors_are) (pairs_none (λ _. HasBegun));
    asks =
        subst (λ (rs : List (Receiver Ask)). PlacePairs (λ _. IsAskEnd) crew.actors.items rs) (sym asks_are)
        (subst (λ (us : List (CoreActor Core)). PlacePairs (λ _. IsAskEnd) us []) (sym actors_are) (pairs_none (λ _. IsAskEnd)));
    posts =
        subst (λ (ss : List (Sender Post)). PlacePairs (λ _. IsPostEnd) crew.actors.items ss) (sym posts_are)
        (subst (λ (us : List (CoreActor Core)). PlacePairs (λ _. IsPostEnd) us []) (sym actors_are) (pairs_none (λ _. IsPostEnd)));
  }

  -- so many actors as pacers
  crew_count : (cores : List Core) (pacers : List Pacer) (crew : Crew Core) → IsCrew cores pacers crew → length pacers ≡ length cores
  crew_count cores pacers crew h = ap length (sym h.paced) ∙ length-map crew.actors.items (λ (x : CoreActor Core). x.pacer) ∙ h.begun.count

  -- it is of all once either list is at its end
  pub crew_whole : (front rest cores : List Core) (first left pacers : List Pacer) (crew : Crew Core) → front ++ rest ≡ cores → first ++ left ≡ pacers → length pacers ≡ length cores → IsCrew front first crew
      → (rest ≡ []) ⊎ (left ≡ []) → IsCrew cores pacers crew
  crew_whole front rest cores first left pacers crew e f same h either =
      let n : length first ≡ length front = crew_count front first crew h in
      let a : length front + length rest ≡ length cores = sym (length-append front rest) ∙ ap length e in
      let b : length first + length left ≡ length pacers = sym (length-append first left) ∙ ap length f in
      let both : (rest ≡ []) × (left ≡ []) = elim either [
        | inl none ↦ let z = ap length none in (none, none_of left (omega (arith, n, a, b, same, z)))
        | inr none ↦ let z = ap length none in (none_of rest (omega (arith, n, a, b, same, z)), none)
      ] in
      subst (λ ps. IsCrew cores ps crew) (sym (append-nil first) ∙ ap (λ l. first ++ l) (sym both.1) ∙ f)
      (subst (λ cs. IsCrew cs first crew) (sym (append-nil front) ∙ ap (λ l. front ++ l) (sym both.0) ∙ e) h)
