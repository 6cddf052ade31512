-- Desks, after posts were sent and asks were received.
use Rattle.std.proofs.Common.{◌≡◌, ◌≢◌, ◌∙◌, ◌==◌, ℕ, ◌+◌, ◌<◌, List, [], ◌∷◌, ◌++◌, All, IsTrue, length, take, get_or, set, slice_get, Some, sym, ap, subst, refl, append_assoc, append-nil}
use Rattle.std.proofs.lemmas.List.{take_more}
use Rattle.std.proofs.lemmas.List.Elements.{filter-append, All-from_recursion, All-append}
use Rattle.std.specs.List.{AllByRecursion as Each}
use Rattle.slack_base.specs.declared.messages.Ask.{Ask}
use Rattle.slack_base.specs.declared.messages.Post.{Post}
use Rattle.slack_base.specs.Messages.{id_of}
use Rattle.stamp_queue.specs.Rings.{all_sent, all_received, SameSender, SameReceiver, HandsOver}
use Rattle.stamp_queue.specs.declared.receivers.Receiver.{Receiver}
use Rattle.stamp_queue.specs.declared.senders.Sender.{Sender}
use Rattle.target_law.specs.Drifts.{asks_by, posts_to}
use Rattle.target_law.specs.Proper.{IsProperPost, IsPostTo}
use Rattle.target_law.specs.Rules.{Rules}
use Rattle.target_law.proofs.Lists.{filter-yes, filter-no, each_weaker, each_passes}
use Rattle.target_law.proofs.Numbers.{eq_is, eq_is_not, eq_of}
use Rattle.violation_watch.proofs.Lists.{each_both, each_filter}
use Rattle.manager.specs.declared.managers.Desk.{Desk}
use Rattle.manager.specs.Leads.{SameDesk, Sent, Received}
use Rattle.manager.specs.Managers.{IsReadyDesk}
use Rattle.manager.specs.Places.{PlacePairs}
use Rattle.manager.proofs.Places.{pairs_same, pairs_set, pairs_then, pairs_weaker}

pub sender_same : {X : Type 0} (a : Sender X) → SameSender a a
sender_same a = ((refl, refl, refl, refl), refl)

pub receiver_same : {X : Type 0} (a : Receiver X) → SameReceiver a a
receiver_same a = ((refl, refl, refl, refl), refl)

pub sender_then : {X : Type 0} (a b d : Sender X) → SameSender a b → SameSender b d → SameSender a d
sender_then a b d h k = ((k.0.0 ∙ h.0.0, k.0.1 ∙ h.0.1, k.0.2 ∙ h.0.2, k.0.3 ∙ h.0.3), k.1 ∙ h.1)

pub receiver_then : {X : Type 0} (a b d : Receiver X) → SameReceiver a b → SameReceiver b d → SameReceiver a d
receiver_then a b d h k = ((k.0.0 ∙ h.0.0, k.0.1 ∙ h.0.1, k.0.2 ∙ h.0.2, k.0.3 ∙ h.0.3), k.1 ∙ h.1)

desk_same : (c : ℕ) (d : Desk) → SameDesk c d d
desk_same c d = record { asks = receiver_same d.asks; posts = sender_same d.posts }

desk_then : (c : ℕ) (d e f : Desk) → SameDesk c d e → SameDesk c e f → SameDesk c d f
desk_then c d e f h k = record { asks = receiver_then d.asks e.asks f.asks h.asks k.asks; posts = sender_then d.posts e.posts f.posts h.posts k.posts }

-- posts to a core
posts_to-append : (c : ℕ) (ps qs : List Post) → posts_to c (ps ++ qs) ≡ posts_to c ps ++ posts_to c qs
posts_to-append c ps qs = filter-append (λ (p : Post). p.to == c) ps qs

asks_by-append : (c : ℕ) (xs ys : List Ask) → asks_by c (xs ++ ys) ≡ asks_by c xs ++ asks_by c ys
asks_by-append c xs ys = filter-append (λ (x : Ask). (id_of x).core == c) xs ys

post_here : (p : Post) → posts_to p.to (p ∷ []) ≡ p ∷ []
post_here p = filter-yes (λ q. q.to == p.to) p [] (eq_is p.to p.to refl)

post_else : (c : ℕ) (p : Post) → c ≢ p.to → posts_to c (p ∷ []) ≡ []
post_else c p ne = filter-no (λ q. q.to == c) p [] (eq_is_not p.to c (λ e. ne (sym e)))

pub ask_here : (c : ℕ) (x : Ask) → (id_of x).core ≡ c → asks_by c (x ∷ []) ≡ x ∷ []
ask_here c x e = filter-yes (λ y. (id_of y).core == c) x [] (eq_is (id_of x).core c e)

pub ask_else : (c : ℕ) (x : Ask) → (id_of x).core ≢ c → asks_by c (x ∷ []) ≡ []
ask_else c x ne = filter-no (λ y. (id_of y).core == c) x [] (eq_is_not (id_of x).core c ne)

-- sending
sent_then : (A B : List Post) (c : ℕ) (d e f : Desk) → Sent A c d e → Sent B c e f → Sent (A ++ B) c d f
sent_then A B c d e f h k = record {
  asks = k.asks ∙ h.asks;
  pending = k.pending ∙ h.pending;
  sent =
      k.sent
      ∙ (ap (λ l. l ++ posts_to c B) h.sent
      ∙ (append_assoc (all_sent d.posts) (posts_to c A) (posts_to c B) ∙ ap (λ l. all_sent d.posts ++ l) (sym (posts_to-append c A B))));
  same = sender_then d.posts e.posts f.posts h.same k.same;
}

sent_none : (posts : List Post) (c : ℕ) (d : Desk) → posts_to c posts ≡ [] → Sent posts c d d
sent_none posts c d none = record { asks = refl; pending = refl; sent = sym (ap (λ l. all_sent d.posts ++ l) none ∙ append-nil (all_sent d.posts)); same = sender_same d.posts }

pub sent_begins : (desks : List Desk) → PlacePairs (Sent []) desks desks
sent_begins desks = pairs_same (Sent []) desks (λ c d. sent_none [] c d refl)

pub sent_more : (ps : List Post) (k : ℕ) (p blank : Post) (xs ys : List Desk) (y : Desk) (s : Sender Post) → PlacePairs (Sent (take k ps)) xs ys → k < length ps → p ≡ get_or ps k blank → slice_get ys p.to ≡ Some y
    → all_sent s ≡ all_sent y.posts ++ p ∷ [] → SameSender y.posts s
    → PlacePairs (Sent (take (k + 1) ps)) xs (set ys p.to (record y { posts = s }))
sent_more ps k p blank xs ys y s h lt is at sent same =
    let v : Desk = record y { posts = s } in
    let step : Sent (p ∷ []) p.to y v = record { asks = refl; pending = refl; sent = sent ∙ ap (λ l. all_sent y.posts ++ l) (sym (post_here p)); same = same } in
    let cut : take k ps ++ p ∷ [] ≡ take (k + 1) ps = sym (take_more ps k blank lt ∙ ap (λ (x : Post). take k ps ++ x ∷ []) (sym is)) in
    subst (λ l. PlacePairs (Sent l) xs (set ys p.to v)) cut
    (pairs_then (Sent (take k ps)) (Sent (p ∷ [])) (Sent (take k ps ++ p ∷ [])) xs ys (set ys p.to v) (λ c d e f g r. sent_then (take k ps) (p ∷ []) c d e f g r) h
    (pairs_set (Sent (p ∷ [])) ys p.to y v at step (λ c d ne. sent_none (p ∷ []) c d (post_else c p ne))))

pub flushed_more : (k : ℕ) (xs ys : List Desk) (y : Desk) (s : Sender Post) → PlacePairs (Sent []) xs ys → slice_get ys k ≡ Some y → all_sent s ≡ all_sent y.posts → SameSender y.posts s
    → PlacePairs (Sent []) xs (set ys k (record y { posts = s }))
flushed_more k xs ys y s h at sent same =
    let v : Desk = record y { posts = s } in
    let step : Sent [] k y v = record { asks = refl; pending = refl; sent = sent ∙ sym (append-nil (all_sent y.posts)); same = same } in
    pairs_then (Sent []) (Sent []) (Sent []) xs ys (set ys k v) (λ c d e f g r. sent_then [] [] c d e f g r) h
    (pairs_set (Sent []) ys k y v at step (λ c d ne. sent_none [] c d refl))

-- receiving
received_none : (c : ℕ) (d : Desk) → Received c d d
received_none c d = record { items = ([], sym (append-nil (all_received d.asks)), sym (append-nil d.pending.items)); sent = refl; same = desk_same c d }

received_then : (c : ℕ) (d e f : Desk) → Received c d e → Received c e f → Received c d f
received_then c d e f h k = record {
  items = (
    h.items.0 ++ k.items.0,
    k.items.1 ∙ (ap (λ l. l ++ k.items.0) h.items.1 ∙ append_assoc (all_received d.asks) h.items.0 k.items.0),
    k.items.2 ∙ (ap (λ l. l ++ k.items.0) h.items.2 ∙ append_assoc d.pending.items h.items.0 k.items.0),
  );
  sent = k.sent ∙ h.sent;
  same = desk_then c d e f h.same k.same;
}

pub received_begins : (desks : List Desk) → PlacePairs Received desks desks
received_begins desks = pairs_same Received desks received_none

pub received_more : (k : ℕ) (xs ys : List Desk) (y v : Desk) → PlacePairs Received xs ys → slice_get ys k ≡ Some y → HandsOver y.asks v.asks y.pending.items v.pending.items → SameReceiver y.asks v.asks → v.posts ≡ y.posts
    → PlacePairs Received xs (set ys k v)
received_more k xs ys y v h at items same posts =
    let step : Received k y v = record {
      items = items;
      sent = ap (λ (s : Sender Post). all_sent s) posts;
      same = record { asks = same; posts = subst (λ (s : Sender Post). SameSender y.posts s) (sym posts) (sender_same y.posts) };
    } in
    pairs_then Received Received Received xs ys (set ys k v) received_then h
    (pairs_set Received ys k y v at step (λ c d ne. received_none c d))

pub flushed_received : (xs ys zs : List Desk) → PlacePairs (Sent []) xs ys → PlacePairs Received ys zs → PlacePairs Received xs zs
flushed_received xs ys zs h k =
    pairs_then (Sent []) Received Received xs ys zs
    (λ c d e f s r.
    received_then c d e f
    (record {
      items = ([], ap (λ (a : Receiver Ask). all_received a) s.asks ∙ sym (append-nil (all_received d.asks)), ap (λ q. q.items) s.pending ∙ sym (append-nil d.pending.items));
      sent = s.sent ∙ append-nil (all_sent d.posts);
      same = record { asks = subst (λ (a : Receiver Ask). SameReceiver d.asks a) (sym s.asks) (receiver_same d.asks); posts = s.same };
    })
    r)
    h k

-- the desk of core c before and after asks were served, whose posts are these; asks may have been received in between
pub record DeskMoved (asks : List Ask) (posts : List Post) (c : ℕ) (d e : Desk) : Type 0 where
  pub same : SameDesk c d e
  pub received : (before : List Ask) → all_received d.asks ≡ before ++ d.pending.items → all_received e.asks ≡ (before ++ asks_by c asks) ++ e.pending.items
  pub sent : all_sent e.posts ≡ all_sent d.posts ++ posts_to c posts

pub moved_none : (asks : List Ask) (c : ℕ) (d : Desk) → asks_by c asks ≡ [] → DeskMoved asks [] c d d
moved_none asks c d none = record {
  same = desk_same c d;
  received = λ before e. e ∙ ap (λ l. l ++ d.pending.items) (sym (append-nil before) ∙ ap (λ l. before ++ l) (sym none));
  sent = sym (append-nil (all_sent d.posts));
}

moved_received : (c : ℕ) (d e : Desk) → Received c d e → DeskMoved [] [] c d e
moved_received c d e r = record {
  same = r.same;
  received = λ before q.
      r.items.1
      ∙ (ap (λ l. l ++ r.items.0) q
      ∙ (append_assoc before d.pending.items r.items.0 ∙ (ap (λ l. before ++ l) (sym r.items.2) ∙ ap (λ l. l ++ e.pending.items) (sym (append-nil before)))));
  sent = r.sent ∙ sym (append-nil (all_sent d.posts));
}

pub desks_received : (xs ys : List Desk) → PlacePairs Received xs ys → PlacePairs (DeskMoved [] []) xs ys
desks_received xs ys h = pairs_weaker Received (DeskMoved [] []) xs ys moved_received h

pub desks_same : (xs : List Desk) → PlacePairs (DeskMoved [] []) xs xs
desks_same xs = pairs_same (DeskMoved [] []) xs (λ c d. moved_none [] c d refl)

moved_sent : (asks : List Ask) (posts : List Post) (c : ℕ) (d e f : Desk) → DeskMoved asks [] c d e → Sent posts c e f → DeskMoved asks posts c d f
moved_sent asks posts c d e f m s = record {
  same = record { asks = subst (λ (a : Receiver Ask). SameReceiver d.asks a) (sym s.asks) m.same.asks; posts = sender_then d.posts e.posts f.posts m.same.posts s.same };
  received = λ before q. ap (λ (a : Receiver Ask). all_received a) s.asks ∙ (m.received before q ∙ ap (λ r. (before ++ asks_by c asks) ++ r.items) (sym s.pending));
  sent = s.sent ∙ ap (λ l. l ++ posts_to c posts) (m.sent ∙ append-nil (all_sent d.posts));
}

-- an ask was taken from the desk of its core, and its posts were sent
pub desks_served : (x : Ask) (k : ℕ) (posts : List Post) (xs zs : List Desk) (d v : Desk) → slice_get xs k ≡ Some d → (id_of x).core ≡ k → d.pending.items ≡ x ∷ v.pending.items → v.asks ≡ d.asks → v.posts ≡ d.posts
    → PlacePairs (Sent posts) (set xs k v) zs → PlacePairs (DeskMoved (x ∷ []) posts) xs zs
desks_served x k posts xs zs d v at core pending asks same_posts sent =
    let step : DeskMoved (x ∷ []) [] k d v = record {
      same = record { asks = subst (λ (a : Receiver Ask). SameReceiver d.asks a) (sym asks) (receiver_same d.asks); posts = subst (λ (s : Sender Post). SameSender d.posts s) (sym same_posts) (sender_same d.posts) };
      received = λ before q.
          ap (λ (a : Receiver Ask). all_received a) asks
          ∙ (q ∙ (ap (λ l. before ++ l) pending ∙ (sym (append_assoc before (x ∷ []) v.pending.items) ∙ ap (λ l. (before ++ l) ++ v.pending.items) (sym (ask_here k x core)))));
      sent = ap (λ (s : Sender Post). all_sent s) same_posts ∙ sym (append-nil (all_sent d.posts));
    } in
    pairs_then (DeskMoved (x ∷ []) []) (Sent posts) (DeskMoved (x ∷ []) posts) xs (set xs k v) zs (moved_sent (x ∷ []) posts)
    (pairs_set (DeskMoved (x ∷ []) []) xs k d v at step (λ c e ne. moved_none (x ∷ []) c e (ask_else c x (λ q. ne (sym q ∙ core))))) sent

module _ {Inner Chan : Type 0} (rules : Rules Inner Chan) where
  -- of proper posts those to a core
  posts_are : (c : ℕ) (posts : List Post) → Each (IsProperPost rules) posts → All (IsPostTo rules c) (posts_to c posts)
  posts_are c posts proper =
      All-from_recursion (IsPostTo rules c) (posts_to c posts)
      (each_weaker (λ p both. record { proper = both.0; to = eq_of p.to c both.1 }) (posts_to c posts)
      (each_both (λ p. IsTrue (rules.is_proper_post p)) (λ p. IsTrue (p.to == c)) (posts_to c posts) (each_filter (λ p. p.to == c) (λ p. IsTrue (rules.is_proper_post p)) posts proper) (each_passes (λ p. p.to == c) posts)))

  pub ready_moved : (c : ℕ) (served asks : List Ask) (posts : List Post) (d e : Desk) → Each (IsProperPost rules) posts → IsReadyDesk rules served c d → DeskMoved asks posts c d e → IsReadyDesk rules (served ++ asks) c e
  ready_moved c served asks posts d e proper h m = record {
    received = m.received (asks_by c served) h.received ∙ ap (λ l. l ++ e.pending.items) (sym (asks_by-append c served asks));
    sent = subst (All (IsPostTo rules c)) (sym m.sent) (All-append (IsPostTo rules c) (all_sent d.posts) (posts_to c posts) h.sent (posts_are c posts proper));
  }

  -- what was sent before and after, by the same posts of channels
  pub posts_moved : (c : ℕ) (earlier posts : List Post) (asks : List Ask) (d e : Desk) → all_sent d.posts ≡ posts_to c earlier → DeskMoved asks posts c d e → all_sent e.posts ≡ posts_to c (earlier ++ posts)
  posts_moved c earlier posts asks d e h m = m.sent ∙ (ap (λ l. l ++ posts_to c posts) h ∙ sym (posts_to-append c earlier posts))
