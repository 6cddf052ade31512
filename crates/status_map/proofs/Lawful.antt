-- The posts of each row of the table are lawful.
use Rattle.std.proofs.Common.{◌≡◌, ◌≢◌, ℕ, suc, ◌+◌, ◌^◌, ◌<◌, ◌≤◌, Bool, true, false, List, [], ◌∷◌, ◌++◌, Some, None, get_or, map, nat_lt, unwrap_or, refl, arith}
use Rattle.std.specs.List.{All, AllPairs}
use Rattle.std.proofs.lemmas.Bool.{and_parts, not-true, eqb-false}
use Rattle.std.proofs.lemmas.List.Elements.{All-nil, All-cons, All-append, All-map, All-weaker, filter_passes}
use Rattle.std.proofs.lemmas.List.Kept.{AllPairs-filter, AllPairs-cons}
use Rattle.std.proofs.lemmas.List.Quantifiers.{all_pairs_push}
use Rattle.std.proofs.Math.Nat.{one-le-pow}
use Rattle.slack_base.specs.declared.bounds.TheConstants.{MOST_CORES}
use Rattle.slack_base.specs.declared.messages.Words.{Words}
use Rattle.slack_base.specs.declared.messages.Ask.{Ask}
use Rattle.slack_base.specs.declared.messages.Ask.TheVariants.{Read, ReadOwn, WriteBack, Flush}
use Rattle.slack_base.specs.declared.messages.PostKind.TheVariants.{Reply, Invalidate}
use Rattle.slack_base.specs.Messages.{id_of, line_of}
use Rattle.status_map.specs.declared.views.EntryKind.{EntryKind}
use Rattle.status_map.specs.declared.views.EntryKind.TheVariants.{Idle, Shared, Owned, Moving}
use Rattle.status_map.specs.declared.views.Delays.{Delays}
use Rattle.status_map.specs.Cores.{all_cores, is_other, others, only}
use Rattle.status_map.specs.Entries.{NamesBelow}
use Rattle.status_map.specs.Table.{Sending, send, Outcome, outcome, row, owns, post_of, serve}
use Rattle.status_map.specs.Laws.{AreAtLeast, AllLawful}
use Rattle.status_map.proofs.Others.{core_at, count_of_cores}
use Rattle.status_map.proofs.Sets.{with_core-below, below_from_holds}

-- what the row sends and names: the same of the posts follows
record IsLawfulRow (n least : ℕ) (o : Outcome) : Type 0 where
  named : NamesBelow n o.holder
  received : All (λ s. s.core < n) o.sendings
  delayed : All (λ s. least ≤ s.delay) o.sendings
  once : AllPairs (λ s t. s.core ≢ t.core) o.sendings

module _ (n least : ℕ) where
  none : (e : EntryKind) (m : Words) → NamesBelow n e → IsLawfulRow n least (outcome [] e m)
  none e m h = record { named = h; received = All-nil _; delayed = All-nil _; once = λ i j d low high. absurd (omega arith) }

  one : (s : Sending) (e : EntryKind) (m : Words) → NamesBelow n e → s.core < n → least ≤ s.delay → IsLawfulRow n least (outcome (s ∷ []) e m)
  one s e m h low late = record {
    named = h;
    received = All-cons (λ t. t.core < n) s [] low (All-nil _);
    delayed = All-cons (λ t. least ≤ t.delay) s [] late (All-nil _);
    once = λ i j d low' high. absurd (omega arith);
  }

only-below : (n core : ℕ) → core < n → only core < 2 ^ n
only-below n core low = with_core-below n 0 core (one-le-pow n 2 (omega arith)) low

-- the cores of a set but for the one that asks
module _ (n cores asking : ℕ) (few : cores < 2 ^ n) where
  others_pass : All (λ k. is_other cores asking k ≡ true) (others cores asking)
  others_pass = filter_passes (is_other cores asking) all_cores

  others_below : All (λ k. k < n) (others cores asking)
  others_below = All-weaker (λ k. is_other cores asking k ≡ true) (λ k. k < n) (λ k h. below_from_holds n cores k few (and_parts _ _ h).1) _ others_pass

  others_differ : All (λ k. k ≢ asking) (others cores asking)
  others_differ = All-weaker (λ k. is_other cores asking k ≡ true) (λ k. k ≢ asking) (λ k h. eqb-false k asking (not-true _ (and_parts _ _ h).0)) _ others_pass

all_differ : AllPairs {X = ℕ} (λ j k. j ≢ k) all_cores
all_differ i j d low high same =
    let below : j < MOST_CORES = omega (arith, count_of_cores) in
    let first = core_at i d (omega arith) in
    let second = core_at j d below in
    omega arith

-- what holds of each two elements holds of what is made of them
pairs_map : {X Y : Type 0} (f : X → Y) (R : X → X → Type 0) (S : Y → Y → Type 0) → ((x y : X) → R x y → S (f x) (f y)) → (xs : List X) → AllPairs R xs → AllPairs S (map f xs)
pairs_map f R S keeps [] pairs = λ i j d low high. absurd (omega arith)
pairs_map f R S keeps (x ∷ xs) pairs =
    AllPairs-cons S (f x) (map f xs)
    (All-map (S (f x)) f xs (λ k d low. keeps x (get_or xs k d) (pairs 0 (suc k) d (omega arith) (omega arith))))
    (pairs_map f R S keeps xs (λ i j d low high. pairs (suc i) (suc j) d (omega arith) (omega arith)))

taken : (n least : ℕ) (d : Delays) (m : Words) (asking cores : ℕ) → AreAtLeast least d → asking < n → cores < 2 ^ n
    → IsLawfulRow n least (outcome (map (λ k. send k d.snoop Invalidate) (others cores asking) ++ send asking d.memory (Reply true m) ∷ []) (Owned asking) m)
taken n least d m asking cores slow low few =
    let f : ℕ → Sending = λ k. send k d.snoop Invalidate in
    let them = others cores asking in
    let last = send asking d.memory (Reply true m) in
    record {
      named = low;
      received = All-append (λ t. t.core < n) (map f them) (last ∷ []) (All-map (λ t. t.core < n) f them (others_below n cores asking few)) (All-cons (λ t. t.core < n) last [] low (All-nil _));
      delayed = All-append (λ t. least ≤ t.delay) (map f them) (last ∷ []) (All-map (λ t. least ≤ t.delay) f them (λ k e h. slow.0)) (All-cons (λ t. least ≤ t.delay) last [] slow.1 (All-nil _));
      once = all_pairs_push (λ t u. t.core ≢ u.core) (map f them) last
          (pairs_map f (λ j k. j ≢ k) (λ t u. t.core ≢ u.core) (λ j k h. h) them (AllPairs-filter (λ j k. j ≢ k) (is_other cores asking) all_cores all_differ))
          (All-map (λ t. t.core ≢ asking) f them (others_differ n cores asking few));
    }

row_lawful : (n least : ℕ) (d : Delays) (m : Words) (ask : Ask) (e : EntryKind) (mine early : Bool)
    → AreAtLeast least d → (id_of ask).core < n → NamesBelow n e → IsLawfulRow n least (row d m ask e mine early)
unfolding row
row_lawful n b d m (Read i l) (Moving o r x) mine early s c h = one n b _ _ _ h c s.0
row_lawful n b d m (Read i l) (Owned o) mine true s c h = one n b _ _ _ h c s.0
row_lawful n b d m (Read i l) (Owned o) false false s c h = one n b _ _ _ (h, c) h s.0
row_lawful n b d m (Read i l) (Owned o) true false s c h = one n b _ _ _ c c s.1
row_lawful n b d m (Read i l) Idle mine early s c h = one n b _ _ _ c c s.1
row_lawful n b d m (Read i l) (Shared cores) mine early s c h = one n b _ _ _ (with_core-below n cores i.core h c) c s.1
row_lawful n b d m (ReadOwn i l) (Moving o r x) mine early s c h = one n b _ _ _ h c s.0
row_lawful n b d m (ReadOwn i l) e mine true s c h = one n b _ _ _ h c s.0
row_lawful n b d m (ReadOwn i l) (Owned o) false false s c h = one n b _ _ _ (h, c) h s.0
row_lawful n b d m (ReadOwn i l) (Owned o) true false s c h = one n b _ _ _ c c s.1
row_lawful n b d m (ReadOwn i l) Idle mine false s c h = one n b _ _ _ c c s.1
row_lawful n b d m (ReadOwn i l) (Shared cores) mine false s c h = taken n b d m i.core cores s c h
row_lawful n b d m (WriteBack i l w) (Owned o) true early s c h = none n b _ _ tt
row_lawful n b d m (WriteBack i l w) (Moving o r x) true early s c h = none n b _ _ h
row_lawful n b d m (Flush i l w) (Moving o r true) true early s c h = one n b _ _ _ h.1 h.1 s.2
row_lawful n b d m (Flush i l (Some w)) (Moving o r false) true early s c h = one n b _ _ _ (with_core-below n (only i.core) r (only-below n i.core c) h.1) h.1 s.2
row_lawful n b d m (Flush i l None) (Moving o r false) true early s c h = one n b _ _ _ (only-below n r h.1) h.1 s.2
row_lawful n b d m ask e mine early s c h = none n b _ _ h

-- the posts of any ask are lawful
pub all_lawful : AllLawful
unfolding serve
all_lawful n least grant d ask e slow low named =
    let o = row d e.words ask e.kind (owns (id_of ask).core e.kind) (nat_lt grant e.settled) in
    let is = row_lawful n least d e.words ask e.kind (owns (id_of ask).core e.kind) (nat_lt grant e.settled) slow low named in
    let f = post_of (id_of ask) (unwrap_or (line_of ask) 0) grant in
    record {
      named = is.named;
      received = All-map (λ p. p.to < n) f o.sendings is.received;
      carried = All-map (λ p. p.id ≡ id_of ask) f o.sendings (λ k x h. refl);
      due = All-map (λ p. grant + least ≤ p.due) f o.sendings (λ k x h. let late = is.delayed k x h in omega arith);
      once = pairs_map f (λ t u. t.core ≢ u.core) (λ p q. p.to ≢ q.to) (λ t u h. h) o.sendings is.once;
    }
