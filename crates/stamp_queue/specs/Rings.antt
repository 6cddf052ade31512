-- What a contract sees of the two ends of a ring whose sender keeps what the ring has no room for.
use Rattle.std.specs.Prelude.{◌≡◌, ℕ, List, [], ◌∷◌, ◌++◌}
use Rattle.rtrb.specs.Ring.{sent, received, known_free, known_items, consumer_capacity, SameProducer, SameConsumer, IsPair}
use Rattle.stamp_queue.specs.declared.senders.Sender.{Sender}
use Rattle.stamp_queue.specs.declared.receivers.Receiver.{Receiver}

module _ {X : Type 0} where
  -- what went into the ring, oldest first
  abbrev pub all_pushed : Sender X → List X
  all_pushed s = sent s.producer

  -- what waits for room in the ring, oldest first
  abbrev pub waiting : Sender X → List X
  waiting s = s.overflow.items

  -- all that was sent, oldest first
  abbrev pub all_sent : Sender X → List X
  all_sent s = all_pushed s ++ waiting s

  -- how many free slots the sender knows of
  abbrev pub free_slots : Sender X → ℕ
  free_slots s = known_free s.producer

  -- all that was received, oldest first
  abbrev pub all_received : Receiver X → List X
  all_received r = received r.consumer

  -- the items in the ring that the receiver knows of, oldest first
  abbrev pub known : Receiver X → List X
  known r = known_items r.consumer

  -- how many slots the ring has
  abbrev pub slot_count : Receiver X → ℕ
  slot_count r = consumer_capacity r.consumer

  -- the same end of the same ring, earlier and later
  abbrev pub SameSender : Sender X → Sender X → Type 0
  SameSender a b = SameProducer a.producer b.producer

  abbrev pub SameReceiver : Receiver X → Receiver X → Type 0
  SameReceiver a b = SameConsumer a.consumer b.consumer

  -- the two ends of one ring
  abbrev pub AreEnds : Sender X → Receiver X → Type 0
  AreEnds s r = IsPair s.producer r.consumer

  -- what was received is a front of what was sent
  abbrev pub IsBehind : Receiver X → Sender X → Type 0
  IsBehind r s = (rest : List X) × (all_received r ++ rest ≡ all_sent s)

  -- what was received since then stands at the end of the list, in order
  abbrev pub HandsOver : Receiver X → Receiver X → List X → List X → Type 0
  HandsOver a b old new = (items : List X) × (all_received b ≡ all_received a ++ items) × (new ≡ old ++ items)

  -- the same, but that the last item that was received is lost
  abbrev pub LosesLast : Receiver X → Receiver X → List X → List X → Type 0
  LosesLast a b old new = (items : List X) × (last : X) × (all_received b ≡ all_received a ++ items ++ last ∷ []) × (new ≡ old ++ items)
