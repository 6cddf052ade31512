-- What is true of the two ends of any ring.
use Rattle.stamp_queue.specs.Rings.{SameSender, SameReceiver, AreEnds}
use Rattle.stamp_queue.specs.declared.senders.Sender.{Sender}
use Rattle.stamp_queue.specs.declared.receivers.Receiver.{Receiver}

-- what were ends of one ring are so once each end has gone on, in whichever thread
abbrev pub StayEnds : Type 0 → Type 0
StayEnds X = (s t : Sender X) (r q : Receiver X) → AreEnds s r → SameSender s t → SameReceiver r q → AreEnds t q

-- an end that has gone on twice is still the same
abbrev pub StaySame : Type 0 → Type 0
StaySame X =
    ((a b c : Sender X) → SameSender a b → SameSender b c → SameSender a c)
    × ((a b c : Receiver X) → SameReceiver a b → SameReceiver b c → SameReceiver a c)
