-- How many lines a marked channel has noted.
use Rattle.std.specs.Prelude.{ℕ, ◌+◌, ◌≡◌, ◌<◌, ◌≤◌, List, length}
use Rattle.slack_base.specs.declared.bounds.TheConstants.{TOP}
use Rattle.status_map.specs.declared.views.EntryView.{EntryView}
use Rattle.bus_model.specs.declared.lines.Note.{Note}
use Rattle.bus_model.specs.Channels.{ChannelValue, asks_of, count_of, entries_of}
use Rattle.bus_model.specs.Journals.{restored}

-- so many entries, put back, lead from these entries to those
pub record Restores (count : ℕ) (after before : List EntryView) : Type 0 where
  pub journal : List Note
  pub length : length journal ≡ count
  pub entries : restored after journal ≡ before

-- so many lines were noted since the mark: no more than there are, and no more than asks were served since then, while
-- they are counted; and the entries at the mark are those of now with so many put back
pub record IsNotedSince (before after : ChannelValue) (count : ℕ) : Type 0 where
  pub lines : count ≤ count_of after
  pub asks : asks_of after < TOP → asks_of before + count ≤ asks_of after
  pub entries : Restores count (entries_of after) (entries_of before)
