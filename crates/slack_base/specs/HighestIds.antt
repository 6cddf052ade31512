-- The greatest id of some messages, and which ids it is above.
use Rattle.std.specs.Prelude.{Option, Some, None, if◌then◌else◌}
use Rattle.slack_base.specs.declared.stamps.Id.{Id}
use Rattle.slack_base.specs.Stamps.{is_above}

-- the greater of an id and the greatest of those before it
abbrev pub later_of : Option Id → Id → Id
later_of None id = id
later_of (Some high) id = if is_above high id then high else id

-- the greatest of those before, where it is above the id
abbrev pub clash_with : Option Id → Id → Option Id
clash_with None id = None
clash_with (Some high) id = if is_above high id then Some high else None
