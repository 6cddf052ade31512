-- What the monitors record of a drift.
use Rattle.std.specs.Prelude.{ℕ, ◌+◌, ◌==◌, Bool, false, List, [], ◌∷◌, ◌++◌, map, filter, Option, Some, None, nat_lt, nat_le, ◌&&◌, not, if◌then◌else◌}
use Rattle.std.specs.List.{flat_map}
use Rattle.slack_base.specs.declared.histories.Drift.{Drift}
use Rattle.slack_base.specs.declared.histories.Taken.{Taken}
use Rattle.slack_base.specs.declared.histories.Violation.{Violation}
use Rattle.slack_base.specs.declared.histories.Violation.TheVariants.{Bus, Map, Line, Reply as LateReply}
use Rattle.slack_base.specs.declared.messages.Ask.{Ask}
use Rattle.slack_base.specs.declared.messages.Post.{Post}
use Rattle.slack_base.specs.declared.messages.PostKind.{PostKind}
use Rattle.slack_base.specs.declared.messages.PostKind.TheVariants.{Reply, Retry, SnoopShare, SnoopOwn, Invalidate}
use Rattle.slack_base.specs.declared.stamps.Id.{Id}
use Rattle.slack_base.specs.Messages.{id_of, line_of}
use Rattle.slack_base.specs.Stamps.{is_above}
use Rattle.target_law.specs.Rules.{Rules}
use Rattle.target_law.specs.Schedules.{is_invalidate}

-- the greatest of some ids, if there is any
abbrev pub greater : Id → Option Id → Id
greater i None = i
greater i (Some j) = if is_above i j then i else j

abbrev pub greatest : List Id → Option Id
greatest [] = None
greatest (i ∷ ids) = Some (greater i (greatest ids))

-- the greatest of the ids of these asks that is above the id, if any is
abbrev pub greatest_above : Id → List Ask → Option Id
greatest_above low earlier = greatest (filter (λ high. is_above high low) (map id_of earlier))

abbrev pub is_of_line : ℕ → Option ℕ → Bool
is_of_line line None = false
is_of_line line (Some other) = other == line

-- the asks of this line
abbrev pub asks_of_line : ℕ → List Ask → List Ask
asks_of_line line asks = filter (λ ask. is_of_line line (line_of ask)) asks

-- Bus: an ask was served that clashed with a greater id
abbrev pub bus_entry : (channel : ℕ) (low : Id) → Option Id → List Violation
bus_entry channel low None = []
bus_entry channel low (Some high) = Bus channel high low ∷ []

-- Map: an ask of a line was served after one of the same line with a greater id
abbrev pub map_entry : (line : ℕ) (low : Id) → Option Id → List Violation
map_entry line low None = []
map_entry line low (Some high) = Map line high low ∷ []

-- a byte for the console is of no line
abbrev pub map_entries : (earlier : List Ask) → Id → Option ℕ → List Violation
map_entries earlier low None = []
map_entries earlier low (Some line) = map_entry line low (greatest_above low (asks_of_line line earlier))

-- Reply: a reply or a retry was taken after it was due. Line: a snoop or an Invalidate was
abbrev pub late_entry : (core : ℕ) → Post → (clock : ℕ) → PostKind → Violation
late_entry core p clock (Reply exclusive words) = LateReply core p.id p.due clock
late_entry core p clock Retry = LateReply core p.id p.due clock
late_entry core p clock SnoopShare = Line core p.id p.due clock
late_entry core p clock SnoopOwn = Line core p.id p.due clock
late_entry core p clock Invalidate = Line core p.id p.due clock

-- a late Invalidate is harmless where the core touched no more, since it was due, what it is about, and where it is taken
-- before the drift's end
abbrev pub is_harmless : (end : ℕ) → Taken → Bool
is_harmless end x = is_invalidate x.post.kind && (nat_le x.touched x.post.due && nat_lt x.clock end)

-- what is recorded where a core takes a post, in a drift that ends at this clock
abbrev pub take_entries : (core end : ℕ) → Taken → List Violation
take_entries core end x =
    if nat_lt x.post.due x.clock && not (is_harmless end x) then late_entry core x.post x.clock x.post.kind ∷ [] else []

-- of the posts of each core, the first of them the core of number c
abbrev pub all_take_entries : (c end : ℕ) → List (List Taken) → List Violation
all_take_entries c end [] = []
all_take_entries c end (taken ∷ sent) = flat_map (take_entries c end) taken ++ all_take_entries (c + 1) end sent

module _ {Inner Chan : Type 0} (rules : Rules Inner Chan) where
  -- what is recorded where an ask is served after these, with this clash
  abbrev pub serve_entries : (earlier : List Ask) → Option Id → Ask → List Violation
  serve_entries earlier clash ask = bus_entry (rules.channel_of ask) (id_of ask) clash ++ map_entries earlier (id_of ask) (line_of ask)

  abbrev pub all_serve_entries : (earlier : List Ask) → List (Option Id) → List Ask → List Violation
  all_serve_entries earlier clashes [] = []
  all_serve_entries earlier [] (ask ∷ asks) = []
  all_serve_entries earlier (clash ∷ clashes) (ask ∷ asks) = serve_entries earlier clash ask ++ all_serve_entries (earlier ++ ask ∷ []) clashes asks

  -- all that is recorded, in order: of the asks as they were served, and then of the posts of core after core
  abbrev pub scan_of : Drift → List Violation
  scan_of d = all_serve_entries [] d.clashes d.served ++ all_take_entries 0 (d.start + d.len) d.sent
