-- What a bus makes of an ask for one of its lines. Of the grant no more is known than that it is no sooner than the ask.
use Rattle.std.proofs.Common.{◌≡◌, ◌∙◌, ℕ, ◌/◌, ◌≤◌, Option, Some, List, refl, sym, ap, subst}
use Rattle.std.specs.Prelude.{slice_set}
use Rattle.slack_base.specs.declared.messages.Ask.{Ask}
use Rattle.slack_base.specs.declared.messages.Post.{Post}
use Rattle.slack_base.specs.Messages.{id_of, line_of}
use Rattle.status_map.specs.declared.views.EntryView.{EntryView}
use Rattle.status_map.specs.Table.{serve}
use Rattle.bus_model.specs.Channels.{BusValue, entry_of}
use Rattle.bus_model.specs.Serving.{grant_of, granted, on_entry, on_line, bus_served}
use Rattle.bus_model.specs.Settings.{SettingValue}
use Rattle.bus_model.proofs.Lawful.{grant_late}

-- the bus after an ask for a line with this entry, and the posts
pub record IsGranted (s : SettingValue) (b : BusValue) (ask : Ask) (line : ℕ) (e : EntryView) (out : BusValue × List Post) : Type 0 where
  pub grant : ℕ
  pub soon : (id_of ask).cycle ≤ grant
  pub setting : out.0.setting ≡ s
  pub entries : out.0.entries ≡ slice_set b.entries (line / s.buses) (serve s.delays grant ask e).entry
  pub posts : out.1 ≡ (serve s.delays grant ask e).posts

module _ (b : BusValue) (ask : Ask) (line : ℕ) (e : EntryView) where
  its_grant : IsGranted b.setting b ask line e (granted b ask line e)
  unfolding granted
  its_grant = record { grant = grant_of b ask; soon = grant_late b ask; setting = refl; entries = refl; posts = refl }

  on_its_line : (o : Option ℕ) (found : Option EntryView) → o ≡ Some line → entry_of b line ≡ found → found ≡ Some e → on_line b ask o ≡ granted b ask line e
  on_its_line o found is at its = ap (on_line b ask) is ∙ ap (on_entry b ask line) (at ∙ its)

pub bus_granted : (s : SettingValue) (b : BusValue) (ask : Ask) (line : ℕ) (e : EntryView) → line_of ask ≡ Some line → b.setting ≡ s → entry_of b line ≡ Some e → IsGranted s b ask line e (bus_served b ask)
unfolding bus_served
bus_granted s b ask line e is same its =
    subst (λ k. IsGranted k b ask line e (bus_served b ask)) same
    (subst (IsGranted b.setting b ask line e) (sym (on_its_line b ask line e (line_of ask) (entry_of b line) is refl its)) (its_grant b ask line e))
