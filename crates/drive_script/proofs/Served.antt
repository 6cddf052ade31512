-- A world that is stored, once an ask was served.
use Rattle.std.proofs.Common.{◌≡◌, ◌∙◌, ℕ, ◌<◌, List, [], ◌∷◌, ◌++◌, map, length, get_or, set, Option, Some, None, refl, sym, ap}
use Rattle.slack_base.specs.declared.messages.Ask.{Ask}
use Rattle.slack_base.specs.declared.messages.Post.{Post}
use Rattle.slack_base.specs.declared.stamps.Id.{Id}
use Rattle.target_law.specs.Cycles.{through}
use Rattle.target_law.specs.Rules.{Rules}
use Rattle.drive_script.specs.Worlds.{LaneValue, WorldValue, oldest, without_oldest, posted, oldest_ask, world_serving}
use Rattle.drive_script.proofs.Places.{stored_seen, stored_changed, stored_same}

abbrev pub world_by : {Inner Chan : Type 0} → ℕ → List (LaneValue Inner) → List Chan → List Ask → List (Option Id) → WorldValue Inner Chan
world_by end lanes chans served clashes = record { end = end; lanes = lanes; chans = chans; served = served; clashes = clashes }

pub world_path : {Inner Chan : Type 0} (end : ℕ) {ls ms : List (LaneValue Inner)} {cs ds : List Chan} {xs ys : List Ask} {hs is : List (Option Id)}
    → ls ≡ ms → cs ≡ ds → xs ≡ ys → hs ≡ is
    → world_by end ls cs xs hs ≡ world_by end ms ds ys is
world_path end p q r s = λ i. record { end = end; lanes = p i; chans = q i; served = r i; clashes = s i }

module _ {Inner Chan L : Type 0} (rules : Rules Inner Chan) (view : L → LaneValue Inner) (end c : ℕ) (lanes : List L) (chans : List Chan) (served : List Ask) (clashes : List (Option Id)) where
  abbrev before : WorldValue Inner Chan
  before = record { end = end; lanes = map view lanes; chans = chans; served = served; clashes = clashes }

  -- there is no such core
  pub serving_past : oldest_ask (map view lanes) c ≡ None → before ≡ world_serving rules c (oldest_ask (map view lanes) c) before
  serving_past e = sym (ap (λ o. world_serving rules c o before) e)

  -- no ask waits
  module _ (d new : L) (within : c < length lanes) (is : d ≡ get_or lanes c d) where
    pub oldest_here : (o : Option Ask) → oldest (view d).asks ≡ o → oldest_ask (map view lanes) c ≡ o
    oldest_here o e = stored_seen view c lanes d within is (λ lane. oldest lane.asks) None ∙ e

    pub serving_none : oldest (view d).asks ≡ None → view new ≡ view d
        → world_by end (map view (set lanes c new)) chans served clashes ≡ world_serving rules c (oldest_ask (map view lanes) c) before
    serving_none e same =
        world_path end (stored_same view c lanes d within is new same) refl refl refl ∙ serving_past (oldest_here None e)

    pub serving_some : (x : Ask) → oldest (view d).asks ≡ Some x → view new ≡ without_oldest (view d)
        → (posts : List Post) → posts ≡ (through rules chans (x ∷ [])).posts
        → (last : List L) → map view last ≡ posted (map view (set lanes c new)) posts
        → (chans_after : List Chan) → chans_after ≡ (through rules chans (x ∷ [])).chans
        → (clashes_after : List (Option Id)) → clashes_after ≡ clashes ++ (through rules chans (x ∷ [])).clashes
        → (served_after : List Ask) → served_after ≡ served ++ x ∷ []
        → world_by end (map view last) chans_after served_after clashes_after ≡ world_serving rules c (oldest_ask (map view lanes) c) before
    serving_some x e less posts posts_are last last_are chans_after chans_are clashes_after clashes_are served_after served_are =
        world_path end
        (last_are ∙ ap (posted (map view (set lanes c new))) posts_are
        ∙ ap (λ ls. posted ls (through rules chans (x ∷ [])).posts) (stored_changed view c lanes d within is (λ lane. without_oldest lane) new less))
        chans_are served_are clashes_are
        ∙ sym (ap (λ o. world_serving rules c o before) (oldest_here (Some x) e))
