-- Asks in the order of their ids don't see that their channels were closed before them.
use Rattle.std.proofs.Common.{◌≡◌, ◌∙◌, ℕ, ◌==◌, List, [], ◌∷◌, ◌++◌, map, true, refl, sym, ap, subst}
use Rattle.std.specs.List.{AllByRecursion as Each}
use Rattle.slack_base.specs.declared.messages.Ask.{Ask}
use Rattle.slack_base.specs.declared.messages.Post.{Post}
use Rattle.slack_base.specs.Messages.{id_of}
use Rattle.slack_base.specs.Stamps.{is_above}
use Rattle.target_law.specs.Cycles.{through}
use Rattle.target_law.specs.Laws.{Laws, AreSinceClosed}
use Rattle.target_law.specs.Numbered.{AllNumbered}
use Rattle.target_law.specs.Proper.{IsProperAsk, IsChanOf}
use Rattle.target_law.specs.Rules.{Rules, Owns}
use Rattle.target_law.specs.Served.{AreRising, served_all, Perm, join}
use Rattle.target_law.proofs.Lists.{each_weaker, each_append, each_any, each_passes, numbered_weaker}
use Rattle.target_law.proofs.Numbers.{eq_of}
use Rattle.violation_watch.proofs.Calm.{served_all-append}
use Rattle.violation_watch.proofs.Channels.{asks_on, through-chans, through_posts_perm, chan_of, posts_of}
use Rattle.violation_watch.proofs.Lists.{each_both, each_filter, pairwise_filter, map_from, flat_map_from, map_from_agree, flat_map_from_agree, map-map_from, map_from-map_from, flat_map_from-map_from}
use Rattle.violation_watch.proofs.Perms.{perm_of, perm_back}

abbrev pub IsAfter : List Ask → Ask → Type 0
IsAfter before x = Each (λ y. is_above (id_of x) (id_of y) ≡ true) before

module _ {Inner Chan : Type 0} (rules : Rules Inner Chan) where
  -- the two channels serve these asks alike, and are the same once they are closed
  pub record IsAlike (one other : Chan) (asks : List Ask) : Type 0 where
    pub posts : (served_all rules one asks).1 ≡ (served_all rules other asks).1
    pub value : rules.close (served_all rules one asks).0 ≡ rules.close (served_all rules other asks).0

  module _ (owns : Owns Inner Chan) (laws : Laws rules owns) (place : ℕ) where
    since_more : (chan : Chan) (before : List Ask) (x : Ask) → AreSinceClosed rules owns place chan before → IsProperAsk rules x → rules.channel_of x ≡ place
        → AreSinceClosed rules owns place chan (before ++ x ∷ [])
    since_more chan before x since proper here = record {
      own = since.own;
      closed = since.closed;
      proper = each_append (IsProperAsk rules) before (x ∷ []) since.proper (proper, tt);
      here = each_append (λ y. rules.channel_of y ≡ place) before (x ∷ []) since.here (here, tt);
    }

    alike : (u : Chan) (before : List Ask) (v : Chan) (behind : List Ask) (one other : Chan) (asks : List Ask)
        → AreSinceClosed rules owns place u before → AreSinceClosed rules owns place v behind
        → one ≡ (served_all rules u before).0 → other ≡ (served_all rules v behind).0
        → rules.close one ≡ rules.close other
        → Each (IsProperAsk rules) asks → Each (λ x. rules.channel_of x ≡ place) asks → AreRising asks → Each (IsAfter before) asks → Each (IsAfter behind) asks
        → IsAlike one other asks
    alike u before v behind one other [] since since' is is' same proper here rising after after' = record { posts = refl; value = same }
    alike u before v behind one other (x ∷ asks) since since' is is' same proper here rising after after' =
        let law = laws.reopens u before x (record { since = subst (λ n. AreSinceClosed rules owns n u before) (sym here.0) since; proper = proper.0; above = after.0 }) in
        let law' = laws.reopens v behind x (record { since = subst (λ n. AreSinceClosed rules owns n v behind) (sym here.0) since'; proper = proper.0; above = after'.0 }) in
        let posts : (rules.serve one x).1 ≡ (rules.serve other x).1 =
        ap (λ c. (rules.serve c x).1) is ∙ sym law.posts ∙ ap (λ c. (rules.serve (rules.close c) x).1) (sym is)
        ∙ ap (λ c. (rules.serve c x).1) same
        ∙ ap (λ c. (rules.serve (rules.close c) x).1) is' ∙ law'.posts ∙ ap (λ c. (rules.serve c x).1) (sym is') in
        let value : rules.close (rules.serve one x).0 ≡ rules.close (rules.serve other x).0 =
        ap (λ c. rules.close (rules.serve c x).0) is ∙ sym law.value ∙ ap (λ c. rules.close (rules.serve (rules.close c) x).0) (sym is)
        ∙ ap (λ c. rules.close (rules.serve c x).0) same
        ∙ ap (λ c. rules.close (rules.serve (rules.close c) x).0) is' ∙ law'.value ∙ ap (λ c. rules.close (rules.serve c x).0) (sym is') in
        let rest = alike u (before ++ x ∷ []) v (behind ++ x ∷ []) (rules.serve one x).0 (rules.serve other x).0 asks
        (since_more u before x since proper.0 here.0) (since_more v behind x since' proper.0 here.0)
        (ap (λ c. (rules.serve c x).0) is ∙ ap (λ r. r.0) (sym (served_all-append rules u before (x ∷ []))))
        (ap (λ c. (rules.serve c x).0) is' ∙ ap (λ r. r.0) (sym (served_all-append rules v behind (x ∷ []))))
        value proper.1 here.1 rising.1
        (after_more before asks after.1) (after_more behind asks after'.1) in
        record {
          posts = ap (λ ps. ps ++ (served_all rules (rules.serve one x).0 asks).1) posts ∙ ap (λ ps. (rules.serve other x).1 ++ ps) rest.posts;
          value = rest.value;
        }
      where
        after_both : (before : List Ask) (z : Ask) → IsAfter before z → is_above (id_of z) (id_of x) ≡ true → IsAfter (before ++ x ∷ []) z
        after_both before z h a = each_append (λ y. is_above (id_of z) (id_of y) ≡ true) before (x ∷ []) h (a, tt)

        after_more : (before asks' : List Ask) → Each (IsAfter before) asks → Each (IsAfter (before ++ x ∷ [])) asks
        after_more before asks' h = each_weaker (λ z both. after_both before z both.0 both.1) asks (each_both (IsAfter before) (λ z. is_above (id_of z) (id_of x) ≡ true) asks h rising.0)

    -- closing a channel between the first asks and the rest
    pub alike_closed : (chan : Chan) (first rest : List Ask) → IsChanOf rules owns place chan → rules.close chan ≡ chan
        → Each (IsProperAsk rules) first → AreRising first → Each (IsProperAsk rules) rest → AreRising rest → Each (IsAfter first) rest
        → IsChanOf rules owns place (chan_of rules first place chan)
        → IsAlike (chan_of rules first place chan) (rules.close (chan_of rules first place chan)) (asks_on rules place rest)
    unfolding chan_of
    alike_closed chan first rest own closed proper rising proper' rising' after left =
        let p = λ (x : Ask). rules.channel_of x == place in
        let mine = asks_on rules place first in
        let more = asks_on rules place rest in
        let open' = (served_all rules chan mine).0 in
        alike chan mine (rules.close open') [] open' (rules.close open') more
        (record {
          own = own;
          closed = closed;
          proper = each_filter p (IsProperAsk rules) first proper;
          here = each_weaker (λ x e. eq_of (rules.channel_of x) place e) mine (each_passes p first);
        })
        (record { own = laws.closes place open' left; closed = laws.closes_once place open' left; proper = tt; here = tt })
        refl refl (sym (laws.closes_once place open' left))
        (each_filter p (IsProperAsk rules) rest proper') (each_weaker (λ x e. eq_of (rules.channel_of x) place e) more (each_passes p rest))
        (pairwise_filter p (λ x y. is_above (id_of y) (id_of x) ≡ true) rest rising')
        (each_filter p (IsAfter mine) rest (each_weaker (λ x a. each_filter p (λ y. is_above (id_of x) (id_of y) ≡ true) first a) rest after))
        (each_any (λ x. tt) more)

  -- where that is so of every channel, it is so of all
  module _ (chans : List Chan) (first rest : List Ask)
      (alike : AllNumbered (λ j chan. IsAlike (chan_of rules first j chan) (rules.close (chan_of rules first j chan)) (asks_on rules j rest)) 0 chans) where
    open_chans : (through rules chans first).chans ≡ map_from (chan_of rules first) 0 chans
    open_chans = through-chans rules chans first

    closed_chans : map rules.close (through rules chans first).chans ≡ map_from (λ j chan. rules.close (chan_of rules first j chan)) 0 chans
    closed_chans = ap (map rules.close) open_chans ∙ map-map_from rules.close (chan_of rules first) 0 chans

    pub same_closed : map rules.close (through rules (through rules chans first).chans rest).chans ≡ map rules.close (through rules (map rules.close (through rules chans first).chans) rest).chans
    unfolding chan_of
    same_closed =
        ap (map rules.close) (through-chans rules (through rules chans first).chans rest ∙ ap (map_from (chan_of rules rest) 0) open_chans ∙ map_from-map_from (chan_of rules rest) (chan_of rules first) 0 chans)
        ∙ map-map_from rules.close (λ j chan. chan_of rules rest j (chan_of rules first j chan)) 0 chans
        ∙ map_from_agree (λ j chan. rules.close (chan_of rules rest j (chan_of rules first j chan))) (λ j chan. rules.close (chan_of rules rest j (rules.close (chan_of rules first j chan)))) 0 chans
        (numbered_weaker (λ j chan a. a.value) 0 chans alike)
        ∙ sym (map-map_from rules.close (λ j chan. chan_of rules rest j (rules.close (chan_of rules first j chan))) 0 chans)
        ∙ sym (ap (map rules.close) (through-chans rules (map rules.close (through rules chans first).chans) rest ∙ ap (map_from (chan_of rules rest) 0) closed_chans
        ∙ map_from-map_from (chan_of rules rest) (λ j chan. rules.close (chan_of rules first j chan)) 0 chans))

    pub same_closed_posts : Perm Post (through rules (through rules chans first).chans rest).posts (through rules (map rules.close (through rules chans first).chans) rest).posts
    unfolding posts_of
    same_closed_posts =
        join (through_posts_perm rules (through rules chans first).chans rest)
        (join (perm_of _ _ (
        ap (flat_map_from (posts_of rules rest) 0) open_chans ∙ flat_map_from-map_from (posts_of rules rest) (chan_of rules first) 0 chans
        ∙ flat_map_from_agree (λ j chan. posts_of rules rest j (chan_of rules first j chan)) (λ j chan. posts_of rules rest j (rules.close (chan_of rules first j chan))) 0 chans
        (numbered_weaker (λ j chan a. a.posts) 0 chans alike)
        ∙ sym (ap (flat_map_from (posts_of rules rest) 0) closed_chans ∙ flat_map_from-map_from (posts_of rules rest) (λ j chan. rules.close (chan_of rules first j chan)) 0 chans)))
        (perm_back (through_posts_perm rules (map rules.close (through rules chans first).chans) rest)))
