-- Posts delivered to cores: each core gets its own, and their order matters not.
use Rattle.std.proofs.Common.{◌≡◌, ◌≢◌, ◌∙◌, ℕ, ◌+◌, ◌==◌, List, [], ◌∷◌, ◌++◌, refl, sym, ap, arith}
use Rattle.std.specs.List.{AllByRecursion as Each, All}
use Rattle.slack_base.specs.declared.messages.Post.{Post}
use Rattle.slack_base.specs.Inboxes.{CoreValue, with_post, with_put}
use Rattle.target_law.specs.Cycles.{changed_at, delivered}
use Rattle.target_law.specs.Drifts.{posts_to}
use Rattle.target_law.specs.Schedules.{with_posts, with_puts}
use Rattle.target_law.specs.Served.{Pairwise, Perm}
use Rattle.slack_base.proofs.Inboxes.{all_with_post}
use Rattle.target_law.proofs.Lists.{each_weaker, each_passes, numbered_any, filter-yes, filter-no}
use Rattle.target_law.proofs.Numbers.{eq_is, eq_is_not, eq_of}
use Rattle.violation_watch.proofs.Channels.{IsApart}
use Rattle.violation_watch.proofs.Inboxes.{with_posts_perm}
use Rattle.violation_watch.proofs.Lists.{pairwise_filter, each_both, map_from, map_from_agree, map_from-id}
use Rattle.violation_watch.proofs.Perms.{perm_filter}
use Rattle.violation_watch.proofs.Places.{map_from-changed}

own_post : (c : ℕ) (p : Post) (posts : List Post) → c ≡ 0 + p.to → posts_to c (p ∷ posts) ≡ p ∷ posts_to c posts
own_post c p posts e = filter-yes (λ p. p.to == c) p posts (eq_is p.to c (omega arith))

other_post : (c : ℕ) (p : Post) (posts : List Post) → c ≢ 0 + p.to → posts_to c (p ∷ posts) ≡ posts_to c posts
other_post c p posts e = filter-no (λ p. p.to == c) p posts (eq_is_not p.to c (λ same. e (omega arith)))

-- the posts to one core are of different asks
pub apart_to : (c : ℕ) (posts : List Post) → Each (λ p. p.to ≡ c) posts → Pairwise IsApart posts → Pairwise (λ p q. p.id ≢ q.id) posts
apart_to c [] to h = tt
apart_to c (p ∷ posts) to h =
    (each_weaker (λ q k. k.1 (to.0 ∙ sym k.0)) posts (each_both (λ q. q.to ≡ c) (IsApart p) posts to.1 h.0), apart_to c posts to.1 h.1)

module _ {Inner : Type 0} where
  -- the core with its posts
  abbrev pub given : List Post → ℕ → CoreValue Inner → CoreValue Inner
  given posts c core = with_puts core (posts_to c posts)

  pub delivered-given : (cores : List (CoreValue Inner)) (posts : List Post) → delivered cores posts ≡ map_from (given posts) 0 cores
  delivered-given cores [] = sym (map_from-id 0 cores)
  delivered-given cores (p ∷ posts) =
      delivered-given (changed_at p.to (with_put p) cores) posts
      ∙ map_from-changed (with_put p) (given posts) (given (p ∷ posts)) 0 p.to cores
      (λ c core e. ap (with_puts core) (sym (own_post c p posts e)))
      (λ c core e. ap (with_puts core) (sym (other_post c p posts e)))

  pub delivered-append : (cores : List (CoreValue Inner)) (posts others : List Post) → delivered cores (posts ++ others) ≡ delivered (delivered cores posts) others
  delivered-append cores [] others = refl
  delivered-append cores (p ∷ posts) others = delivered-append (changed_at p.to (with_put p) cores) posts others

  -- in any order
  pub delivered_perm : (cores : List (CoreValue Inner)) (ps qs : List Post) → Perm Post ps qs → Pairwise IsApart ps → delivered cores ps ≡ delivered cores qs
  delivered_perm cores ps qs perm apart =
      delivered-given cores ps
      ∙ map_from_agree (given ps) (given qs) 0 cores (numbered_any 0 (λ c core low. ap (λ inbox. record core { inbox = inbox })
      (with_posts_perm (perm_filter (λ p. p.to == c) perm)
      (apart_to c (posts_to c ps) (each_weaker (λ p e. eq_of p.to c e) (posts_to c ps) (each_passes (λ p. p.to == c) ps)) (pairwise_filter (λ p. p.to == c) IsApart ps apart))
      core.inbox)) cores)
      ∙ sym (delivered-given cores qs)

module _ (P : Post → Type 0) where
  pub all_with_posts : (inbox posts : List Post) → All P inbox → Each P posts → All P (with_posts inbox posts)
  all_with_posts inbox [] all are = all
  all_with_posts inbox (p ∷ posts) all are = all_with_posts (with_post inbox p) posts (all_with_post P inbox p all are.0) are.1
