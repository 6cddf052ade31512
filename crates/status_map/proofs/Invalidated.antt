-- A core takes a line that others share.
use Rattle.std.proofs.Common.{◌≡◌, ℕ, ◌+◌, true, false, List, [], ◌∷◌, ◌++◌, max, map, nat_lt, refl, ap, ◌∙◌}
use Rattle.std.specs.List.{fold}
use Rattle.std.proofs.lemmas.List.{map-append}
use Rattle.slack_base.specs.declared.stamps.Id.{Id}
use Rattle.slack_base.specs.declared.messages.Ask.TheVariants.{ReadOwn}
use Rattle.slack_base.specs.declared.messages.Post.{Post}
use Rattle.slack_base.specs.declared.messages.PostKind.TheVariants.{Reply, Invalidate}
use Rattle.status_map.specs.declared.views.EntryKind.TheVariants.{Shared, Owned}
use Rattle.status_map.specs.declared.views.EntryView.{EntryView}
use Rattle.status_map.specs.declared.views.Delays.{Delays}
use Rattle.status_map.specs.Cores.{others}
use Rattle.status_map.specs.Table.{send, post_of, settled_by, serve, row}

module _ (id : Id) (line grant delay : ℕ) where
  sent_all : (xs : List ℕ) → map (post_of id line grant) (map (λ k. send k delay Invalidate) xs) ≡ map (λ k. post_of id line grant (send k delay Invalidate)) xs
  sent_all [] = refl
  sent_all (x ∷ xs) = ap (λ ys. post_of id line grant (send x delay Invalidate) ∷ ys) (sent_all xs)

  -- an invalidation settles nothing
  settled_after : (settled : ℕ) (xs : List ℕ) (ys : List Post) → fold settled_by settled (map (λ k. post_of id line grant (send k delay Invalidate)) xs ++ ys) ≡ fold settled_by settled ys
  settled_after settled [] ys = refl
  settled_after settled (x ∷ xs) ys = settled_after settled xs ys

pub read_own_shared : (d : Delays) (grant : ℕ) (id : Id) (line : ℕ) (e : EntryView) (cores : ℕ) → e.kind ≡ Shared cores → nat_lt grant e.settled ≡ false
    → serve d grant (ReadOwn id line) e
    ≡ record {
      entry = record { kind = Owned id.core; settled = max e.settled (grant + d.memory + 1); words = e.words };
      posts = map (λ k. post_of id line grant (send k d.snoop Invalidate)) (others cores id.core) ++ post_of id line grant (send id.core d.memory (Reply true e.words)) ∷ [];
    }
unfolding serve row
read_own_shared d grant id line e cores shared late =
    let reply = send id.core d.memory (Reply true e.words) in
    let them = others cores id.core in
    let posts : map (post_of id line grant) (map (λ k. send k d.snoop Invalidate) them ++ reply ∷ []) ≡ map (λ k. post_of id line grant (send k d.snoop Invalidate)) them ++ post_of id line grant reply ∷ []
    = map-append (post_of id line grant) (map (λ k. send k d.snoop Invalidate) them) (reply ∷ []) ∙ ap (λ ps. ps ++ post_of id line grant reply ∷ []) (sent_all id line grant d.snoop them) in
    rw (shared, late, posts, settled_after id line grant d.snoop e.settled them (post_of id line grant reply ∷ [])) refl
