use Rattle.std.proofs.Common.{◌≡◌, ◌∙◌, ◌∷◌, ap, nat_cmp, Some, subst, sym}
use Rattle.std.specs.BTreeMap.{is_at}
use Rattle.std.specs.Map.{remove_entry}
use Rattle.std.proofs.lemmas.Bool.{false≢true}
use Rattle.stamp_queue.specs.OffWheel.{all_posts, AreEntries}
use Rattle.stamp_queue.proofs.ByDue.{take_there, take_last}
use Rattle.stamp_queue.proofs.inbox.off_wheel.OffWheel.take_first.Goals as goal

-- no post of the due is left
pub invariant_of-self-then-is_empty : goal.invariant_of-self-then-is_empty
invariant_of-self-then-is_empty c =
    let entries = c.self.inside.posts.entries in
    let due = c.in_ok-first.first.now in
    let both : Some c.in_ok-first.field-0-1.now ≡ Some c.in_ok-posts.posts.now = sym c.in_ok-first.ensures.value ∙ sym c.in_ok-posts.ensures.value in
    let posts : c.in_ok-first.field-0-1.now ≡ c.in_ok-posts.posts.now = cc in
    let is = posts ∙ c.take_first-post.ensures in
    let now = (c.get_mut.follows.holds c.take_first-post.new.self).0 in
    let last = take_last entries due c.take_first-post.result _ c.take_first-post.new.self c.self.invariant c.in_ok-first.ensures.first is (c.is_empty.ensures.0 c.if-is_empty.true) in
    subst AreEntries (sym (c.remove_due.ensures ∙ ap (remove_entry (is_at (nat_cmp due))) now)) last.0

pub returns-then-is_empty : goal.returns-then-is_empty
returns-then-is_empty c =
    let entries = c.self.inside.posts.entries in
    let due = c.in_ok-first.first.now in
    let both : Some c.in_ok-first.field-0-1.now ≡ Some c.in_ok-posts.posts.now = sym c.in_ok-first.ensures.value ∙ sym c.in_ok-posts.ensures.value in
    let posts : c.in_ok-first.field-0-1.now ≡ c.in_ok-posts.posts.now = cc in
    let is = posts ∙ c.take_first-post.ensures in
    let now = (c.get_mut.follows.holds c.take_first-post.new.self).0 in
    let last = take_last entries due c.take_first-post.result _ c.take_first-post.new.self c.self.invariant c.in_ok-first.ensures.first is (c.is_empty.ensures.0 c.if-is_empty.true) in
    sym c.self.view_is ∙ last.1 ∙ ap (λ es. c.take_first-post.result ∷ all_posts es) (sym (c.remove_due.ensures ∙ ap (remove_entry (is_at (nat_cmp due))) now))

-- some are
pub invariant_of-self-else-is_empty : goal.invariant_of-self-else-is_empty
invariant_of-self-else-is_empty c =
    let entries = c.self.inside.posts.entries in
    let due = c.in_ok-first.first.now in
    let both : Some c.in_ok-first.field-0-1.now ≡ Some c.in_ok-posts.posts.now = sym c.in_ok-first.ensures.value ∙ sym c.in_ok-posts.ensures.value in
    let posts : c.in_ok-first.field-0-1.now ≡ c.in_ok-posts.posts.now = cc in
    let is = posts ∙ c.take_first-post.ensures in
    let now = (c.get_mut.follows.holds c.take_first-post.new.self).0 in
    let there = take_there entries due c.take_first-post.result _ c.take_first-post.new.self c.self.invariant c.in_ok-first.ensures.first is in
    subst AreEntries (sym now) (there.0 (λ none. false≢true (sym c.if-is_empty.false ∙ c.is_empty.ensures.1 none)))

pub returns-else-is_empty : goal.returns-else-is_empty
returns-else-is_empty c =
    let entries = c.self.inside.posts.entries in
    let due = c.in_ok-first.first.now in
    let both : Some c.in_ok-first.field-0-1.now ≡ Some c.in_ok-posts.posts.now = sym c.in_ok-first.ensures.value ∙ sym c.in_ok-posts.ensures.value in
    let posts : c.in_ok-first.field-0-1.now ≡ c.in_ok-posts.posts.now = cc in
    let is = posts ∙ c.take_first-post.ensures in
    let now = (c.get_mut.follows.holds c.take_first-post.new.self).0 in
    let there = take_there entries due c.take_first-post.result _ c.take_first-post.new.self c.self.invariant c.in_ok-first.ensures.first is in
    sym c.self.view_is ∙ there.1 ∙ ap (λ es. c.take_first-post.result ∷ all_posts es) (sym now)
