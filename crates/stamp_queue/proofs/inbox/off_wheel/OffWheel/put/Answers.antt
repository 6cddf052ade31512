use Rattle.std.proofs.Common.{◌≡◌, ◌∙◌, [], ◌∷◌, ap, nat_cmp, subst, sym}
use Rattle.std.specs.BTreeMap.{is_at, insert_entry}
use Rattle.std.specs.Map.{set_value}
use Rattle.std.proofs.lemmas.Result.{err_from_is_err_and}
use Rattle.slack_base.specs.Inboxes.{with_post}
use Rattle.stamp_queue.specs.OffWheel.{all_posts, AreEntries}
use Rattle.stamp_queue.proofs.ByDue.{put_there, put_new, same_there}
use Rattle.stamp_queue.proofs.inbox.off_wheel.OffWheel.put.Goals as goal

-- the due has an entry, and there was no memory for the post
pub invariant_of-self : goal.invariant_of-self
invariant_of-self c =
    let entries = c.self.inside.posts.entries in
    let same = same_there entries c.in-Some.posts.now c.args.post.due (sym c.in-Some.ensures.value) in
    let now = (c.get_mut.follows.holds c.put.new.self).0 ∙ ap (set_value (is_at (nat_cmp c.args.post.due)) entries) c.in_err-put.ensures.err ∙ same in
    subst AreEntries (sym now) c.self.invariant

pub returns-in_err-put-clause-err : goal.returns-in_err-put-clause-err
returns-in_err-put-clause-err c =
    let entries = c.self.inside.posts.entries in
    let same = same_there entries c.in-Some.posts.now c.args.post.due (sym c.in-Some.ensures.value) in
    let now = (c.get_mut.follows.holds c.put.new.self).0 ∙ ap (set_value (is_at (nat_cmp c.args.post.due)) entries) c.in_err-put.ensures.err ∙ same in
    let p = err_from_is_err_and c.from_residual.result c.from_residual.ensures.1 in
    rw p.1 (ap all_posts now ∙ c.self.view_is)

-- the due has an entry
pub invariant_of-self-in-Some : goal.invariant_of-self-in-Some
invariant_of-self-in-Some c =
    let put = put_there c.self.inside.posts.entries c.in-Some.posts.now c.put.new.self c.args.post c.in-Some.ensures.ordered c.self.invariant (sym c.in-Some.ensures.value) c.in_ok-put.ensures.ok in
    subst AreEntries (sym (c.get_mut.follows.holds c.put.new.self).0) put.0

pub returns-in-Some-clause-ok : goal.returns-in-Some-clause-ok
returns-in-Some-clause-ok c =
    let put = put_there c.self.inside.posts.entries c.in-Some.posts.now c.put.new.self c.args.post c.in-Some.ensures.ordered c.self.invariant (sym c.in-Some.ensures.value) c.in_ok-put.ensures.ok in
    ap all_posts (c.get_mut.follows.holds c.put.new.self).0 ∙ put.1 ∙ ap (λ posts. with_post posts c.args.post) c.self.view_is

-- the due has no entry yet
pub invariant_of-self-2 : goal.invariant_of-self-2
invariant_of-self-2 c =
    let entries = c.self.inside.posts.entries in
    let due = c.args.post.due in
    let new = put_new entries c.args.post c.in_default.ensures.ordered c.self.invariant (sym c.in_default.ensures.value) in
    let now : c.insert.new.self.entries ≡ insert_entry nat_cmp entries due (c.args.post ∷ []) =
    c.in_ok-insert.ensures.entries ∙ ap (λ m. insert_entry nat_cmp m.entries due c.in_ok-posts.posts) c.get_mut.follows.holds-at-none
    ∙ ap (insert_entry nat_cmp entries due) c.in_ok-posts.ensures in
    subst AreEntries (sym now) new.0

pub returns-clause-ok : goal.returns-clause-ok
returns-clause-ok c =
    let entries = c.self.inside.posts.entries in
    let due = c.args.post.due in
    let new = put_new entries c.args.post c.in_default.ensures.ordered c.self.invariant (sym c.in_default.ensures.value) in
    let now : c.insert.new.self.entries ≡ insert_entry nat_cmp entries due (c.args.post ∷ []) =
    c.in_ok-insert.ensures.entries ∙ ap (λ m. insert_entry nat_cmp m.entries due c.in_ok-posts.posts) c.get_mut.follows.holds-at-none
    ∙ ap (insert_entry nat_cmp entries due) c.in_ok-posts.ensures in
    ap all_posts now ∙ new.1 ∙ ap (λ posts. with_post posts c.args.post) c.self.view_is
