use Rattle.std.proofs.Common.{◌≡◌, ◌++◌, take}
use Rattle.bus_model.proofs.posts.send_all.Given as goal

-- the posts before this one were sent
abbrev pub invariant-loop-post : goal.invariant-loop-post
invariant-loop-post l = l.out ≡ l.fn.out ++ take l.post-index l.posts
