use Rattle.drift_run.proofs.Pushed.{crew_more}
use Rattle.drift_run.proofs.crews.Crew.add.Goals as goal

pub returns : goal.returns
returns g c = λ cores pacers h.
    let asks = c.in_ok-ask_sender in
    let posts = c.in_ok-post_sender in
    crew_more cores pacers c.args.self.now _ c.args.core asks.ask_sender posts.post_receiver c.args.pacer c.new-actor.result asks.ask_receiver posts.post_sender
    c.new-actor.ensures asks.ensures.sender.0 posts.ensures.receiver.0 asks.ensures.ends asks.ensures.receiver.0 posts.ensures.ends posts.ensures.sender.0
    c.in_ok-push.ensures.items c.in_ok-push-2.ensures.ok c.in_ok-push-3.ensures.ok h
