use Rattle.std.proofs.Common.{◌≡◌, [], All, sym, subst}
use Rattle.std.proofs.lemmas.List.Elements.{All-push}
use Rattle.slack_base.specs.declared.messages.Ask.{Ask}
use Rattle.slack_base.specs.declared.messages.Post.{Post}
use Rattle.stamp_queue.specs.Rings.{all_sent, all_received}
use Rattle.stamp_queue.specs.declared.receivers.Receiver.{Receiver}
use Rattle.stamp_queue.specs.declared.senders.Sender.{Sender}
use Rattle.trio_tests.proofs.managers.add_rings.Goals as goal

pub returns-clause-unused : goal.returns-clause-unused
returns-clause-unused c = record {
  receivers =
      subst (All (λ (a : Receiver Ask). all_received a ≡ [])) (sym c.in_ok-push.ensures.ok)
      (All-push (λ (a : Receiver Ask). all_received a ≡ []) c.args.asks.now c.in_ok-ask_sender.ask_receiver c.requires.receivers c.in_ok-ask_sender.ensures.receiver.0);
  senders =
      subst (All (λ (s : Sender Post). all_sent s ≡ [])) (sym c.in_ok-push-2.ensures.ok)
      (All-push (λ (s : Sender Post). all_sent s ≡ []) c.args.posts.now c.in_ok-post_sender.post_sender c.requires.senders c.in_ok-post_sender.ensures.sender.0);
}
