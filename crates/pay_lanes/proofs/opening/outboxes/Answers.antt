use Rattle.std.proofs.Common.{◌≡◌, ◌∙◌, ap, refl, length, arith}
use Rattle.pay_lanes.proofs.Openings.{after_some, some_all, receivers_step, senders_step}
use Rattle.pay_lanes.proofs.opening.outboxes.Goals as goal

-- each inbox before the next place has made one more
pub loop-inbox-preserved : goal.loop-inbox-preserved
loop-inbox-preserved g c = (
  omega (arith, c.loop-inbox-test.true),
  refl,
  receivers_step c.loop-inbox.inbox-index c.args.inboxes.now c.loop-inbox.inboxes c.outbox.new.self c.inbox-item.result c.loop-inbox-test.true c.loop-inbox.invariant.2 c.in_ok-outbox.ensures.receiver,
  senders_step c.loop-inbox.inbox-index c.args.inboxes.now c.loop-inbox.inboxes c.inbox-item.result c.loop-inbox.made.items c.push.new.self.items c.in_ok-outbox.field-0 c.loop-inbox-test.true c.loop-inbox.invariant.2
      c.loop-inbox.invariant.3 c.in_ok-outbox.ensures.sender c.in_ok-push.ensures.items,
)

-- and at the end all have
pub returns-clause-inboxes : goal.returns-clause-inboxes
returns-clause-inboxes g c =
    let end : c.loop-inbox.inbox-index ≡ length c.args.inboxes.now = omega (arith, c.loop-inbox.invariant.0, c.loop-inbox-test.false) in
    c.loop-inbox.invariant.2 ∙ (ap (λ n. after_some n c.args.inboxes.now) end ∙ some_all c.args.inboxes.now)
