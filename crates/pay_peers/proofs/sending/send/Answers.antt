use Rattle.pay_peers.proofs.Sent.{sent_next}
use Rattle.pay_peers.proofs.sending.send.Goals as goal

pub returns-in_default : goal.returns-in_default
returns-in_default g c = record {
  sent = sent_next _ _ _ _ c.loop.unsent.items c.deref.result.now c.loop.sent c.send_once.new.sent c.deref.ensures.value c.loop.invariant c.send_once.ensures.sent;
  no_word = c.send_once.ensures.no_word;
}

pub loop-preserved : goal.loop-preserved
loop-preserved g c = sent_next _ _ _ _ c.loop.unsent.items c.deref.result.now c.loop.sent c.send_once.new.sent c.deref.ensures.value c.loop.invariant c.in-GoesOn.ensures.sent
