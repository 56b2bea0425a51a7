use Rattle.pay_tests.proofs.Unwilling.{kept_lacking, reply_lacking}
use Rattle.pay_tests.proofs.tills.UnwillingDesk.get.Goals as goal

pub returns-then-self-eq3-clause-transcript : goal.returns-then-self-eq3-clause-transcript
returns-then-self-eq3-clause-transcript c = kept_lacking _ _ c.get.ensures.transcript

pub returns-else-self-eq3-clause-transcript : goal.returns-else-self-eq3-clause-transcript
returns-else-self-eq3-clause-transcript c = kept_lacking _ _ c.get.ensures.transcript

pub returns-else-self-eq3-clause-reply : goal.returns-else-self-eq3-clause-reply
returns-else-self-eq3-clause-reply c = reply_lacking _ _ _ _ c.in_ok-get.ensures.reply
