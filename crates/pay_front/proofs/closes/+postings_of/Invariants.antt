use Rattle.std.proofs.Common.{length}
use Rattle.pay_front.proofs.closes.+postings_of.Given as goal

abbrev pub decreases-postings_of : goal.decreases-postings_of
decreases-postings_of c = length c.replies.now
