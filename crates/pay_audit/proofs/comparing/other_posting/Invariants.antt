use Rattle.std.proofs.Common.{take}
use Rattle.pay_audit.specs.Differs.{ArePostedSo}
use Rattle.pay_audit.proofs.comparing.other_posting.Given as goal

abbrev pub invariant-loop-posting : goal.invariant-loop-posting
invariant-loop-posting g l = ArePostedSo l.editions (g.F.Fares.account l.account) (g.F.Fares.accepted l.account) (take l.posting-index l.postings)
