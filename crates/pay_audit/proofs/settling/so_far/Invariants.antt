use Rattle.std.proofs.Common.{◌≡◌, take, IfSome}
use Rattle.pay_day.specs.Words.{IsDay}
use Rattle.pay_audit.specs.Settled.{so_far}
use Rattle.pay_audit.proofs.settling.so_far.Given as goal

abbrev pub invariant-loop-posting : goal.invariant-loop-posting
invariant-loop-posting l = (l.posted ≡ so_far (take l.posting-index l.postings)) × IfSome l.posted (λ it. IsDay it.through)
