use Rattle.std.proofs.Common.{take}
use Rattle.pay_settle.specs.Ledgers.{accounts_in}
use Rattle.pay_settle.specs.Standing.{AreHomesOf}
use Rattle.pay_settle.proofs.job.refuse_shared.Given as goal

-- where the accounts of the ledgers so far stand is known
abbrev pub invariant-loop-place : goal.invariant-loop-place
invariant-loop-place l = AreHomesOf (take l.place (accounts_in l.ledgers)) l.homes
