use Rattle.pay_journal.proofs.HandedOn.{AreGotten}
use Rattle.pay_journal.proofs.ahead.hand_on.Given as goal

-- the replies so far were got
abbrev pub invariant-loop-place : goal.invariant-loop-place
invariant-loop-place g l = AreGotten g.D.Desk.parts l.zone l.fn.desk l.text l.left l.tickets.items l.place l.desk l.missed
