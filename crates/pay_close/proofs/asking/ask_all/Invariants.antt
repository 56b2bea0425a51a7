use Rattle.pay_shard.specs.Words.{NothingIsLost}
use Rattle.pay_till.specs.Words.{MaySometimeBeLate}
use Rattle.pay_close.proofs.AllAsked.{AreGot}
use Rattle.pay_close.proofs.asking.ask_all.Given as goal

-- the replies so far were got
abbrev pub invariant-loop-place : goal.invariant-loop-place
invariant-loop-place g l =
    AreGot (MaySometimeBeLate g.D.Desk.parts (g.D.Desk.parts l.fn.desk).standing) l.day l.of l.tickets.items (g.D.Desk.parts l.fn.desk).taken (g.D.Desk.parts l.fn.desk).standing l.place
    (g.D.Desk.parts l.desk).taken (g.D.Desk.parts l.desk).transcript (g.D.Desk.parts l.desk).standing l.answered
    × NothingIsLost (g.D.Desk.parts l.fn.desk).transcript (g.D.Desk.parts l.desk).transcript
