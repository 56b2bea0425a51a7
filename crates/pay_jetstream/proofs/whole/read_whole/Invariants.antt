use Rattle.pay_jetstream.specs.Taken.{Takes}
use Rattle.pay_jetstream.proofs.whole.read_whole.Given as goal

-- what is held is what was taken
abbrev pub invariant-loop : goal.invariant-loop
invariant-loop g l = Takes (g.R.Read.remaining l.fn.reader) (g.R.Read.remaining l.reader) l.held.items
