use Rattle.pay_postings.proofs.Settling.{comes, ledger_leaves}
use Rattle.pay_postings.proofs.laws.paid.Goals as goal

pub returns-clause-one_more : goal.returns-clause-one_more
returns-clause-one_more c list after quote given kept is e = (comes list after given quote kept is e).kept

pub returns-clause-all : goal.returns-clause-all
returns-clause-all c ledger after quotes sets given kept are e = (ledger_leaves 0 0 ledger after quotes sets given kept are e).kept
