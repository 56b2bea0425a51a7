use Rattle.pay_partitions.proofs.ArchivedParts.{ledgers_posted}
use Rattle.pay_partitions.proofs.PostedParts.{parts_posted}
use Rattle.pay_partitions.proofs.laws.parts_are_posted.Goals as goal

pub returns-clause-postings : goal.returns-clause-postings
returns-clause-postings c = parts_posted

pub returns-clause-ledgers : goal.returns-clause-ledgers
returns-clause-ledgers c = ledgers_posted
