use Rattle.pay_partitions.proofs.PartAccounts.{batches}
use Rattle.pay_partitions.proofs.PartRuns.{ledgers}
use Rattle.pay_partitions.proofs.laws.ledgers_are_parts.Goals as goal

pub returns-clause-batches : goal.returns-clause-batches
returns-clause-batches c = batches

pub returns-clause-ledgers : goal.returns-clause-ledgers
returns-clause-ledgers c = ledgers
