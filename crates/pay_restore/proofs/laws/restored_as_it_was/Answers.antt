use Rattle.pay_restore.proofs.Archive.{as_it_was}
use Rattle.pay_restore.proofs.laws.restored_as_it_was.Goals as goal

pub returns : goal.returns
returns c = as_it_was
