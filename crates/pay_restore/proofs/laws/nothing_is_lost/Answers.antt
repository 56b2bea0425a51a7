use Rattle.pay_restore.proofs.Archive.{told}
use Rattle.pay_restore.proofs.laws.nothing_is_lost.Goals as goal

pub returns : goal.returns
returns c = told
