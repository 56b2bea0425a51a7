use Rattle.pay_restore.proofs.Archive.{archived}
use Rattle.pay_restore.proofs.laws.archived_is_restored.Goals as goal

pub returns : goal.returns
returns c = archived c.taps_back.ensures c.fixes_back.ensures
