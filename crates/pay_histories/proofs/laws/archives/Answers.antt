use Rattle.pay_histories.proofs.Restoring.{archive_restored, closed_restored}
use Rattle.pay_histories.proofs.laws.archives.Goals as goal

pub returns-clause-restored : goal.returns-clause-restored
returns-clause-restored c = archive_restored c.archived_is_restored.ensures

pub returns-clause-as_they_are : goal.returns-clause-as_they_are
returns-clause-as_they_are c = closed_restored c.archived_is_restored.ensures c.restored_as_it_was.ensures
