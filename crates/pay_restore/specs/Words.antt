-- Words for the crates above: the accounts of an archive, and what an archive is.
pub use Rattle.pay_restore.specs.Restored.{tap_of_row, fix_of_row, restored, with_accepted, AreAccountsOf}
pub use Rattle.pay_restore.specs.Archives.{tap_account, fix_account, tap_rows, fix_rows, IsArchivedTap, IsArchivedFix, AreTogether, IsArchive, IsSetOf, HasOf, AreRestored, AreTold}
pub use Rattle.pay_restore.specs.Laws.{RestoredIsTold, ArchivedIsRestored, RestoredIsAsBefore, ValuesMakeSet}
