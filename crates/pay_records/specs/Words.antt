-- Words for the crates above: the rows of a ledger and the tables that hold them, those of a ledger of version 1, what is found in
-- them, what a database is to a ledger, and what a call says of the database.
pub use Rattle.pay_records.specs.Tables.{ledger_schema}
pub use Rattle.pay_records.specs.Places.{Places, HasLedgerTables, IsOthers, ledger_places, ledger_has, other_schema, other_places, other_has}
unfoldable pub use Rattle.pay_records.specs.Rows.{HoldsRows}
pub use Rattle.pay_records.specs.Rows.{LedgerRows, RiseFrom, posting_row, no_rows, with_posting, with_share, with_tap, with_fix}
pub use Rattle.pay_records.specs.Found.{Finds, FindsFirst, postings_of, shares_of, taps_of, fixes_of, posted_accounts, tapped_accounts, fixed_accounts}
pub use Rattle.pay_records.specs.Found.{rows_of, is_between, postings_between, shares_between, taps_between, fixes_between}
pub use Rattle.pay_records.specs.Picked.{postings_picked, shares_picked, taps_picked, fixes_picked}
pub use Rattle.pay_records.specs.Kinds.{IsOfKind, has_view}
pub use Rattle.pay_records.specs.Free.{IsFree, ledger_tables, new_tables, empty_is_free}
unfoldable pub use Rattle.pay_records.specs.FirstVersion.{HoldsFirst}
pub use Rattle.pay_records.specs.FirstVersion.{HasFirstTables, IsUpgradable, first_posting_row, without_edition, without_editions}
pub use Rattle.pay_records.specs.Copied.{GrowsBeside, Upgrades}
pub use Rattle.pay_records.specs.Steps.{GoesOn, OthersStay, KeepsOthers, Changes, Grows, MakesLedger, with_tables}
pub use Rattle.pay_records.specs.Calls.{OnCleanDisk, OnCleanDiskInside, LeavesAsBeforeOr, LeavesAsBefore, CommitsNothing, CommitsNothingInside}
pub use Rattle.pay_records.specs.Calls.{StaysInside, StaysInsideOrOut, Answers, AnswersInside, Refuses, Does, DoesInside}
pub use Rattle.pay_records.specs.Calls.{SeesInSchema, SeesNoTables, FindsInRows, FindsInFirst, ChangesRows, ChangesRowsInside, NeverBadOfRows}
