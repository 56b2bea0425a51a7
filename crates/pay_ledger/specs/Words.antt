-- Words for the crates above: the refusals of a ledger, what a ledger is, how a database is opened as one, and what a call does to it and
-- says of it.
pub use Rattle.pay_ledger.specs.Faults.{open_fault_number, open_fault_name, wants_memory, is_of_store, open_fault_of_read, ledger_fault_of_read}
pub use Rattle.pay_ledger.specs.BadRows.{ReadsAs, IsReadable, IsBad, net_said, IsNetOf, quoted, in_sets, asked, IsAmong, AreReadable, IsReadFrom, WereRead, IsBadAmong, IsJudgedByRows}
pub use Rattle.pay_ledger.specs.OneReading.{HaveOneAmount, bad_is_not_readable, share_is_bad, reads_one, bad_in_each_order}
pub use Rattle.pay_ledger.specs.Stores.{AreRowsOf, Stores, IsLedger, row_of_posting, row_of_tap, row_of_fix, with_shares, with_postings, with_taps, with_fixes}
pub use Rattle.pay_ledger.specs.Opening.{nothing, HasNoView, readying_of, IsWhy, IsReadied, IsWhyNot, IsOpened, MayLeaveOpened, KeepsLedger, BlankBecomesLedger, BlankJustGrows, IsLedgerOrBlank}
pub use Rattle.pay_ledger.specs.Opening.{IsFirstLedger, FirstIsCopied, FirstBecomesLedger}
unfoldable pub use Rattle.pay_ledger.specs.Steps.{IsOnDisk}
pub use Rattle.pay_ledger.specs.Steps.{Stays, GoesOn, IsStep, HasGoneOn, HasStopped, RowsGrow, Grows, FindsRows, FindsLedger, ReadsInto, IsRefused, BecomesPosted, Posts, IsAsBefore, MayLeave}
pub use Rattle.pay_ledger.specs.Examined.{accounts, accounts_in, PassesRows, AllPassRows, PassRowsBefore, PassUpTo, PassesIn, AllPass, PassBefore, IsFoundOfRows, IsFoundAmong, IsFoundInRows, IsFoundIn}
pub use Rattle.pay_ledger.specs.Last.{has_posting, has_row, IsHad, newest_in}
pub use Rattle.pay_ledger.specs.Calls.{ChangesNothing, ChangesNothingIfRefused, ReadsIntoIfDone, GrowsInside, IsJudged}
pub use Rattle.pay_ledger.specs.Calls.{AnswersOfReadable, FindsInHeldRows, RefusesBadRows, RefusesBadAmounts, RefusesBadRowsOf, RefusesBadRowsFirst}
pub use Rattle.pay_ledger.specs.Calls.{FindsInLedger, AnswersOfLedger, RefusesOfLedger, AnswersOfRows, RefusesOfRows, FailsByStoreAlone, FailsByStoreAloneOfRows, RefusesOpenAlone, RefusesAsDefined, IsRefusedAsBad, AreAccountsOf, RestoresRows, RestoresLedger}
