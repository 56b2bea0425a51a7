-- Words for the crates above: what posting quotes does to a ledger, what its postings come to, the rows of postings, taps and
-- corrections and back, and the ledger with a batch.
pub use Rattle.pay_postings.specs.Amounts.{total, no_amounts, added, less, IsMoney}
pub use Rattle.pay_postings.specs.Postings.{is_quote_of, is_of, is_kept, postings_of, net, shares_posted, last_of, post, post_each, last_quote_of}
pub use Rattle.pay_postings.specs.Paid.{IsPaid, ArePaid, AreRead}
pub use Rattle.pay_postings.specs.Archive.{archived_tap, archived_fix, archived_each, archived_set, archived_sets}
pub use Rattle.pay_postings.specs.Ledger.{LedgerParts, posted}
pub use Rattle.pay_postings.specs.PostingRows.{posting_row, share_rows, postings_from_rows}
pub use Rattle.pay_postings.specs.NetRows.{net_from_rows, NetIsOfPostings}
pub use Rattle.pay_postings.specs.AccountRows.{of_account, rows_of, shares_of, RiseAfter}
pub use Rattle.pay_postings.specs.NewRows.{new_taps, new_fixes}
pub use Rattle.pay_postings.specs.Archived.{ArchivedParts, parts, AccountsParts}
pub use Rattle.pay_postings.specs.Batches.{taps_of, fixes_of, archived_of, Agrees, IsThere, Covers, BatchLists, lists, with_batch, IsRefusedAs, IsBatchFor}
pub use Rattle.pay_postings.specs.Laws.{OncePosted, PostedStayKept, ByLastQuote, NetIsDue, SharesAreDue, SharesComeToDue, PostingsAreReadBack}
pub use Rattle.pay_postings.specs.Agreement.{is_quoted_so, is_posted_so, IsRowOf, AccountAgrees, AgreesWith}
