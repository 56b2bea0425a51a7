-- Words for the crates above: the close of a day, and what commands and closes come to; what is gathered of a desk for it, and what it
-- does to a ledger.
pub use Rattle.pay_close.specs.Close.{Books, new_books, batch_of_all, close, ledger_after, IsLate, Event, Answered, Closed, after, after_all, history, postings_after, accepted_after, answered, AreQuotes}
pub use Rattle.pay_close.specs.Batches.{in_order_by, in_order, no_batch, both, batch_in, batch_of_answer, brought, gathered, AreBrought, IsWhole}
pub use Rattle.pay_close.specs.Gathers.{fault_of_answer, IsStopped, IsTold, IsAsked, IsAskedAt, IsToldAt}
pub use Rattle.pay_close.specs.Faults.{refusal_of_posting, refusal_of_close, is_outside, is_from_outside}
pub use Rattle.pay_close.specs.Closes.{posted_of, ClosesBy, IsWhy, IsWhySaid, Closes, IsClosedSo, IsClosedSoAt}
pub use Rattle.pay_close.specs.Opens.{is_open, open_count, IsSoOfLedger, IsOnlyRead, IsCount, Opens, IsCounted, IsCountedAt}
pub use Rattle.pay_close.specs.Laws.{Brings, AreOfShards, ShardsGatherAll, ShardsCloseAsMachine, ShardsCloseAsMerge, OneShardGathersAll, OneShardClosesAsMachine}
