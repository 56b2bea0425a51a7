-- Words for the crates above: what of a ledger does not agree with what accounts have accepted, what was posted for a week and is due, and what no
-- close has reached.
pub use Rattle.pay_audit.specs.Differs.{IsFirstNot, IsOther, IsOtherItem, IsPostedOtherwise, Differs, DiffersIn, AgreeBefore, AgreesAbove, AgreeAfter, AgreeBetween}
pub use Rattle.pay_audit.specs.Settled.{nothing_posted, sums_posted, posted_for, unsettled, IsWeekOf}
pub use Rattle.pay_audit.specs.Unclosed.{is_unclosed}
