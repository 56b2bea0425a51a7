-- Words for the crates above: which boardings pay, by the last that paid.
pub use Rattle.pay_hopper.specs.LastPaid.{pays_by_last, last_paid_after, marks_by_last, last_paid_over, last_marked}
pub use Rattle.pay_hopper.specs.Laws.{MarksInStretches, LastInStretches, PayingTapsRestart, LastPaidIsMarked, LastMarkedFromAfter}
