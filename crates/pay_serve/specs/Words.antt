-- Words for the crates above: what a gate keeps and what it is, what lanes have to be and what becomes of them, what a close does, that it is the close of one machine,
-- and what a service leaves gives back.
pub use Rattle.pay_serve.specs.Causes.{IsOutOfPlan, IsServeCause}
pub use Rattle.pay_serve.specs.Closes.{Closing, IsWritten, IsClosedOver, new_desk, IsClosedThrough, IsTold, DayOf, day_of, IsDayClosed, Terms, terms, terms_of, IsServedBy, IsServed, IsServedWith, IsRefusedAgain, IsStopped}
pub use Rattle.pay_serve.specs.Journals.{journal_fault, AreTakenAgain, AreTakenThrough, is_one_stuck, told_with}
pub use Rattle.pay_serve.specs.Lanes.{HasShards, AreAllWith, HasAskedIn, HasAskedAt, HasGoneOn}
pub use Rattle.pay_serve.specs.LeftGates.{AreAllGates, AreUnserved, IsLeftIn}
pub use Rattle.pay_serve.specs.Machines.{AreFronts, IsOneClose, IsAskedAfter, AreAskedAfter, IsOneCloseOf, IsNewOffice, IsOver, IsOverAsOne, ClosesAreOne}
pub use Rattle.pay_serve.specs.Keeping.{is_other, is_kept, kept_line, kept_lines, of_others}
pub use Rattle.pay_serve.specs.KeepingGates.{GateParts, gate_code, WereSettled, HoldsPassed}
pub use Rattle.pay_serve.specs.Kept.{IsAllOrButLast, answered_of, HasKept, HasKeptNone, PassedAreKept, KeptAreNew}
pub use Rattle.pay_serve.specs.Stays.{HasAnsweredOver, IsCloseOfOne, HasStayed, IsStayed}
