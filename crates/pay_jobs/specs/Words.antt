-- Words for the program above: how its jobs end, what its faults are, and what a service day is.
pub use Rattle.pay_jobs.specs.Faults.{status_of, stream_fault, told_of, IsRefusal, IsWantOfMemory, IsUnread}
pub use Rattle.pay_jobs.specs.Texts.{Texts, texts}
pub use Rattle.pay_jobs.specs.Run.{IsRefused, Begins, Resumes, AreRead, HasBegun, AreNotRead, IsNotBegun, RanOver, JobRan, HasRun, IsNotRun, HasNotRun}
pub use Rattle.pay_jobs.specs.Taken.{IsOfDifference, IsLackedTap, IsLackedFix, IsDifferenceTold, IsFirstDifference, AgreesThere, DiffersThere, IsTakenWith, IsNotTakenWith}
pub use Rattle.pay_jobs.specs.Kept.{IsOtherThanKept, AreAsKept, AreOtherThanKept}
pub use Rattle.pay_jobs.specs.Statement.{StatementWritten, StatementRefused}
pub use Rattle.pay_day.specs.Words.{IsDay}
pub use Rattle.pay_jobs.specs.Replays.{ReplayWritten, ReplayRefused}
