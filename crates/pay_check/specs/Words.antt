-- Words for the program above: how the job check ends.
pub use Rattle.pay_check.specs.Against.{AgainstEnds, AgainstFails, last_of}
pub use Rattle.pay_check.specs.Counting.{CheckEnds, CheckFails, IsRefused}
