-- Words for the crates above: commands that a desk took, and what a close comes to.
pub use Rattle.pay_till.specs.Taken.{Taken, commands_of, IsAnswerTo, AreAnswered}
pub use Rattle.pay_till.specs.Closes.{AreQuotes, gives_quotes, brings_quotes, AreInTime, IsShort, is_of_close, put_off, IsClose, IsClosed, IsWithin, IsClosedAt}
unfoldable pub use Rattle.pay_till.specs.Closes.{MaySometimeRefuse, MaySometimeBeLate}
