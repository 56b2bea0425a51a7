-- Words for the crates above: what may be asked for, and how a request is answered.
pub use Rattle.pay_web.specs.Answers.{Answers}
pub use Rattle.pay_web.specs.Asked.{IsAsked}
