-- Words for the crates above: what is kept beside a journal, and when accounts come to the same by it.
pub use Rattle.pay_kept.specs.Text.{kept_text}
pub use Rattle.pay_kept.specs.Kept.{IsAsKept, IsNotAsKept}
