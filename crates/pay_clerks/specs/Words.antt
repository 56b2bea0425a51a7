-- Words for the crates above: the clerks of a staff file, and the one of a value of the field `Authorization`.
pub use Rattle.pay_clerks.specs.Clerks.{ClerkOf}
pub use Rattle.pay_clerks.specs.Files.{clerks_of_text}
pub use Rattle.pay_clerks.specs.Found.{clerk_of, staff_named}
