-- Words for the crates above: the lines of an account, and what comes of a text whose lines are added.
pub use Rattle.pay_account_lines.specs.OwnLines.{account_of, is_own, own_lines, lines_through}
pub use Rattle.pay_account_lines.specs.Adding.{HasAccount, IsOther, IsRefused}
