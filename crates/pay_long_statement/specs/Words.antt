-- Words for the crates above: the rows of a week, their text, and what their columns add up to.
pub use Rattle.pay_long_statement.specs.Weeks.{last_day, rows_through, week_rows, posted_rows}
pub use Rattle.pay_long_statement.specs.Text.{columns, fields_of, statement_text}
pub use Rattle.pay_long_statement.specs.Sums.{added, taken_off, posted}
pub use Rattle.pay_long_statement.specs.Laws.{AmountsAreDue, PostingsAddNothing, PostingsAddUp}
