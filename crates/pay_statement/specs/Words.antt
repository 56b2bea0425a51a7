-- Words for the crate above: the text of a statement.
pub use Rattle.pay_statement.specs.Statement.{statement_text}
