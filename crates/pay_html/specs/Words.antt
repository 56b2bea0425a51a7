-- The word of this crate's contracts.
pub use Rattle.pay_html.specs.Escapes.{escaped}
