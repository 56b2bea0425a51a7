-- Words for the crates above.
pub use Rattle.pay_blocks.specs.Parts.{BlocksParts}
