-- Words for the crates above: that files return what was written.
pub use Rattle.pay_disk.specs.Memory.{ReturnsAll}
