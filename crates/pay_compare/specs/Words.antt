-- Words for the crates above: whether two fare files agree on a day, and where they differ.
pub use Rattle.pay_compare.specs.Agreement.{AgreeThrough, IsKnownPlace, KeepsNetwork, PriceAlike}
pub use Rattle.pay_compare.specs.Differences.{DayDiffers, IsDifference, NetworkDiffers}
