-- Words for the crates above: the equal parts of a total, and its shares by weights.
pub use Rattle.pay_money.specs.Shares.{part, parts, share, shares}
