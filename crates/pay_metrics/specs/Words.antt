-- The word of this crate's contracts.
pub use Rattle.pay_metrics.specs.Metrics.{metrics_text}
