-- Spans within fewer zones are within more.
use Rattle.std.proofs.Common.{ℕ, ◌≤◌, arith}
use Rattle.pay_tables.specs.declared.zones.Span.{Span}
use Rattle.pay_tables.specs.Spans.{IsSpan}

pub wider : (zones most : ℕ) (span : Span) → IsSpan zones span → zones ≤ most → IsSpan most span
wider zones most span h few = record { from = h.from; to = (h.to.0, omega (arith, h.to.1, few)) }
