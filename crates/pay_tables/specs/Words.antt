-- Words for the crates above: what a fare file says of which days, and in which ranges, its bands, and the span of stations.
pub use Rattle.pay_tables.specs.Spans.{low_of, bounds_with, bounds_of, span_of, same_span, IsSpan, AreSpanBounds}
pub use Rattle.pay_tables.specs.Bands.{same_cover, is_within, covers_span, IsCover, IsBand}
pub use Rattle.pay_tables.specs.FareTables.{FareTables, AreRules, IsPlace, IsSingle, IsInterchange, IsFareTables, station_at, single_fare, allowed_seconds, is_holiday, is_between, interchange, counts}
pub use Rattle.pay_tables.specs.Parts.{edition_of, tables_of}
pub use Rattle.pay_tables.specs.FareEditions.{FareEditions, AreFromLast, AreOfOneFile, IsEdition, IsFareEditions, first_day, on}
