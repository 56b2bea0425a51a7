-- When two bands are one.
use Rattle.std.specs.Prelude.{◌==◌, ◌&&◌, Bool}
use Rattle.pay_tables.specs.declared.band.Band.{Band}
use Rattle.pay_tables.specs.Words.{same_cover}

-- they cover the same, and their caps are the same
abbrev pub same_band : Band → Band → Bool
same_band band other = same_cover band.cover other.cover && band.day == other.day && band.week == other.week
