-- What parts say together.
use Rattle.std.specs.Prelude.{ℕ, List}
use Rattle.pay_tables.specs.declared.band.Band.{Band}
use Rattle.pay_tables.specs.declared.network.Network.{Network}
use Rattle.pay_tables.specs.declared.parts.EditionParts.{EditionParts}
use Rattle.pay_tables.specs.declared.parts.FareParts.{FareParts}
use Rattle.pay_tables.specs.declared.rules.Rules.{Rules}
use Rattle.pay_tables.specs.declared.single.Single.{Single}
use Rattle.pay_tables.specs.FareTables.{FareTables}

-- tables, from what all editions of a file share, and from what one of them says of legs, prices and caps
abbrev pub tables_from : Network → List ℕ × Rules × List Single × List Band → FareTables
tables_from network said = record {
  zones = network.zones;
  minutes = said.0;
  rules = said.1;
  singles = said.2;
  bands = said.3;
  holidays = network.holidays.items;
  places = network.places;
  interchanges = network.interchanges.items;
}

abbrev pub tables_of : FareParts → FareTables
tables_of parts = record {
  zones = parts.zones;
  minutes = parts.minutes.items;
  rules = parts.rules;
  singles = parts.singles.items;
  bands = parts.bands.items;
  holidays = parts.holidays.items;
  places = parts.places;
  interchanges = parts.interchanges.items;
}

-- the tables of an edition: what it says anew, and the rest as it was
abbrev pub edition_of : FareTables → EditionParts → FareTables
edition_of own parts = record own { minutes = parts.minutes.items; rules = parts.rules; singles = parts.singles.items; bands = parts.bands.items }
