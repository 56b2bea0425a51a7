use Rattle.std.proofs.Common.{◌≡◌, Ok, rules}
use Rattle.std.proofs.lemmas.Result.{IfOk-at_ok}
use Rattle.toml.specs.View.{table_view}
use Rattle.pay_tables.specs.Words.{IsFareTables, FareTables}
use Rattle.pay_fare_file.specs.FaultPlaces.{own_keys_told}
use Rattle.pay_editions.proofs.Forgetting.{found, own_keys_untold}
use Rattle.pay_editions.proofs.Ranges.{own_keys_are}
use Rattle.pay_editions.proofs.reading.own_keys.Goals as goal

pub new-requires : goal.new-requires
new-requires c =
    let said : FareTables = record {
      zones = c.in_ok-zones.zones;
      minutes = c.in_ok-minutes.minutes.items;
      rules = c.in_ok-rules.rules;
      singles = c.in_ok-singles.singles.items;
      bands = c.in_ok-bands.bands.items;
      holidays = c.in_ok-holidays.holidays.items;
      places = c.in_ok-places.places;
      interchanges = c.in_ok-interchanges.interchanges.items;
    } in
    let keys = table_view c.args.file.now in
    let given : own_keys_told keys ≡ Ok said = search rules in
    IfOk-at_ok IsFareTables (found (own_keys_told keys) (own_keys_untold keys) given) (own_keys_are keys)
