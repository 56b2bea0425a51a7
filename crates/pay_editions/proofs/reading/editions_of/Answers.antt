use Rattle.std.proofs.Common.{◌≡◌, Ok, rules}
use Rattle.std.proofs.lemmas.Result.{IfOk-at_ok}
use Rattle.toml.specs.View.{table_view}
use Rattle.pay_tables.specs.Words.{IsFareEditions, FareEditions}
use Rattle.pay_fare_file.specs.FaultPlaces.{fare_file_told}
use Rattle.pay_editions.proofs.Forgetting.{found, fare_file_untold}
use Rattle.pay_editions.proofs.Ranges.{fare_file_is}
use Rattle.pay_editions.proofs.reading.editions_of.Goals as goal

pub new-requires : goal.new-requires
new-requires c =
    let said : FareEditions = record { own = c.in_ok-own.own; items = c.in_ok-items.items.items } in
    let keys = table_view c.args.file.now in
    let given : fare_file_told keys ≡ Ok said = search rules in
    IfOk-at_ok IsFareEditions (found (fare_file_told keys) (fare_file_untold keys) given) (fare_file_is keys)
