use Rattle.std.proofs.Common.{◌≡◌, Ok, Some, rules, ap, sym}
use Rattle.std.proofs.lemmas.Result.{IfOk-at_ok}
use Rattle.toml.specs.View.{table_view}
use Rattle.pay_tables.specs.Words.{IsFareTables, FareTables, AreOfOneFile}
use Rattle.pay_fare_file.specs.FaultPlaces.{minutes_told, rules_at_told, singles_told, bands_told, tables_of_edition_told}
use Rattle.pay_editions.proofs.Forgetting.{found, tables_of_edition_untold}
use Rattle.pay_editions.proofs.Ranges.{tables_of_edition_are}
use Rattle.pay_editions.proofs.editions.tables_of_edition.Goals as goal

pub edition-requires : goal.edition-requires
edition-requires c =
    let own : FareTables = c.args.own.now in
    let keys = table_view c.args.table.now in
    let said : FareTables = record own {
      minutes = c.in_ok-minutes.minutes.items;
      rules = c.in_ok-rules.rules;
      singles = c.in_ok-singles.singles.items;
      bands = c.in_ok-bands.bands.items;
    } in
    let given : tables_of_edition_told own keys ≡ Ok said = search rules in
    (IfOk-at_ok (λ tables. IsFareTables tables × AreOfOneFile own tables) (found (tables_of_edition_told own keys) (tables_of_edition_untold own keys) given) (tables_of_edition_are own c.in_range.ensures keys)).0

pub returns : goal.returns
returns c =
    let own : FareTables = c.args.own.now in
    let keys = table_view c.args.table.now in
    let minutes : minutes_told own.zones keys ≡ Ok c.in_ok-minutes.minutes.items = search rules in
    let those : rules_at_told (Some own.rules.hopper) keys ≡ Ok c.in_ok-rules.rules = search rules in
    let singles : singles_told own.zones keys ≡ Ok c.in_ok-singles.singles.items = search rules in
    let bands : bands_told own.zones keys ≡ Ok c.in_ok-bands.bands.items = search rules in
    rw (minutes, those, singles, bands) (ap Ok (sym c.in_ok-tables.ensures))
