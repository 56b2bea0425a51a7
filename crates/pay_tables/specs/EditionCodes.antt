-- How editions are stored as numbers, so that a model may hold them.
use Rattle.std.specs.Prelude.{ℕ, List, refl}
use Rattle.std.specs.Coded.{Coded, code_by, coded×, coded_ℕ, coded_list}
use Rattle.pay_tables.specs.declared.edition.Edition.{Edition}
use Rattle.pay_tables.specs.FareTables.{FareTables}
use Rattle.pay_tables.specs.FareEditions.{FareEditions}
use Rattle.pay_tables.specs.Codes.{fare_tables_code}

-- an edition is stored as its day and its tables, and editions as the file's own tables and the list of them
abbrev pub edition_code : Coded Edition
edition_code = code_by (ℕ × FareTables) (coded× coded_ℕ fare_tables_code) (λ e. (e.day, e.tables)) (λ p. record { day = p.0; tables = p.1 }) (λ _. refl)

abbrev pub fare_editions_code : Coded FareEditions
fare_editions_code = code_by (FareTables × List Edition) (coded× fare_tables_code (coded_list edition_code)) (λ e. (e.own, e.items)) (λ p. record { own = p.0; items = p.1 }) (λ _. refl)
