use Rattle.std.proofs.Common.{◌≡◌, [], Some, Err, refl, subst, sym}
use Rattle.std.specs.Prelude.{◌≢◌, IsOk}
use Rattle.toml.specs.View.{table_view}
use Rattle.pay_fare_file.specs.declared.fault.FareFileFault.TheVariants as fault
use Rattle.pay_fare_file.specs.FareFile.{fare_file}
use Rattle.pay_fare_file.specs.FaultPlaces.{fare_file_told}
use Rattle.pay_editions.proofs.Forgetting.{found, fare_file_untold, answer_refused}
use Rattle.pay_editions.proofs.reading.check_file.Goals as goal

pub returns-in-Err-clause-refused : goal.returns-in-Err-clause-refused
returns-in-Err-clause-refused c =
    let keys = table_view c.args.file.now in
    subst (λ f. f ≢ fault.Memory → fare_file keys ≡ Err f) (sym c.fault.ensures) (answer_refused [] (Some keys) c.in-Err.misread c.in-Err.ensures.value)

pub returns-clause-ok : goal.returns-clause-ok
returns-clause-ok c =
    let keys = table_view c.args.file.now in
    subst IsOk (sym (found (fare_file_told keys) (fare_file_untold keys) c.in_default.ensures.value)) refl
