use Rattle.std.proofs.Common.{◌≡◌, Err, subst, sym, ◌∙◌}
use Rattle.std.specs.Prelude.{◌≢◌}
use Rattle.toml.specs.Parse.{parse_document}
use Rattle.pay_fare_file.specs.declared.fault.FareFileFault.TheVariants as fault
use Rattle.pay_fare_file.specs.FareFile.{fare_text}
use Rattle.pay_fare_file.specs.FaultPlaces.{TellsOfText}
use Rattle.pay_editions.proofs.Forgetting.{answer_ok, answer_refused, answer_not_toml}
use Rattle.pay_editions.proofs.reading.read_editions.Goals as goal

pub returns-in-Ok-clause-ok : goal.returns-in-Ok-clause-ok
returns-in-Ok-clause-ok c = answer_ok c.args.text.now (parse_document c.args.text.now) c.in-Ok.editions (subst (TellsOfText c.args.text.now) c.in-Ok.is c.read.ensures)

pub returns-in-Err-clause-not_toml : goal.returns-in-Err-clause-not_toml
returns-in-Err-clause-not_toml c = λ e.
    let same : c.fault.result ≡ fault.NotToml = cc in
    answer_not_toml c.args.text.now (parse_document c.args.text.now) c.in-Err.misread (subst (TellsOfText c.args.text.now) c.in-Err.is c.read.ensures) (sym c.fault.ensures ∙ same)

pub returns-in-Err-clause-refused : goal.returns-in-Err-clause-refused
returns-in-Err-clause-refused c =
    subst (λ f. f ≢ fault.Memory → fare_text c.args.text.now ≡ Err f) (sym c.fault.ensures)
    (answer_refused c.args.text.now (parse_document c.args.text.now) c.in-Err.misread (subst (TellsOfText c.args.text.now) c.in-Err.is c.read.ensures))
