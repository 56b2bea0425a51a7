use Rattle.pay_json.proofs.Reading.{strings_read_back, values_read_back}
use Rattle.pay_json.proofs.laws.reading_back.Goals as goal

pub returns-clause-strings : goal.returns-clause-strings
returns-clause-strings c = strings_read_back

pub returns-clause-values : goal.returns-clause-values
returns-clause-values c = values_read_back
