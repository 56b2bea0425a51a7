use Rattle.pay_statement.proofs.ReadBack.{statement_read}
use Rattle.pay_statement.proofs.laws.read_back.Goals as goal

pub returns : goal.returns
returns c = statement_read
