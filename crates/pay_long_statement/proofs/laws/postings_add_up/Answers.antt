use Rattle.pay_long_statement.proofs.Charged.{postings_add_up}
use Rattle.pay_long_statement.proofs.laws.postings_add_up.Goals as goal

pub returns : goal.returns
returns c = postings_add_up
