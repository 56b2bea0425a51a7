use Rattle.pay_postings.proofs.NetRows.{net_of_postings}
use Rattle.pay_postings.proofs.laws.net_of_rows.Goals as goal

pub returns : goal.returns
returns c = net_of_postings
