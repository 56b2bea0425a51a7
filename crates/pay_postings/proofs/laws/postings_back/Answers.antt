use Rattle.pay_postings.proofs.PostingsBack.{postings_back}
use Rattle.pay_postings.proofs.laws.postings_back.Goals as goal

pub returns : goal.returns
returns c account before ids list shares kept long rise moved = postings_back account before ids list shares kept long rise moved
