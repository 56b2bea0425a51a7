use Rattle.pay_clerks.proofs.Numbers.{numbers_differ}
use Rattle.pay_clerks.proofs.laws.numbers_differ.Goals as goal

pub returns : goal.returns
returns c = numbers_differ
