use Rattle.std.proofs.Common.{ap}
use Rattle.pay_run.specs.Machine.{Machine}
use Rattle.pay_run.proofs.Asked.{ends_after, same_ledger}
use Rattle.pay_run.proofs.laws.all_else_stays.Goals as goal

pub returns : goal.returns
returns c = record {
  zone = λ marks m list. ap (λ (n : Machine). n.zone) (ends_after marks m list);
  editions = λ marks m list. ap (λ (n : Machine). n.editions) (ends_after marks m list);
  ledger = same_ledger;
}
