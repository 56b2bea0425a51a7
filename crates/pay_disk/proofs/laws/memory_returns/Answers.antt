use Rattle.std.proofs.Common.{refl}
use Rattle.pay_disk.proofs.Clean.{always_clean}
use Rattle.pay_disk.proofs.laws.memory_returns.Goals as goal

pub returns : goal.returns
returns c = always_clean (λ _. refl)
