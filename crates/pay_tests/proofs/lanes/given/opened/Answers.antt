use Rattle.std.proofs.Common.{refl}
use Rattle.pay_tests.proofs.lanes.given.opened.Goals as goal

-- an open gate has refused nothing
pub open-requires : goal.open-requires
open-requires g c = λ k d within. refl
