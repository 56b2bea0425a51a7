use Rattle.std.proofs.Common.{refl, sym, arith}
use Rattle.pay_caps.proofs.Used.{none_used_of_none}
use Rattle.pay_caps.proofs.cells.Cells.new.Goals as goal

pub invariant_of-result : goal.invariant_of-result
invariant_of-result c = record { spans = refl; fits = omega arith; walked = sym none_used_of_none }
