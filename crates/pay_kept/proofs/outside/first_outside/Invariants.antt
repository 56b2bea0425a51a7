use Rattle.std.proofs.Common.{take}
use Rattle.std.specs.List.{AllByRecursion}
use Rattle.pay_compare.specs.Laws.{IsTouchWithin}
use Rattle.pay_kept.proofs.outside.first_outside.Given as goal

abbrev pub invariant-loop-place : goal.invariant-loop-place
invariant-loop-place l = AllByRecursion (IsTouchWithin l.old l.last) (take l.place l.taps.touches)
