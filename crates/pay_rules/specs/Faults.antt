-- The refusals of a set of taps, and of one of corrections, as those of an account.
use Rattle.pay_rules.specs.declared.addition.AdditionFault.{AdditionFault}
use Rattle.pay_rules.specs.declared.addition.AdditionFault.TheVariants as of_set
use Rattle.pay_rules.specs.declared.fares.TapFault.{TapFault}
use Rattle.pay_rules.specs.declared.fares.TapFault.TheVariants as of_tap
use Rattle.pay_rules.specs.declared.fares.FixFault.{FixFault}
use Rattle.pay_rules.specs.declared.fares.FixFault.TheVariants as of_fix

abbrev pub tap_fault : AdditionFault → TapFault
tap_fault of_set.Conflict = of_tap.Conflict
tap_fault of_set.Full = of_tap.AccountFull
tap_fault of_set.Memory = of_tap.Memory

abbrev pub fix_fault : AdditionFault → FixFault
fix_fault of_set.Conflict = of_fix.FixConflict
fix_fault of_set.Full = of_fix.FixesFull
fix_fault of_set.Memory = of_fix.Memory
