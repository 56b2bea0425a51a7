use Rattle.std.proofs.Common.{take}
use Rattle.std.specs.List.{AllByRecursion}
use Rattle.pay_records.specs.Words.{LedgerRows}
use Rattle.pay_ledger.specs.Examined.{PassesRows}
use Rattle.pay_ledger.specs.Stretched.{HasRowsOfEach}
use Rattle.pay_ledger.proofs.examining.examine_each.Given as goal

abbrev pub invariant-loop-number : goal.invariant-loop-number
invariant-loop-number g l = (rows : LedgerRows) → HasRowsOfEach rows l.stretch l.numbers → AllByRecursion (PassesRows (g.E.Examiner.Passes l.examiner) rows) (take l.number-index l.numbers)
