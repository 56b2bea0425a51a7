use Rattle.std.proofs.Common.{◌≡◌, take}
use Rattle.pay_records.specs.Found.{rows_of}
use Rattle.pay_records.proofs.read.rows_of.Given as goal

abbrev pub invariant-loop-own : goal.invariant-loop-own
invariant-loop-own g l = l.list.items ≡ rows_of l.account (take l.own-index l.rows)
