use Rattle.std.proofs.Common.{◌+◌, arith}
use Rattle.pay_records.proofs.Wholes.{bad_at}
use Rattle.pay_records.proofs.told.Tuple2I64PostingRowTold.told.Goals as goal

pub returns-in_err-whole-5-clause-bad : goal.returns-in_err-whole-5-clause-bad
returns-in_err-whole-5-clause-bad c =
    bad_at _ _ c.args.row.now (c.args.from + 1 + 1 + 1 + 1 + 1) (c.args.from + 5) _ c.from_residual-in_err-whole-5.ensures.1 c.in_err-whole-5.ensures.bad (omega arith) (λ all. all.1.1.1.1.1.0)

pub returns-in_err-whole-6-clause-bad : goal.returns-in_err-whole-6-clause-bad
returns-in_err-whole-6-clause-bad c =
    bad_at _ _ c.args.row.now (c.args.from + 1 + 1 + 1 + 1 + 1 + 1) (c.args.from + 6) _ c.from_residual-in_err-whole-6.ensures.1 c.in_err-whole-6.ensures.bad (omega arith) (λ all. all.1.1.1.1.1.1.0)
