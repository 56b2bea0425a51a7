use Rattle.std.proofs.Common.{◌+◌, arith}
use Rattle.pay_records.proofs.Wholes.{moved, bad_at}
use Rattle.pay_records.proofs.told.FixRowTold.told.Goals as goal

pub returns-in_err-whole-6-clause-bad : goal.returns-in_err-whole-6-clause-bad
returns-in_err-whole-6-clause-bad c =
    bad_at _ _ c.args.row.now (c.args.from + 1 + 1 + 1 + 1 + 1) (c.args.from + 5) _ c.from_residual-in_err-whole-6.ensures.1 c.in_err-whole-6.ensures.bad (omega arith) (λ all. all.1.1.1.1.1.0)

pub returns-in_err-whole-7-clause-bad : goal.returns-in_err-whole-7-clause-bad
returns-in_err-whole-7-clause-bad c =
    bad_at _ _ c.args.row.now (c.args.from + 1 + 1 + 1 + 1 + 1 + 1) (c.args.from + 6) _ c.from_residual-in_err-whole-7.ensures.1 c.in_err-whole-7.ensures.bad (omega arith) (λ all. all.1.1.1.1.1.1.0)

pub returns-in_err-whole-8-clause-bad : goal.returns-in_err-whole-8-clause-bad
returns-in_err-whole-8-clause-bad c =
    bad_at _ _ c.args.row.now (c.args.from + 1 + 1 + 1 + 1 + 1 + 1 + 1) (c.args.from + 7) _ c.from_residual-in_err-whole-8.ensures.1 c.in_err-whole-8.ensures.bad (omega arith) (λ all. all.1.1.1.1.1.1.1.0)

pub returns-clause-are_whole : goal.returns-clause-are_whole
returns-clause-are_whole c = (c.in_ok-whole.ensures.is_whole, (c.in_ok-whole-2.ensures.is_whole, (moved c.args.row.now (c.args.from + 2) (c.args.from + 1 + 1) (omega arith) c.in_ok-whole-3.ensures.is_whole, (moved c.args.row.now (c.args.from + 3) (c.args.from + 1 + 1 + 1) (omega arith) c.in_ok-whole-4.ensures.is_whole, (moved c.args.row.now (c.args.from + 4) (c.args.from + 1 + 1 + 1 + 1) (omega arith) c.in_ok-whole-5.ensures.is_whole, (moved c.args.row.now (c.args.from + 5) (c.args.from + 1 + 1 + 1 + 1 + 1) (omega arith) c.in_ok-whole-6.ensures.is_whole, (moved c.args.row.now (c.args.from + 6) (c.args.from + 1 + 1 + 1 + 1 + 1 + 1) (omega arith) c.in_ok-whole-7.ensures.is_whole, (moved c.args.row.now (c.args.from + 7) (c.args.from + 1 + 1 + 1 + 1 + 1 + 1 + 1) (omega arith) c.in_ok-whole-8.ensures.is_whole, tt))))))))
