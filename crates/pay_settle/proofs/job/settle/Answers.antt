use Rattle.std.proofs.Common.{rules}
use Rattle.pay_settle.specs.Ledgers.{IsWhyNotSettled}
use Rattle.pay_settle.proofs.Adding.{by_fault}
use Rattle.pay_settle.proofs.OfLedgers.{not_added, shared_first}
use Rattle.pay_settle.proofs.job.settle.Goals as goal

pub returns-in_err-refuse_shared-clause-refused : goal.returns-in_err-refuse_shared-clause-refused
returns-in_err-refuse_shared-clause-refused c =
    let ledgers = c.args.ledgers.now in
    by_fault c.from_residual.result (IsWhyNotSettled ledgers) c.in_err-refuse_shared.field-0.0 (search rules) (shared_first ledgers c.in_err-refuse_shared.field-0.0 c.in_err-refuse_shared.ensures.refused)

pub returns-in_err-sums-clause-refused : goal.returns-in_err-sums-clause-refused
returns-in_err-sums-clause-refused c =
    let ledgers = c.args.ledgers.now in
    by_fault c.from_residual-in_err-sums.result (IsWhyNotSettled ledgers) c.in_err-sums.field-0.0 (search rules) (not_added ledgers c.in_err-sums.field-0.0 c.in_err-sums.ensures.refused)
