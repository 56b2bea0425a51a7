use Rattle.std.proofs.Common.{rules}
use Rattle.pay_postings.proofs.Reading.{read_after}
use Rattle.pay_postings.proofs.posting_rows.posting_after.Goals as goal

pub returns-then-is_amount_after-clause-read : goal.returns-then-is_amount_after-clause-read
returns-then-is_amount_after-clause-read c =
    read_after c.args.account c.args.week c.args.before.now c.args.amounts c.args.row.now c.in_ok-quote.quote _ (search rules) c.in_ok-quote.ensures.read (search rules) (search rules) (search rules)
