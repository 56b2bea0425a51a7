use Rattle.std.proofs.Common.{rules}
use Rattle.pay_postings.proofs.Reading.{from_week}
use Rattle.pay_postings.proofs.posting_rows.posting_from_row.Goals as goal

pub returns-clause-value : goal.returns-clause-value
returns-clause-value c = from_week c.args.account c.in_ok-week.week c.args.shares.now c.args.before.now c.args.id c.args.row.now c.amounts_of-amounts.result _ (search rules) (search rules) c.posting_after.ensures.value
