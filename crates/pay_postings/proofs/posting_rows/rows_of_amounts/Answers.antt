use Rattle.std.proofs.Common.{rules}
use Rattle.pay_postings.proofs.RowPlaces.{rows_are}
use Rattle.pay_postings.proofs.posting_rows.rows_of_amounts.Goals as goal

pub returns : goal.returns
returns c = rows_are c.args.id _ c.loop-place.place c.args.amounts.now c.loop-place.rows.items (search rules) (search rules) (search rules) c.loop-place.invariant
