use Rattle.std.proofs.Common.{◌≡◌, drop}
use Rattle.pay_postings.specs.Amounts.{IsMoney}
use Rattle.pay_postings.specs.NetRows.{with_amounts_of, net_from_rows}
use Rattle.pay_postings.proofs.posting_rows.net_from_rows.Given as goal

-- what is left, after the sum so far, comes to all
abbrev pub invariant-loop-row : goal.invariant-loop-row
invariant-loop-row l = record {
  sum : with_amounts_of l.week l.net (drop l.row-index l.rows) ≡ net_from_rows l.week l.rows;
  money : IsMoney l.net;
}
