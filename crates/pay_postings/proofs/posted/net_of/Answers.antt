use Rattle.std.proofs.Common.{rules}
use Rattle.pay_postings.proofs.Settling.{front_money, next_money}
use Rattle.pay_postings.proofs.posted.net_of.Goals as goal

pub with_amount-net-requires : goal.with_amount-net-requires
with_amount-net-requires c =
    next_money c.args.account c.args.week c.args.postings.now c.loop-posting.posting-index c.posting-item.result _ c.requires c.loop-posting.invariant (search rules) (search rules)

pub returns-clause-in_range : goal.returns-clause-in_range
returns-clause-in_range c = front_money c.args.account c.args.week c.args.postings.now c.loop-posting.posting-index _ c.requires c.loop-posting.invariant
