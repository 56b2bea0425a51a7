use Rattle.std.proofs.Common.{rules, arith, map, ap, ◌∙◌}
use Rattle.std.specs.Prelude.{pos}
use Rattle.pay_postings.proofs.Settling.{shares_of_last, shares_of_none}
use Rattle.pay_postings.proofs.posted.Posted.shares.Goals as goal

pub returns-in-Some-clause-value : goal.returns-in-Some-clause-value
returns-in-Some-clause-value c =
    ap (map pos) c.shares.ensures.value ∙ (shares_of_last c.args.account c.args.week c.args.self.now c.in-Some.last.now (search rules) (search rules)).0

pub returns-in-Some-clause-in_range : goal.returns-in-Some-clause-in_range
returns-in-Some-clause-in_range c =
    let last = shares_of_last c.args.account c.args.week c.args.self.now c.in-Some.last.now (search rules) (search rules) in
    omega (arith, c.shares.ensures.all, last.1.in_range)

pub returns-in-None-clause-value : goal.returns-in-None-clause-value
returns-in-None-clause-value c = shares_of_none c.args.account c.args.week c.args.self.now (search rules) (search rules)
