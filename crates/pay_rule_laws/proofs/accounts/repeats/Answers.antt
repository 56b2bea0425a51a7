use Rattle.pay_rules.specs.declared.limits.TheConstants.{MOST_TAPS, MOST_FIXES}
use Rattle.pay_rule_laws.proofs.Results.{repeated, repeated_fix}
use Rattle.pay_rule_laws.proofs.accounts.repeats.Goals as goal

pub returns-clause-same_prices : goal.returns-clause-same_prices
returns-clause-same_prices c editions accepted tap priced e = repeated editions accepted tap priced (λ more there. (c.judgements.ensures.repeat MOST_TAPS more.taps tap).1 there) e

pub returns-clause-same_fix_prices : goal.returns-clause-same_fix_prices
returns-clause-same_fix_prices c editions accepted fix priced e = repeated_fix editions accepted fix priced (λ more there. (c.judgements-2.ensures.repeat MOST_FIXES more.fixes fix).1 there) e
