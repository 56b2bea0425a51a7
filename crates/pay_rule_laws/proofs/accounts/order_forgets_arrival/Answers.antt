use Rattle.pay_rules.specs.declared.limits.TheConstants.{MOST_TAPS, MOST_FIXES}
use Rattle.pay_rule_laws.proofs.Changes.{forgets}
use Rattle.pay_rule_laws.proofs.accounts.order_forgets_arrival.Goals as goal

pub returns : goal.returns
returns c = λ editions accepted list other alike are.
    forgets editions accepted list other (c.order_forgets_arrival.ensures MOST_TAPS) (c.order_forgets_arrival-2.ensures MOST_FIXES) alike are
