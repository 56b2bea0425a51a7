use Rattle.pay_long_statement.proofs.Added.{amounts_are_due}
use Rattle.pay_long_statement.proofs.Charged.{postings_add_nothing}
use Rattle.pay_long_statement.proofs.laws.amounts_add_up.Goals as goal

pub returns-clause-due : goal.returns-clause-due
returns-clause-due c =
    amounts_are_due c.winners.ensures.named c.winners.ensures.none c.day_reasons.ensures.split c.week_reasons.ensures.split c.day_lists.ensures.sum c.day_reasons.ensures.prices c.week_reasons.ensures.prices c.dues.ensures.all

pub returns-clause-none : goal.returns-clause-none
returns-clause-none c = postings_add_nothing
