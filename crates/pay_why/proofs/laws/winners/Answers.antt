use Rattle.pay_why.proofs.Winners.{named_win, none_is_least, name_winners}
use Rattle.pay_why.proofs.laws.winners.Goals as goal

pub returns-clause-named : goal.returns-clause-named
returns-clause-named c = named_win

pub returns-clause-none : goal.returns-clause-none
returns-clause-none c = none_is_least

pub returns-clause-winner : goal.returns-clause-winner
returns-clause-winner c = name_winners
