use Rattle.pay_money.proofs.Proportions.{part_up, part_down, share_up, share_down}
use Rattle.pay_money.proofs.laws.within_a_penny.Goals as goal

pub returns-clause-part_up : goal.returns-clause-part_up
returns-clause-part_up c = part_up

pub returns-clause-part_down : goal.returns-clause-part_down
returns-clause-part_down c = part_down

pub returns-clause-share_up : goal.returns-clause-share_up
returns-clause-share_up c = share_up

pub returns-clause-share_down : goal.returns-clause-share_down
returns-clause-share_down c = share_down
