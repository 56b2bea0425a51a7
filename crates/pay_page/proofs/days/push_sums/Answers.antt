use Rattle.pay_page.proofs.Adding.{then_third}
use Rattle.pay_page.proofs.days.push_sums.Goals as goal

pub returns : goal.returns
returns c = then_third _ _ _ _ _ _ _ c.in_ok-write.ensures.bytes c.in_ok-write-2.ensures.bytes c.in_ok-push_table_end.ensures
