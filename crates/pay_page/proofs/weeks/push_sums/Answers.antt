use Rattle.std.proofs.Common.{◌∙◌}
use Rattle.pay_page.proofs.Adding.{then_fifth}
use Rattle.pay_page.proofs.weeks.push_sums.Goals as goal

pub returns : goal.returns
returns c =
    then_fifth _ _ _ _ _ _ _ _ _ _ _ c.in_ok-write.ensures.bytes c.in_ok-write-2.ensures.bytes (rw (c.deref.ensures.value ∙ c.in_ok-credits.ensures) at c.in_ok-push_credits.ensures)
    (rw c.due_reason.ensures at c.in_ok-write-3.ensures.bytes) c.in_ok-push_table_end.ensures
