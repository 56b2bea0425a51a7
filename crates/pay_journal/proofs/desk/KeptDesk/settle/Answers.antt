use Rattle.pay_journal.proofs.KeptDesks.{not_all_settled}
use Rattle.pay_journal.proofs.desk.KeptDesk.settle.Goals as goal

pub invariant_of-self-in-Err : goal.invariant_of-self-in-Err
invariant_of-self-in-Err g c =
    let d = c.self.inside in
    not_all_settled g.K.Keeper.HasFailed g.K.Keeper.holds d.began.value d.keeper c.settle.new.self d.first.value d.seen.value d.desk d.stuck c.self.invariant c.if-self.false c.settle.ensures.same c.in-Err.ensures.failed
