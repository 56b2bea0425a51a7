use Rattle.pay_kept.proofs.other.outside_of.Goals as goal

pub outside_in-requires-in-None : goal.outside_in-requires-in-None
outside_in-requires-in-None c = c.new.ensures.any c.editions-new.result.now
