use Rattle.pay_nats.proofs.Staying.{no_frame, stay}
use Rattle.pay_nats.proofs.laws.faults.Goals as goal

pub returns-clause-stay : goal.returns-clause-stay
returns-clause-stay c = stay

pub returns-clause-no_frame : goal.returns-clause-no_frame
returns-clause-no_frame c = no_frame
