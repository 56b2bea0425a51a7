use Rattle.pay_close.specs.Close.{new_books}
use Rattle.pay_histories.proofs.Histories.{state_after}
use Rattle.pay_histories.proofs.laws.states.Goals as goal

pub returns : goal.returns
returns c editions events = state_after editions new_books events
