use Rattle.pay_close.specs.Close.{new_books}
use Rattle.pay_histories.proofs.Histories.{kept_after}
use Rattle.pay_histories.proofs.laws.paid.Goals as goal

pub returns : goal.returns
returns c editions events are = kept_after c.paid.ensures.all editions new_books events are c.paid.ensures.none
