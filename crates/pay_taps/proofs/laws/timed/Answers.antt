use Rattle.pay_taps.proofs.Places.{some_timed, timed_with, own_number_among_some}
use Rattle.pay_taps.proofs.laws.timed.Goals as goal

pub returns : goal.returns
returns c = record { some = some_timed; with_one_more = timed_with; own_number = own_number_among_some }
